use Rattle.std.proofs.Common.{◌≡◌, ℕ, true, ◌&&◌, ltb, [], ◌∷◌, get_or}
use Rattle.std.proofs.lemmas.Bool.{cond-false, false_from_ne_true, and_left, and_parts, ltb-true}
use Rattle.abstraction.specs.Bounds.{fits}
use Rattle.abstraction.proofs.Tests.{fits_true}
use Rattle.abstraction.specs.declared.interval.Interval.{Interval}
use Rattle.abstraction.specs.declared.scope.Scope.{Scope}
use Rattle.ranking.specs.declared.Region.{Region}
use Rattle.ranking.specs.Items.{clocks_of, none}
use Rattle.merging.specs.Pop.{pops}
use Rattle.region.specs.Asked.{lawful, lies_in, asks, pop_asks}
use Rattle.region.specs.Listed.{rotations, fill, opened}
use Rattle.region.specs.Laws.{Asks, ListsNothing}
use Rattle.region.specs.Shapes.{lawful_holds}

asks_true : (w : Scope) (k : ℕ) (i : Interval) (r : Region) → asks w k i r ≡ true → Asks w k i r
asks_true w k i r h =
    let a = and_parts (lawful w r) (ltb k w.clocks && fits w.top i) h in
    let b = and_parts (ltb k w.clocks) (fits w.top i) a.1 in
    let l = lawful_holds w r a.0 in
    (l.0, l.1, ltb-true k w.clocks b.0, fits_true w.top i b.1)

pub lists_nothing : ListsNothing
lists_nothing = record {
  times = λ w r n. cond-false (lawful w r) (rotations w r []) [] (false_from_ne_true (lawful w r) (λ h. let l = lawful_holds w r h in n (l.0, l.1)));
  tests = λ w k i r n. cond-false (asks w k i r && lies_in i (get_or r.items k none)) (r ∷ []) [] (and_left (asks w k i r) (lies_in i (get_or r.items k none)) (false_from_ne_true (asks w k i r) (λ h. n (asks_true w k i r h))));
  assigns = λ w k i r n. cond-false (asks w k i r) (fill w k i r []) [] (false_from_ne_true (asks w k i r) (λ h. n (asks_true w k i r h)));
  pushes = λ w i r n. cond-false (lawful w r && fits w.top i) (fill w (clocks_of w) i (opened (clocks_of w) r) []) [] (false_from_ne_true (lawful w r && fits w.top i) (λ h.
      let p = and_parts (lawful w r) (fits w.top i) h in
      let l = lawful_holds w r p.0 in
      n (l.0, l.1, fits_true w.top i p.1)));
  pops = λ w i s u n. cond-false (pop_asks w i s u) (pops w s u) [] (false_from_ne_true (pop_asks w i s u) (λ h.
      let p = and_parts (lawful w s) (lawful w u && (fits w.top i && lies_in i (get_or u.items (clocks_of w) none))) h in
      let q = and_parts (lawful w u) (fits w.top i && lies_in i (get_or u.items (clocks_of w) none)) p.1 in
      let t = and_parts (fits w.top i) (lies_in i (get_or u.items (clocks_of w) none)) q.1 in
      let l = lawful_holds w s p.0 in
      n (l.0, l.1, (lawful_holds w u q.0).1, fits_true w.top i t.0)));
}
