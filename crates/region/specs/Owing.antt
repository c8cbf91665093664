use Rattle.std.specs.Prelude.{◌≡◌, ℕ, ◌+◌, ◌<◌, ◌≤◌, Bool, true, false, cond, ◌&&◌, List, [], slice_index_or, refl}
use Rattle.std.proofs.Common.{sym, ap, ◌∙◌, subst, arith}
use Rattle.std.proofs.lemmas.List.{get_or-take}
use Rattle.std.proofs.lemmas.Bool.{both_ways}
use Rattle.abstraction.specs.Owes.{Small, Lawfully, ListsLawfully, Covers}
use Rattle.abstraction.specs.Bounds.{Inside, Fits, fits}
use Rattle.abstraction.specs.Frames.{Frame, Framed, plus, popped}
use Rattle.abstraction.specs.Lists.{In}
use Rattle.abstraction.proofs.Tests.{fits_from}
use Rattle.abstraction.specs.declared.interval.Interval.{Interval}
use Rattle.abstraction.specs.declared.scope.Scope.{Scope}
use Rattle.ranking.specs.declared.Region.{Region}
use Rattle.ranking.specs.Items.{clocks_of, none, places, ceiling}
use Rattle.ranking.specs.Lawful.{front, Lawful}
use Rattle.ranking.proofs.Joined.{same_decides}
use Rattle.merging.specs.Pop.{pops}
use Rattle.merging.specs.Law.{Pops, Popped}
use Rattle.merging.proofs.Law.{pop_law}
use Rattle.region.specs.declared.Regions.{Regions}
use Rattle.region.specs.Asked.{lawful, lies_in, pop_asks}
use Rattle.region.specs.Listed.{time, test, assign, opened, push, pop}
use Rattle.region.specs.Laws.{Exactly, Rotates, Owed, covers, values, ListsExactly, FramesOnce}
use Rattle.region.specs.Regions.{regions, covering}
use Rattle.region.specs.Shapes.{few_places, lawful_holds, lawful_only, asked}
use Rattle.region.specs.Times.{turns_lawful, time_exactly, test_exactly}
use Rattle.region.specs.Fills.{assign_exactly, push_exactly}
use Rattle.region.specs.Span.{lies_from, lies_to}
use Rattle.region.specs.Cover.{lies_held, covered_once, start_covers, time_covers_frames, test_covers, assign_covers, push_covers}
use Rattle.region.specs.ValuesLemmas.{values_age}
use Rattle.region.specs.Pops.{pop_joined}

-- the mergings, where the age above lies in the interval
pop_when : (w : Scope) (i : Interval) (s u : Region) (b : Bool) → pop_asks w i s u ≡ b → Popped w s u (pops w s u) → Exactly (λ t. Pops w s u t × (b ≡ true)) (cond b (pops w s u) [])
pop_when w i s u true h p = record { few = p.few; each = λ t q. p.each t q.0; only = λ t q. (p.only t q, refl); once = p.once }
pop_when w i s u false h p = record { few = omega arith; each = λ t q. absurd (both_ways false refl q.1); only = λ t q. absurd (omega (arith, q.1.0)); once = λ i j d li lj e. omega arith }

pop_exactly : (w : Scope) (i : Interval) (s u : Region) → lawful w s ≡ true → lawful w u ≡ true → Fits w.top i → Exactly (λ t. Pops w s u t × (lies_in i (slice_index_or u.items (clocks_of w) none) ≡ true)) (pop w i s u)
pop_exactly w i s u ls lu f =
    let b = lies_in i (slice_index_or u.items (clocks_of w) none) in
    let e : pop_asks w i s u ≡ b = ap (λ x. x && (lawful w u && (fits w.top i && b))) ls ∙ ap (λ x. x && (fits w.top i && b)) lu ∙ ap (λ x. x && b) (fits_from w.top i f) in
    rw e (pop_when w i s u b e (pop_law w s u (lawful_holds w s ls).1 (lawful_holds w u lu).1))

pub lists_exactly : ListsExactly
lists_exactly w s =
    let n : clocks_of w ≡ w.clocks = omega (arith, s.0) in
    record {
      lawfuls = λ r. ((λ h. (lawful_holds w r h).1), (λ l. lawful_only w r s l));
      intervals = λ i f x D v pos e. ((λ h. lies_to w.top D v x pos e.0 e.1 i f h), (λ h. lies_from w.top D v x pos e.0 e.1 i f h));
      times = λ r l. time_exactly w r (lawful_only w r s l);
      tests = λ r l k i lt f. test_exactly w k i r (asked w k i r (lawful_only w r s l) lt f);
      assigns = λ r l k i lt f. assign_exactly w k i r (asked w k i r (lawful_only w r s l) lt f);
      pushes = λ r l i f. subst (λ k. Exactly (Owed w k i (opened k r)) (push w i r)) n (push_exactly w i r (lawful_only w r s l) (fits_from w.top i f));
      pops = λ a b la lb i f. subst (λ k. Exactly (λ t. Pops w a b t × (lies_in i (slice_index_or b.items k none) ≡ true)) (pop w i a b)) n (pop_exactly w i a b (lawful_only w a s la) (lawful_only w b s lb) f);
    }

-- every list keeps to its room and holds lawful regions
lawfully : (a : Regions) (w : Scope) (P : Region → Type 0) (xs : List Region) → Small w → ((r : Region) → P r → Lawful (places w) (ceiling w) r) → Exactly P xs → Lawfully (regions a) w xs
lawfully a w P xs s f e = (e.few, λ r h. lawful_only w r s (f r (e.only r h)))

pub lists_lawfully : (a : Regions) → ListsLawfully (regions a)
lists_lawfully a w s =
    let le = few_places w in
    record {
      times = λ r h. let l = (lawful_holds w r h).1 in lawfully a w (Rotates w r) (time w r) s (λ t q. subst (Lawful (places w) (ceiling w)) (sym q.1) (turns_lawful (places w) (ceiling w) le.0 q.0 r (omega (arith, le.1)) l)) (time_exactly w r h);
      tests = λ r h k i lt f. let l = (lawful_holds w r h).1 in lawfully a w _ (test w k i r) s (λ t q. subst (Lawful (places w) (ceiling w)) (sym q.0) l) (test_exactly w k i r (asked w k i r h lt f));
      assigns = λ r h k i lt f. lawfully a w (Owed w k i r) (assign w k i r) s (λ t q. q.lawful) (assign_exactly w k i r (asked w k i r h lt f));
      pushes = λ r h i f. lawfully a w (Owed w (clocks_of w) i (opened (clocks_of w) r)) (push w i r) s (λ t q. q.lawful) (push_exactly w i r h (fits_from w.top i f));
      pops = λ x y hx hy i f.
          let p = pop_law w x y (lawful_holds w x hx).1 (lawful_holds w y hy).1 in
          lawfully a w _ (pop w i x y) s (λ t q. p.lawful t (p.each t q.0)) (pop_exactly w i x y hx hy f);
    }

pub frames_once : FramesOnce
frames_once w D f s pos h = covered_once w D f s h

pop_covers : (w : Scope) (D : ℕ) → Small w → 1 ≤ D → (s u : Region) (f g : Frame) → lawful w s ≡ true → lawful w u ≡ true → Framed w.clocks f → Framed w.clocks g → covers w D s f → covers w D u g
    → (i : Interval) → Fits w.top i → Inside D i g.age → g.kept ≡ plus g.elapsed f.clocks → g.kept_age ≡ f.age + g.elapsed → (t : Region) × In (pop w i s u) t × covers w D t (popped f g)
pop_covers w D small pos s u f g hs hu ff fg ls lu i fit inside kept kept_age =
    let s0 = small.0 in let s1 = small.1 in
    let n = clocks_of w in
    let m = places w in
    let nc : w.clocks ≡ n = omega arith in
    let nm : n < m = omega arith in
    let fg' = subst (λ k. Framed k g) nc fg in
    let j = pop_joined n f g (subst (λ k. Framed k f) nc ff) fg' kept kept_age m (ceiling w) D s u (omega arith) (omega arith) pos (λ x y. refl) ls lu in
    let v = values_age n g fg' in
    let lies : lies_in i (slice_index_or u.items n none) ≡ true = ap (lies_in i) (sym (get_or-take m u.items n none nm)) ∙ lies_held w D pos (front m u) (values g) n i s1 lu.holds nm fit (subst (Inside D i) (sym v) inside) in
    (j.0, (pop_exactly w i s u hs hu fit).each j.0 ((j.1, j.2), lies), j.3)

-- no run escapes the lists
pub regions_cover : (a : Regions) → Covers (regions a) (covering a)
regions_cover a w D s pos = record {
  starts = start_covers w D s pos;
  times = λ r f h d. time_covers_frames w D s pos r f h.lawful h.covers d;
  tests = λ r f h k i lt fit inside. test_covers w D s pos r f h.lawful h.framed h.covers k i lt fit inside;
  assigns = λ r f h k i lt fit v inside. assign_covers w D s pos r f h.lawful h.framed h.covers k i lt fit v inside;
  pushes = λ r f h i fit v inside. push_covers w D s pos r f h.lawful h.framed h.covers i fit v inside;
  pops = λ x y f g hx hy i fit inside kept kept_age. pop_covers w D s pos x y f g hx.lawful hy.lawful hx.framed hy.framed hx.covers hy.covers i fit inside kept kept_age;
  nests = λ r t f h ok e. subst (λ q. covers w D q f) ((same_decides r t).0 e) h.covers;
}
