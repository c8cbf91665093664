use Rattle.std.specs.Prelude.{◌≡◌, ℕ, zero, suc, ◌+◌, ◌*◌, ◌<◌, ◌≤◌, min, true, false, cond, List, [], length, drop, ◌==◌, Bool, ◌&&◌, ◌∷◌, get_or, slice_index_or, refl}
use Rattle.std.proofs.Common.{sym, ap, ◌∙◌, subst, ⊎_elim, arith, mul-one, length-drop, length-append}
use Rattle.std.proofs.lemmas.List.{take_at, drop_at}
use Rattle.std.proofs.lemmas.Bool.{cases_Bool, cond-true, both_ways}
use Rattle.std.proofs.lemmas.Bool.Decides.{nat_tests}
use Rattle.std.proofs.lemmas.Nat.{mul-le}
use Rattle.abstraction.specs.declared.interval.Interval.{Interval}
use Rattle.abstraction.specs.declared.scope.Scope.{Scope}
use Rattle.ranking.specs.declared.Item.{Item}
use Rattle.ranking.specs.declared.Region.{Region}
use Rattle.ranking.specs.Ranks.{Gapless}
use Rattle.ranking.specs.Items.{none, whole_at, rank_at, places, ceiling}
use Rattle.ranking.specs.Lawful.{front, Shaped, Lawful}
use Rattle.ranking.specs.Rotation.{has_zero, greatest, rotated, turns, turned, turned_by}
use Rattle.ranking.specs.Joined.{join, Adds, Below}
use Rattle.ranking.proofs.Steps.{ranks_same, risen, dropped}
use Rattle.ranking.proofs.Close.{own_ranks, rank_few}
use Rattle.ranking.proofs.Lists.{zero_at, no_zero, rank_le, greatest_le, length_rotated, at_up, at_over}
use Rattle.ranking.proofs.Turns.{every_turn, greatest_at}
use Rattle.ranking.proofs.Joined.{join_adds, repeat_adds}
use Rattle.region.specs.Asked.{lawful, lies_in, asks}
use Rattle.region.specs.Listed.{highest, rounds, rotations, time, test}
use Rattle.region.specs.Laws.{Exactly, Rotates}
use Rattle.region.specs.Shapes.{few_places, front_long, lawful_holds, same_front}

-- additions to nothing, where all are allowed
pub exactly_adds : (n : ℕ) (P Q : Region → Type 0) (xs : List Region) → n ≤ 1048576 → ((r : Region) → P r → Q r) → ((r : Region) → Q r → P r) → Adds n P [] xs → Exactly Q xs
exactly_adds n P Q xs le f g a = record {
  few = omega (arith, a.few);
  each = λ r q. a.each r (g r q);
  only = λ r h. ⊎_elim (λ k. absurd (omega (arith, k.1.0))) (λ k. f r k) (a.only r h);
  once = a.once (λ i j d li lj e. absurd (omega arith));
}

module _ (m : ℕ) (c : ℕ → ℕ) (le : m ≤ 9) where
  -- a rotation of the items in use
  pub turned_front : (r : Region) → Shaped m r → (front m (turned m c r) ≡ rotated c (front m r)) × Shaped m (turned m c r)
  turned_front r s =
      let long : length (rotated c (front m r)) ≡ m = length_rotated c (front m r) ∙ front_long m r le s.full in (
        take_at (rotated c (front m r)) (drop m r.items) m long,
        record {
          full = omega (arith, length-append (rotated c (front m r)) (drop m r.items), length-drop m r.items, s.full);
          rest = drop_at (rotated c (front m r)) (drop m r.items) m long ∙ s.rest;
        },
      )

  pub turns_front : (n : ℕ) (r : Region) → Shaped m r → (front m (turned_by n m c r) ≡ turns n c (front m r)) × Shaped m (turned_by n m c r)
  turns_front zero r s = (refl, s)
  turns_front (suc n) r s =
      let a = turns_front n r s in
      let b = turned_front (turned_by n m c r) a.1 in
      (b.0 ∙ ap (rotated c) a.0, b.1)

  rotated_wholes : (xs : List Item) → length xs ≡ m → ((i : ℕ) → i < m → whole_at xs i ≤ c i + 1) → (i : ℕ) → i < m → whole_at (rotated c xs) i ≤ c i + 1
  rotated_wholes xs long h i lt = ⊎_elim
      (λ (z : has_zero xs ≡ true). let e = ap (λ x. x.whole) (at_up c xs z i (omega arith)) in omega (arith, h i lt))
      (λ (z : has_zero xs ≡ false). let e = ap (λ x. x.whole) (at_over c xs z i (omega arith)) in let w = h i lt in grind (arith, nat_tests))
      (cases_Bool (has_zero xs))

  rotated_gapless : (xs : List Item) → length xs ≡ m → 1 ≤ m → Gapless m (rank_at xs) → Gapless m (rank_at (rotated c xs))
  rotated_gapless xs long one g = ⊎_elim
      (λ (z : has_zero xs ≡ true).
      let t = zero_at xs z in
      (ranks_same m _ (rank_at (rotated c xs)) _ _ (risen m (rank_at xs) (rank_at xs) (own_ranks m (rank_at xs) g) t.0 (omega (arith, t.1)) t.2)
      (λ i lt. sym (ap (λ x. x.rank) (at_up c xs z i (omega arith)) ∙ omega (arith, rank_few m (rank_at xs) g i lt))) (λ i lt. refl)).gapless)
      (λ (z : has_zero xs ≡ false).
      let t = greatest_at xs (omega (arith, no_zero xs z 0 (omega arith), rank_le xs 0 (omega arith))) in
      let t2 = t.2 in
      (ranks_same m _ (rank_at (rotated c xs)) _ _ (dropped m (rank_at xs) (rank_at xs) (own_ranks m (rank_at xs) g) t.0 (omega (arith, t.1)) (λ i lt. (no_zero xs z i (omega arith), omega (arith, rank_le xs i (omega arith)))))
      (λ i lt. sym (ap (λ x. x.rank) (at_over c xs z i (omega arith)) ∙ ap (λ k. cond (rank_at xs i == k) 0 (rank_at xs i)) (sym t2))) (λ i lt. refl)).gapless)
      (cases_Bool (has_zero xs))

  turned_lawful : (r : Region) → 1 ≤ m → Lawful m c r → Lawful m c (turned m c r)
  turned_lawful r one l =
      let a = turned_front r l.shaped in
      let long = front_long m r le l.shaped.full in
      record {
        shaped = a.1;
        wholes = λ i lt. subst (λ xs. whole_at xs i ≤ c i + 1) (sym a.0) (rotated_wholes (front m r) long l.wholes i lt);
        gapless = subst (λ xs. Gapless m (rank_at xs)) (sym a.0) (rotated_gapless (front m r) long one l.gapless);
      }

  pub turns_lawful : (n : ℕ) (r : Region) → 1 ≤ m → Lawful m c r → Lawful m c (turned_by n m c r)
  turns_lawful zero r one l = l
  turns_lawful (suc n) r one l = turned_lawful (turned_by n m c r) one (turns_lawful n r one l)

  pub greatest_few : (r : Region) → Lawful m c r → greatest (front m r) ≤ 9
  greatest_few r l =
      let long = front_long m r le l.shaped.full in
      greatest_le (front m r) 9 (λ i lt. omega (arith, rank_few m (rank_at (front m r)) l.gapless i (omega (arith, long))))

  -- every rotation of a region is among the first
  pub every_turned : (T : ℕ) → ((i : ℕ) → c i ≤ T) → (r : Region) → Lawful m c r → (n : ℕ) → (j : ℕ) × (j < 2 * (greatest (front m r) + 1) * (T + 2)) × (turned_by n m c r ≡ turned_by j m c r)
  every_turned T low r l n =
      let s = l.shaped in
      let long = front_long m r le s.full in
      let t = every_turn c T (front m r) low (omega (arith, greatest_few r l)) (λ i lt. l.wholes i (omega (arith, long))) (subst (λ k. Gapless k (rank_at (front m r))) (sym long) l.gapless) n in
      let a = turns_front n r s in
      let b = turns_front t.0 r s in
      (t.0, t.1, same_front m (turned_by n m c r) (turned_by t.0 m c r) a.1 b.1 (a.0 ∙ t.2 ∙ sym b.0))

few_rounds : (w : Scope) (r : Region) → rounds w r ≤ 340
few_rounds w r = omega (arith, mul-le (2 * (min (greatest (front (places w) r)) 9 + 1)) (highest w + 2) 20 17 (omega arith) (omega arith))

-- the list of time has the rotations, each once
pub time_exactly : (w : Scope) (r : Region) → lawful w r ≡ true → Exactly (Rotates w r) (time w r)
time_exactly w r h =
    let l = (lawful_holds w r h).1 in
    let m = places w in
    let le = (few_places w).0 in
    let Q : ℕ → Region → Type 0 = λ k t. t ≡ turned_by k m (ceiling w) r in
    let a = repeat_adds Q (λ k out. join out (turned_by k m (ceiling w) r)) 1048576 1 (λ k b room. join_adds b (turned_by k m (ceiling w) r) (omega arith)) (rounds w r) [] (omega (arith, few_rounds w r, mul-one (rounds w r))) in
    let most : min (greatest (front m r)) 9 ≡ greatest (front m r) = omega (arith, greatest_few m (ceiling w) le r l) in
    rw (cond-true (lawful w r) (rotations w r []) [] h)
    (exactly_adds (rounds w r * 1) (Below Q (rounds w r)) (Rotates w r) (rotations w r []) (omega (arith, few_rounds w r, mul-one (rounds w r)))
    (λ t q. (q.0, q.2))
    (λ t q.
    let j = every_turned m (ceiling w) le (highest w) (λ i. omega arith) r l q.0 in
    (j.0, rw most j.1, q.1 ∙ j.2))
    a)

-- one region or none
one_or_none : (b : Bool) (r : Region) → Exactly (λ t. (t ≡ r) × (b ≡ true)) (cond b (r ∷ []) [])
one_or_none true r = record {
  few = omega arith;
  each = λ t q. (0, (omega arith, λ d. sym q.0));
  only = λ t h. let e : h.0 ≡ 0 = omega (arith, h.1.0) in (sym (h.1.1 r) ∙ ap (λ k. get_or (r ∷ []) k r) e, refl);
  once = λ i j d li lj e. omega arith;
}
one_or_none false r = record {
  few = omega arith;
  each = λ t q. absurd (both_ways false refl q.1);
  only = λ t h. absurd (omega (arith, h.1.0));
  once = λ i j d li lj e. omega arith;
}

pub test_exactly : (w : Scope) (k : ℕ) (i : Interval) (r : Region) → asks w k i r ≡ true → Exactly (λ t. (t ≡ r) × (lies_in i (slice_index_or r.items k none) ≡ true)) (test w k i r)
test_exactly w k i r a =
    let b = lies_in i (slice_index_or r.items k none) in
    let e : (asks w k i r && b) ≡ b = ap (λ x. x && b) a in
    rw e (one_or_none b r)
