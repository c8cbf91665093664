use Rattle.std.proofs.Common.{◌≡◌, ℕ, zero, suc, ◌+◌, ◌-◌, ◌*◌, ◌<◌, ◌≤◌, true, false, cond, eqb, ◌⊎◌, List, ◌∷◌, length, get_or, take, drop, sym, refl, ap, ◌∙◌, inl, inr, ⊎_elim, arith, length-append}
use Rattle.std.proofs.lemmas.List.{get_or-take, get_or-drop, get_or_append_left, get_or-append_right, length-take, length-drop}
use Rattle.std.proofs.lemmas.Bool.{cases_lt, cases_eq, cases_Bool}
use Rattle.std.proofs.lemmas.Bool.Decides.{nat_tests}
use Rattle.ranking.specs.declared.Item.{Item}
use Rattle.ranking.specs.Items.{none, whole_at, rank_at}
use Rattle.ranking.specs.Ranks.{Gapless}
use Rattle.ranking.specs.Rotation.{has_zero, rotated, turns}
use Rattle.ranking.proofs.Steps.{ranks_same, risen, dropped}
use Rattle.ranking.proofs.Close.{own_ranks, rank_few}
use Rattle.ranking.proofs.Lists.{zero_at, no_zero, rank_le, length_rotated, at_up, at_over}
use Rattle.merging.specs.Law.{with_mark}
use Rattle.ranking.proofs.Turns.{greatest_at}

-- items with whole parts up to one above their ceilings, and ranks without a gap
pub record Good (m : ℕ) (c : ℕ → ℕ) (xs : List Item) : Type 0 where
  pub long : length xs ≡ m
  pub wholes : (i : ℕ) → i < m → whole_at xs i ≤ c i + 1
  pub gapless : Gapless m (rank_at xs)

module _ (m : ℕ) (c : ℕ → ℕ) (some : 1 ≤ m) (few : m < 255) where
  good_rotated : (xs : List Item) → Good m c xs → Good m c (rotated c xs)
  good_rotated xs g =
      let lx = g.long in
      record {
        long = length_rotated c xs ∙ lx;
        wholes = λ i lt. ⊎_elim
            (λ (z : has_zero xs ≡ true). let e = ap (λ x. x.whole) (at_up c xs z i (omega arith)) in omega (arith, g.wholes i lt))
            (λ (z : has_zero xs ≡ false). let e = ap (λ x. x.whole) (at_over c xs z i (omega arith)) in let w = g.wholes i lt in grind (arith, nat_tests))
            (cases_Bool (has_zero xs));
        gapless = ⊎_elim
            (λ (z : has_zero xs ≡ true).
            let t = zero_at xs z in
            (ranks_same m _ (rank_at (rotated c xs)) _ _ (risen m (rank_at xs) (rank_at xs) (own_ranks m (rank_at xs) g.gapless) t.0 (omega (arith, t.1)) t.2)
            (λ i lt. sym (ap (λ x. x.rank) (at_up c xs z i (omega arith)) ∙ omega (arith, rank_few m (rank_at xs) g.gapless i lt))) (λ i lt. refl)).gapless)
            (λ (z : has_zero xs ≡ false).
            let t = greatest_at xs (omega (arith, no_zero xs z 0 (omega arith), rank_le xs 0 (omega arith))) in
            let t2 = t.2 in
            (ranks_same m _ (rank_at (rotated c xs)) _ _ (dropped m (rank_at xs) (rank_at xs) (own_ranks m (rank_at xs) g.gapless) t.0 (omega (arith, t.1)) (λ i lt. (no_zero xs z i (omega arith), omega (arith, rank_le xs i (omega arith)))))
            (λ i lt. sym (ap (λ x. x.rank) (at_over c xs z i (omega arith)) ∙ ap (λ k. cond (eqb (rank_at xs i) k) 0 (rank_at xs i)) (sym t2))) (λ i lt. refl)).gapless)
            (cases_Bool (has_zero xs));
      }

  pub good_turns : (k : ℕ) (xs : List Item) → Good m c xs → Good m c (turns k c xs)
  good_turns zero xs g = g
  good_turns (suc k) xs g = good_rotated (turns k c xs) (good_turns k xs g)

-- the mark among the items
module _ (n : ℕ) (few : n ≤ 3) (xs : List Item) (lx : length xs ≡ 2 * n + 3) where
  marked_long : length (with_mark n xs) ≡ 2 * n + 4
  marked_long = omega (arith, length-append (take (n + 1) xs) (none ∷ drop (n + 1) xs), length-take (n + 1) xs, length-drop (n + 1) xs)

  before : length (take (n + 1) xs) ≡ n + 1
  before = omega (arith, length-take (n + 1) xs)

  pub mark_below : (i : ℕ) → i < n + 1 → get_or (with_mark n xs) i none ≡ get_or xs i none
  mark_below i lt = get_or_append_left (take (n + 1) xs) (none ∷ drop (n + 1) xs) none i (omega (arith, before)) ∙ get_or-take (n + 1) xs i none lt

  pub mark_here : get_or (with_mark n xs) (n + 1) none ≡ none
  mark_here = let e : n + 1 - (n + 1) ≡ 0 = omega arith in get_or-append_right (take (n + 1) xs) (none ∷ drop (n + 1) xs) (n + 1) (n + 1) none before (omega arith) ∙ ap (λ k. get_or (none ∷ drop (n + 1) xs) k none) e

  pub mark_above : (i : ℕ) → n + 1 ≤ i → get_or (with_mark n xs) (i + 1) none ≡ get_or xs i none
  mark_above i le =
      let e : i + 1 - (n + 1) ≡ suc (i - (n + 1)) = omega arith in
      let f : n + 1 + (i - (n + 1)) ≡ i = omega arith in
      get_or-append_right (take (n + 1) xs) (none ∷ drop (n + 1) xs) (n + 1) (i + 1) none before (omega arith) ∙ ap (λ k. get_or (none ∷ drop (n + 1) xs) k none) e ∙ get_or-drop (n + 1) xs (i - (n + 1)) none ∙ ap (λ k. get_or xs k none) f

  -- each place holds an item of xs, or the mark
  spread : (i : ℕ) → i < 2 * n + 4 → ((j : ℕ) × (j < 2 * n + 3) × (get_or (with_mark n xs) i none ≡ get_or xs j none)) ⊎ (get_or (with_mark n xs) i none ≡ none)
  spread i lt = ⊎_elim
      (λ (h : i < n + 1). inl (i, omega arith, mark_below i h))
      (λ (h : n + 1 ≤ i). ⊎_elim
      (λ (e : i ≡ n + 1). inr (ap (λ k. get_or (with_mark n xs) k none) e ∙ mark_here))
      (λ (d : i ≡ n + 1 → ⊥). let s : i - 1 + 1 ≡ i = grind arith in inl (i - 1, omega arith, ap (λ k. get_or (with_mark n xs) k none) (sym s) ∙ mark_above (i - 1) (grind arith)))
      (cases_eq i (n + 1)))
      (cases_lt i (n + 1))

  gather : (j : ℕ) → j < 2 * n + 3 → (i : ℕ) × (i < 2 * n + 4) × (get_or (with_mark n xs) i none ≡ get_or xs j none)
  gather j lt = ⊎_elim (λ (h : j < n + 1). (j, omega arith, mark_below j h)) (λ (h : n + 1 ≤ j). (j + 1, omega arith, mark_above j h)) (cases_lt j (n + 1))

  pub good_marked : (T : ℕ) → Good (2 * n + 3) (λ _. T) xs → Good (2 * n + 4) (λ _. T) (with_mark n xs)
  good_marked T g = record {
    long = marked_long;
    wholes = λ i lt. ⊎_elim (λ h. omega (arith, ap (λ x. x.whole) h.2, g.wholes h.0 h.1)) (λ h. omega (arith, ap (λ x. x.whole) h)) (spread i lt);
    gapless = λ i k lt one le. ⊎_elim
        (λ h. let t = g.gapless h.0 k h.1 one (omega (arith, ap (λ x. x.rank) h.2)) in let u = gather t.0 t.1 in (u.0, u.1, ap (λ x. x.rank) u.2 ∙ t.2))
        (λ h. absurd (omega (arith, ap (λ x. x.rank) h))) (spread i lt);
  }
