use Rattle.std.proofs.Common.{◌≡◌, ℕ, zero, suc, ◌+◌, ◌-◌, ◌*◌, ◌<◌, ◌≤◌, Bool, true, false, not, ◌&&◌, eqb, List, [], ◌∷◌, length, refl, ap, ◌∙◌, ⊎_elim, arith}
use Rattle.std.specs.List.{range_with_len}
use Rattle.std.proofs.lemmas.Bool.{cases_lt, cases_eq, cases_Bool, and_parts, not-true, eqb-false, ne_eqb}
use Rattle.std.proofs.lemmas.Bool.Decides.{nat_tests}
use Rattle.ranking.specs.declared.Item.{Item}
use Rattle.ranking.specs.Items.{rank_at}
use Rattle.ranking.specs.Ranks.{Gapless}
use Rattle.ranking.specs.Rotation.{greatest}
use Rattle.merging.specs.declared.Side.TheVariants.{Left, Right}
use Rattle.merging.specs.Ways.{alone, rank_on}
use Rattle.merging.specs.Pop.{shared}
use Rattle.merging.proofs.Bound.{count, lone}
use Rattle.merging.proofs.Sound.{alone_each}
use Rattle.merging.proofs.Picks.{greatest_at}
use Rattle.merging.proofs.Ties.{ties_of_all}

count_none : (p : ℕ → Bool) (i k : ℕ) → ((l : ℕ) → i ≤ l → l < i + k → p l ≡ false) → count p (range_with_len i k) ≡ 0
count_none p i zero h = refl
count_none p i (suc k) h = let e = h i (omega arith) (omega arith) in let r = count_none p (i + 1) k (λ l a b. h l (omega arith) (omega arith)) in grind arith

count_one : (a i k : ℕ) → count (λ l. eqb a l) (range_with_len i k) ≤ 1
count_one a i zero = omega arith
count_one a i (suc k) = ⊎_elim
    (λ (e : a ≡ i). let r = count_none (λ l. eqb a l) (i + 1) k (λ l x y. ne_eqb a l (λ z. omega arith)) in grind (arith, nat_tests))
    (λ (d : a ≡ i → ⊥). let r = count_one a (i + 1) k in grind (arith, nat_tests))
    (cases_eq a i)

count_split : (p : ℕ → Bool) (a : ℕ) (xs : List ℕ) → count p xs ≤ count (λ l. p l && not (eqb a l)) xs + count (λ l. eqb a l) xs
count_split p a [] = omega arith
count_split p a (x ∷ xs) = let r = count_split p a xs in ⊎_elim (λ t. ⊎_elim (λ u. grind arith) (λ u. grind arith) (cases_Bool (eqb a x))) (λ t. ⊎_elim (λ u. grind arith) (λ u. grind arith) (cases_Bool (eqb a x))) (cases_Bool (p x))

-- numbers that each of m keys has one of are at most m
pub count_few : (m : ℕ) (κ : ℕ → ℕ) (p : ℕ → Bool) (i k : ℕ) → ((l : ℕ) → i ≤ l → l < i + k → p l ≡ true → (j : ℕ) × (j < m) × (κ j ≡ l)) → count p (range_with_len i k) ≤ m
count_few zero κ p i k h = omega (arith, count_none p i k (λ l a b. ⊎_elim (λ (t : p l ≡ true). absurd (omega (arith, (h l a b t).1))) (λ f. f) (cases_Bool (p l))))
count_few (suc m) κ p i k h =
    let r = count_few m κ (λ l. p l && not (eqb (κ m) l)) i k (λ l a b t.
    let q = and_parts (p l) (not (eqb (κ m) l)) t in
    let g = h l a b q.0 in
    let ne = eqb-false (κ m) l (not-true _ q.1) in
    (g.0, ⊎_elim (λ (x : g.0 < m). x) (λ (x : m ≤ g.0). let e : m ≡ g.0 = omega (arith, g.1) in absurd (ne (ap κ e ∙ g.2))) (cases_lt g.0 m), g.2)) in
    omega (arith, r, count_split p (κ m) (range_with_len i k), count_one (κ m) i k)

module _ (n : ℕ) (few : n ≤ 3) (xs us : List Item) (lx : length xs ≡ 2 * n + 4) (lu : length us ≡ 2 * n + 3)
    (gx : Gapless (2 * n + 4) (rank_at xs)) (gu : Gapless (2 * n + 3) (rank_at us)) where
  -- a rank that is alone is that of an item of one side only
  pub lone_left : lone (rank_on Left) (shared n xs us) (range_with_len 1 (greatest xs)) ≤ n + 2
  lone_left = count_few (n + 2) (λ j. rank_at xs (n + 2 + j)) (λ r. alone (rank_on Left) r (shared n xs us)) 1 (greatest xs) (λ l a b t.
      let g = greatest_at xs (omega arith) in
      let j = gx g.0 l (omega (arith, g.1)) a (omega (arith, g.2)) in
      let free = alone_each (rank_on Left) l (shared n xs us) t in
      ⊎_elim
      (λ (h : j.0 < n + 2). absurd (ties_of_all n xs us lx lu few (λ t. t.left.rank ≡ l → ⊥) free j.0 h j.2))
      (λ (h : n + 2 ≤ j.0). let e : n + 2 + (j.0 - (n + 2)) ≡ j.0 = omega arith in (j.0 - (n + 2), omega (arith, j.1), ap (rank_at xs) e ∙ j.2))
      (cases_lt j.0 (n + 2)))

  pub lone_right : lone (rank_on Right) (shared n xs us) (range_with_len 1 (greatest us)) ≤ n + 1
  lone_right = count_few (n + 1) (rank_at us) (λ r. alone (rank_on Right) r (shared n xs us)) 1 (greatest us) (λ l a b t.
      let g = greatest_at us (omega arith) in
      let j = gu g.0 l (omega (arith, g.1)) a (omega (arith, g.2)) in
      let free = alone_each (rank_on Right) l (shared n xs us) t in
      ⊎_elim
      (λ (h : j.0 < n + 1). (j.0, h, j.2))
      (λ (h : n + 1 ≤ j.0). let e : n + 1 + (j.0 - (n + 1)) ≡ j.0 = omega arith in
      absurd (ties_of_all n xs us lx lu few (λ t. t.right.rank ≡ l → ⊥) free (j.0 - (n + 1)) (omega (arith, j.1)) (ap (rank_at us) e ∙ j.2)))
      (cases_lt j.0 (n + 1)))
