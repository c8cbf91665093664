use Rattle.std.proofs.Common.{◌≡◌, ℕ, zero, suc, ◌+◌, ◌-◌, ◌<◌, ◌≤◌, Bool, true, cond, eqb, ◌⊎◌, List, [], ◌∷◌, length, sym, refl, ap, ◌∙◌, inl, inr, ⊎_elim, arith}
use Rattle.std.proofs.lemmas.List.{length-map, get_or-map}
use Rattle.std.proofs.lemmas.Bool.{cases_lt, cases_eq, cases_Bool, false≢true}
use Rattle.std.proofs.lemmas.Bool.Decides.{nat_tests}
use Rattle.ranking.specs.declared.Item.{Item}
use Rattle.ranking.specs.Items.{none, whole_at, rank_at}
use Rattle.ranking.specs.Ranks.{Gapless, Ranks}
use Rattle.ranking.specs.Close.{has_rank, steps, shut_item, shut}
use Rattle.ranking.proofs.Steps.{ranks_same}

-- u tells which numbers are among the first m keys
pub record Uses (m : ℕ) (κ : ℕ → ℕ) (u : ℕ → Bool) : Type 0 where
  pub is_used : (i : ℕ) → i < m → u (κ i) ≡ true
  pub used_at : (k : ℕ) → u k ≡ true → (i : ℕ) × (i < m) × (κ i ≡ k)

has_at : (xs : List Item) (i : ℕ) → i < length xs → has_rank xs (rank_at xs i) ≡ true
has_at [] i lt = absurd (omega arith)
has_at (x ∷ xs) zero lt = grind (arith, nat_tests)
has_at (x ∷ xs) (suc i) lt = let h = has_at xs i (omega arith) in grind (arith, nat_tests)

at_has : (xs : List Item) (k : ℕ) → has_rank xs k ≡ true → (i : ℕ) × (i < length xs) × (rank_at xs i ≡ k)
at_has [] k e = absurd (false≢true e)
at_has (x ∷ xs) k e =
    ⊎_elim (λ (h : x.rank ≡ k). (0, omega arith, h))
    (λ (n : x.rank ≡ k → ⊥). let t = at_has xs k (grind (arith, nat_tests)) in (suc t.0, omega arith, t.2))
    (cases_eq x.rank k)

pub uses : (xs : List Item) → Uses (length xs) (rank_at xs) (has_rank xs)
uses xs = record { is_used = has_at xs; used_at = at_has xs }

module _ (u : ℕ → Bool) where
  steps_mono : (a b : ℕ) → a ≤ b → steps u a ≤ steps u b
  steps_mono a zero le = let e : a ≡ 0 = omega arith in rw e (omega arith)
  steps_mono a (suc b) le =
      ⊎_elim (λ (h : b < a). let e : a ≡ suc b = omega arith in rw e (omega arith))
      (λ (h : a ≤ b). let s = steps_mono a b h in ⊎_elim (λ t. grind arith) (λ t. grind arith) (cases_Bool (u (suc b))))
      (cases_lt b a)

  -- a used number counts
  steps_strict : (a b : ℕ) → a < b → u b ≡ true → steps u a < steps u b
  steps_strict a zero lt e = absurd (omega arith)
  steps_strict a (suc b) lt e = let s = steps_mono a b (omega arith) in grind arith

  -- each count up to the last is that of a used number
  steps_hit : (n c : ℕ) → 1 ≤ c → c ≤ steps u n → (k : ℕ) × (k ≤ n) × (1 ≤ k) × (u k ≡ true) × (steps u k ≡ c)
  steps_hit zero c one le = absurd (omega arith)
  steps_hit (suc n) c one le =
      ⊎_elim
      (λ (h : c ≤ steps u n). let t = steps_hit n c one h in (t.0, omega (arith, t.1), t.2, t.3, t.4))
      (λ (h : steps u n < c).
      let t : u (suc n) ≡ true = ⊎_elim (λ t. t) (λ f. absurd (grind arith)) (cases_Bool (u (suc n))) in
      (suc n, omega arith, omega arith, t, grind arith))
      (⊎_elim (λ (h : steps u n < c). inr h) (λ (h : c ≤ steps u n). inl h) (cases_lt (steps u n) c))

-- closing up gives the ranks of the keys
pub closes : (m : ℕ) (κ : ℕ → ℕ) (u : ℕ → Bool) → Uses m κ u → Ranks m (λ i. steps u (κ i)) κ
closes m κ u h = record {
  zeros = λ i lt. ((λ e. ⊎_elim (λ (g : 0 < κ i). absurd (omega (arith, steps_strict u 0 (κ i) g (h.is_used i lt)))) (λ (g : κ i ≤ 0). omega arith) (cases_lt 0 (κ i))), (λ e. ap (steps u) e));
  orders = λ i j li lj. ((λ e. ⊎_elim (λ (g : κ j < κ i). absurd (omega (arith, steps_strict u (κ j) (κ i) g (h.is_used i li)))) (λ (g : κ i ≤ κ j). g) (cases_lt (κ j) (κ i))), (λ e. steps_mono u (κ i) (κ j) e));
  gapless = λ i k lt one le.
      let t = steps_hit u (κ i) k one le in
      let g = h.used_at t.0 t.3 in
      (g.0, g.1, ap (steps u) g.2 ∙ t.4);
}

-- the items closed up have the ranks of the items
pub shut_rank : (xs : List Item) (i : ℕ) → i < length xs → rank_at (shut xs) i ≡ steps (has_rank xs) (rank_at xs i)
shut_rank xs i lt = ap (λ x. x.rank) (get_or-map (shut_item xs) xs i none none lt)

pub shut_whole : (xs : List Item) (i : ℕ) → i < length xs → whole_at (shut xs) i ≡ whole_at xs i
shut_whole xs i lt = ap (λ x. x.whole) (get_or-map (shut_item xs) xs i none none lt)

pub length_shut : (xs : List Item) → length (shut xs) ≡ length xs
length_shut xs = length-map xs (shut_item xs)

pub shut_ranks : (xs : List Item) → Ranks (length xs) (rank_at (shut xs)) (rank_at xs)
shut_ranks xs = ranks_same (length xs) _ _ _ _ (closes (length xs) (rank_at xs) (has_rank xs) (uses xs)) (λ i lt. sym (shut_rank xs i lt)) (λ i lt. refl)

-- gapless ranks are their own ranking
pub own_ranks : (m : ℕ) (ρ : ℕ → ℕ) → Gapless m ρ → Ranks m ρ ρ
own_ranks m ρ g = record { zeros = λ i lt. ((λ e. e), (λ e. e)); orders = λ i j li lj. ((λ e. e), (λ e. e)); gapless = g }

-- no more ranks than items: a number from each of c keys below m
pub pigeons : (m c : ℕ) (f : ℕ → ℕ) → ((k : ℕ) → k < c → f k < m) → ((k l : ℕ) → k < c → l < c → f k ≡ f l → k ≡ l) → c ≤ m
pigeons zero c f within apart = ⊎_elim (λ (h : 0 < c). absurd (omega (arith, within 0 h))) (λ (h : c ≤ 0). h) (cases_lt 0 c)
pigeons (suc m) c f within apart = ⊎_elim
    (λ (h : 0 < c).
    -- put the last hole's pigeon out of the way: the last pigeon moves to where the one in hole m was
    let g : ℕ → ℕ = λ k. cond (eqb (f k) m) (f (c - 1)) (f k) in
    let r = pigeons m (c - 1) g
    (λ k lt. let a = within k (omega arith) in let b = within (c - 1) (omega arith) in let d = apart k (c - 1) (omega arith) (omega arith) in grind (arith, nat_tests))
    (λ k l lk ll e. let d1 = apart k l (omega arith) (omega arith) in let d2 = apart k (c - 1) (omega arith) (omega arith) in let d3 = apart l (c - 1) (omega arith) (omega arith) in grind (arith, nat_tests)) in
    omega arith)
    (λ (h : c ≤ 0). omega arith) (cases_lt 0 c)

module _ (m : ℕ) (ρ : ℕ → ℕ) (g : Gapless m ρ) (i : ℕ) (lt : i < m) where
  -- an item of rank k + 1
  holder : (k : ℕ) → (k < ρ i) ⊎ (ρ i ≤ k) → (j : ℕ) × (j < m) × (k < ρ i → ρ j ≡ k + 1)
  holder k (inl h) = let t = g i (k + 1) lt (omega arith) (omega arith) in (t.0, t.1, λ _. t.2)
  holder k (inr h) = (i, lt, λ l. absurd (omega arith))

  -- no rank is above the number of items
  pub rank_few : ρ i ≤ m
  rank_few = pigeons m (ρ i) (λ k. (holder k (cases_lt k (ρ i))).0)
      (λ k l. (holder k (cases_lt k (ρ i))).1)
      (λ k l lk ll e. let a = (holder k (cases_lt k (ρ i))).2 lk in let b = (holder l (cases_lt l (ρ i))).2 ll in let f = ap ρ e in omega arith)
