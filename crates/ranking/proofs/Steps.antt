use Rattle.std.proofs.Common.{◌≡◌, ℕ, zero, suc, ◌+◌, ◌-◌, ◌*◌, ◌/◌, ◌%◌, ◌<◌, ◌≤◌, min, cond, eqb, ◌⊎◌, refl, inl, inr, ⊎_elim, add-mul, arith}
use Rattle.std.proofs.lemmas.Bool.{cases_lt, cases_eq}
use Rattle.std.proofs.lemmas.Bool.Decides.{nat_tests}
use Rattle.std.proofs.lemmas.Nat.{div-mul-add, mod-mul-add, mod_below, div-add-mod'}
use Rattle.ranking.specs.Ranks.{Orders, Zeros, Ranks, Held, Past}

module _ (m : ℕ) (ρ σ κ : ℕ → ℕ) (r : Ranks m ρ κ) (s : Ranks m σ κ) where
  unique_le : (b i : ℕ) → i < m → ρ i ≤ b → ρ i ≤ σ i
  unique_le zero i lt le = omega arith
  unique_le (suc b) i lt le =
      let zs = s.zeros i lt in let zr = r.zeros i lt in
      ⊎_elim
      (λ (small : ρ i < 2). grind arith)
      (λ (large : 2 ≤ ρ i).
      let g = r.gapless i (ρ i - 1) lt (omega arith) (omega arith) in
      let below = unique_le b g.0 g.1 (omega arith) in
      let up = r.orders i g.0 lt g.1 in
      let down = s.orders i g.0 lt g.1 in
      grind arith)
      (cases_lt (ρ i) 2)

-- one ranking of one order
pub unique : (m : ℕ) (ρ σ κ : ℕ → ℕ) → Ranks m ρ κ → Ranks m σ κ → (i : ℕ) → i < m → ρ i ≡ σ i
unique m ρ σ κ r s i lt =
    let a = unique_le m ρ σ κ r s (ρ i) i lt (omega arith) in
    let b = unique_le m σ ρ κ s r (σ i) i lt (omega arith) in omega arith

-- keys with the same zeros and the same order have the same ranks
pub rekeyed : (m : ℕ) (ρ κ μ : ℕ → ℕ) → Ranks m ρ κ → Zeros m κ μ → Orders m κ μ → Ranks m ρ μ
rekeyed m ρ κ μ r z o = record {
  zeros = λ i lt. let a = r.zeros i lt in let b = z i lt in ((λ e. b.0 (a.0 e)), (λ e. a.1 (b.1 e)));
  orders = λ i j li lj. let a = r.orders i j li lj in let b = o i j li lj in ((λ e. b.0 (a.0 e)), (λ e. a.1 (b.1 e)));
  gapless = r.gapless;
}

pub ranks_same : (m : ℕ) (ρ σ κ μ : ℕ → ℕ) → Ranks m ρ κ → ((i : ℕ) → i < m → ρ i ≡ σ i) → ((i : ℕ) → i < m → κ i ≡ μ i) → Ranks m σ μ
ranks_same m ρ σ κ μ r a b = record {
  zeros = λ i lt. let z = r.zeros i lt in let ai = a i lt in let bi = b i lt in ((λ e. grind arith), (λ e. grind arith));
  orders = λ i j li lj. let o = r.orders i j li lj in let ai = a i li in let bi = b i li in let aj = a j lj in let bj = b j lj in ((λ e. grind arith), (λ e. grind arith));
  gapless = λ i k lt one le. let ai = a i lt in let g = r.gapless i k lt one (omega arith) in let ag = a g.0 g.1 in (g.0, g.1, omega arith);
}

-- some rank is 0: all rise
pub risen : (m : ℕ) (ρ κ : ℕ → ℕ) → Ranks m ρ κ → (z : ℕ) → z < m → ρ z ≡ 0 → Ranks m (λ i. ρ i + 1) (λ i. κ i + 1)
risen m ρ κ r z zm zz = record {
  zeros = λ i lt. ((λ e. omega arith), (λ e. omega arith));
  orders = λ i j li lj. let o = r.orders i j li lj in ((λ h. let p = o.0 (omega arith) in omega arith), (λ h. let p = o.1 (omega arith) in omega arith));
  gapless = λ i k lt one le.
      ⊎_elim
      (λ (e : k < 2). (z, zm, omega arith))
      (λ (e : 2 ≤ k). let g = r.gapless i (k - 1) lt (omega arith) (omega arith) in (g.0, g.1, omega arith))
      (cases_lt k 2);
}

-- no rank is 0: those of the greatest key fall to 0
pub dropped : (m : ℕ) (ρ κ : ℕ → ℕ) → Ranks m ρ κ → (g : ℕ) → g < m → ((i : ℕ) → i < m → (1 ≤ ρ i) × (ρ i ≤ ρ g))
    → Ranks m (λ i. cond (eqb (ρ i) (ρ g)) 0 (ρ i)) (λ i. cond (eqb (κ i) (κ g)) 0 (κ i))
dropped m ρ κ r g gm within = record {
  zeros = λ i lt. let o = r.orders i g lt gm in let p = r.orders g i gm lt in let z = r.zeros i lt in let wi = within i lt in ((λ e. grind (arith, nat_tests)), (λ e. grind (arith, nat_tests)));
  orders = λ i j li lj. let o = r.orders i g li gm in let p = r.orders g i gm li in
      let o' = r.orders j g lj gm in let p' = r.orders g j gm lj in let q = r.orders i j li lj in let wi = within i li in let wj = within j lj in ((λ h. grind (arith, nat_tests)), (λ h. grind (arith, nat_tests)));
  gapless = λ i k lt one le.
      let wi = within i lt in
      let g' = r.gapless i k lt one (grind (arith, nat_tests)) in
      (g'.0, g'.1, grind (arith, nat_tests));
}

-- where nothing is whole, the ranks are those of half a unit later too
pub none_whole : (m : ℕ) (ρ κ : ℕ → ℕ) → Ranks m ρ κ → ((i : ℕ) → i < m → 1 ≤ ρ i) → Ranks m ρ (λ i. κ i + 1)
none_whole m ρ κ r none = rekeyed m ρ κ (λ i. κ i + 1) r
    (λ i lt. let a = none i lt in let z = r.zeros i lt in ((λ e. grind arith), (λ e. omega arith)))
    (λ i j li lj. ((λ e. omega arith), (λ e. omega arith)))

pub next_inside : (n D : ℕ) → 0 < D → n % D + 1 < D → ((n + 1) / D ≡ n / D) × ((n + 1) % D ≡ n % D + 1)
next_inside n D pos h =
    let e = div-add-mod' n D in
    let e' : n + 1 ≡ n / D * D + (n % D + 1) = omega arith in
    (rw e' (div-mul-add (n / D) D (n % D + 1) h), rw e' (mod-mul-add (n / D) D (n % D + 1) h))

pub next_over : (n D : ℕ) → 0 < D → n % D + 1 ≡ D → ((n + 1) / D ≡ n / D + 1) × ((n + 1) % D ≡ 0)
next_over n D pos h =
    let e = div-add-mod' n D in
    let a = add-mul (n / D) 1 D in
    let e' : n + 1 ≡ (n / D + 1) * D + 0 = omega arith in
    (rw e' (div-mul-add (n / D + 1) D 0 pos), rw e' (mod-mul-add (n / D + 1) D 0 pos))

-- a unit later, where no fraction comes to its end
pub later_inside : (m : ℕ) (c : ℕ → ℕ) (D : ℕ) (w ρ v : ℕ → ℕ) → 0 < D → Past m c D w ρ v → ((i : ℕ) → i < m → v i % D + 1 < D) → Held m c D w ρ (λ i. v i + 1)
later_inside m c D w ρ v pos p inside = record {
  wholes = λ i lt. let a = p.wholes i lt in let b = next_inside (v i) D pos (inside i lt) in cc;
  ranks = rekeyed m ρ (λ i. v i % D + 1) (λ i. (v i + 1) % D) p.ranks
      (λ i lt. let b = next_inside (v i) D pos (inside i lt) in ((λ e. omega arith), (λ e. omega arith)))
      (λ i j li lj. let a = next_inside (v i) D pos (inside i li) in let b = next_inside (v j) D pos (inside j lj) in ((λ e. omega arith), (λ e. omega arith)));
}

-- a unit later, where the fraction of g comes to its end
pub later_over : (m : ℕ) (c : ℕ → ℕ) (D : ℕ) (w ρ v : ℕ → ℕ) → 0 < D → Past m c D w ρ v → (g : ℕ) → g < m → v g % D + 1 ≡ D
    → ((i : ℕ) → i < m → (1 ≤ ρ i) × (ρ i ≤ ρ g)) × Held m c D (λ i. cond (eqb (ρ i) (ρ g)) (min (w i + 1) (c i + 1)) (w i)) (λ i. cond (eqb (ρ i) (ρ g)) 0 (ρ i)) (λ i. v i + 1)
later_over m c D w ρ v pos p g gm full =
    let within : (i : ℕ) → i < m → (1 ≤ ρ i) × (ρ i ≤ ρ g) = λ i lt. let z = p.ranks.zeros i lt in let o = p.ranks.orders i g lt gm in let k = mod_below (v i) D pos in (grind arith, grind arith) in
    let split : (i : ℕ) → i < m → ((ρ i ≡ ρ g) × (v i % D + 1 ≡ D)) ⊎ ((ρ i ≡ ρ g → ⊥) × (v i % D + 1 < D)) =
    λ i lt. let o = p.ranks.orders i g lt gm in let o' = p.ranks.orders g i gm lt in let k = mod_below (v i) D pos in
    ⊎_elim (λ (e : ρ i ≡ ρ g). inl (e, grind arith)) (λ (n : ρ i ≡ ρ g → ⊥). inr (n, grind arith)) (cases_eq (ρ i) (ρ g)) in (
      within,
      record {
        wholes = λ i lt. let a = p.wholes i lt in
            ⊎_elim (λ s. let b = next_over (v i) D pos s.1 in grind (arith, nat_tests))
            (λ s. let b = next_inside (v i) D pos s.1 in grind (arith, nat_tests)) (split i lt);
        ranks = ranks_same m _ _ _ _ (dropped m ρ (λ i. v i % D + 1) p.ranks g gm within) (λ i lt. refl)
            (λ i lt. ⊎_elim (λ s. let b = next_over (v i) D pos s.1 in grind (arith, nat_tests))
            (λ s. let b = next_inside (v i) D pos s.1 in grind (arith, nat_tests)) (split i lt));
      },
    )

-- whether some key below m is b
pub find : (κ : ℕ → ℕ) (b m : ℕ) → ((i : ℕ) × (i < m) × (κ i ≡ b)) ⊎ ((i : ℕ) → i < m → κ i ≡ b → ⊥)
find κ b zero = inr (λ i lt e. omega arith)
find κ b (suc m) =
    ⊎_elim (λ (h : κ m ≡ b). inl (m, omega arith, h))
    (λ (n : κ m ≡ b → ⊥). ⊎_elim
    (λ (h : (i : ℕ) × (i < m) × (κ i ≡ b)). inl (h.0, omega arith, h.2))
    (λ (k : (i : ℕ) → i < m → κ i ≡ b → ⊥). inr (λ i lt e. ⊎_elim (λ (q : i < m). k i q e) (λ (q : m ≤ i). let s : i ≡ m = omega arith in n (rw s at e)) (cases_lt i m)))
    (find κ b m))
    (cases_eq (κ m) b)
