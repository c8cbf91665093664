use Rattle.std.proofs.Common.{◌≡◌, ℕ, ◌+◌, ◌-◌, ◌*◌, ◌<◌, ◌≤◌, cond, eqb, refl, ap, ◌∙◌, ⊎_elim, arith}
use Rattle.std.proofs.lemmas.Bool.{cases_lt, cases_eq}
use Rattle.std.proofs.lemmas.Bool.Decides.{nat_tests}
use Rattle.ranking.specs.Ranks.{Gapless, Ranks}
use Rattle.ranking.specs.Insert.{Agrees, between}
use Rattle.ranking.proofs.Steps.{find}

pub at_p : (p c : ℕ) (ρ : ℕ → ℕ) → between p c ρ p ≡ c
at_p p c ρ = grind (arith, nat_tests)

pub at_other : (p c : ℕ) (ρ : ℕ → ℕ) (i : ℕ) → (i ≡ p → ⊥) → between p c ρ i ≡ 2 * ρ i
at_other p c ρ i n = grind (arith, nat_tests)

-- each key gives ranks that agree
pub inserted : (m p c : ℕ) (ρ σ : ℕ → ℕ) → Ranks m σ (between p c ρ) → Agrees m p ρ σ
inserted m p c ρ σ r =
    record {
      zeros = λ i lt n. let z = r.zeros i lt in let e = at_other p c ρ i n in (grind arith, grind arith);
      orders = λ i j li lj ni nj. let o = r.orders i j li lj in let e = at_other p c ρ i ni in let f = at_other p c ρ j nj in (grind arith, grind arith);
    }

-- where the key stands among the others, so does the rank
abbrev Stands : ℕ → ℕ → (ℕ → ℕ) → (ℕ → ℕ) → ℕ → Type 0
Stands m p ρ σ c = ((σ p ≡ 0 → c ≡ 0) × (c ≡ 0 → σ p ≡ 0)) × ((k : ℕ) → k < m → (k ≡ p → ⊥) → ((σ k ≤ σ p → 2 * ρ k ≤ c) × (2 * ρ k ≤ c → σ k ≤ σ p)) × ((σ p ≤ σ k → c ≤ 2 * ρ k) × (c ≤ 2 * ρ k → σ p ≤ σ k)))

ranked_by : (m p c : ℕ) (ρ σ : ℕ → ℕ) → p < m → Agrees m p ρ σ → Gapless m σ → Stands m p ρ σ c → Ranks m σ (between p c ρ)
ranked_by m p c ρ σ pm a g s = record {
  zeros = λ i lt. ⊎_elim
      (λ (e : i ≡ p). let f = ap (between p c ρ) e ∙ at_p p c ρ in let q = ap σ e in let z = s.0 in (grind arith, grind arith))
      (λ (n : i ≡ p → ⊥). let f = at_other p c ρ i n in let z = a.zeros i lt n in (grind arith, grind arith))
      (cases_eq i p);
  orders = λ i j li lj. ⊎_elim
      (λ (e : i ≡ p). let f = ap (between p c ρ) e ∙ at_p p c ρ in let q = ap σ e in
      ⊎_elim
      (λ (e' : j ≡ p). let f' = ap (between p c ρ) e' ∙ at_p p c ρ in let q' = ap σ e' in ((λ h. omega arith), (λ h. omega arith)))
      (λ (n' : j ≡ p → ⊥). let f' = at_other p c ρ j n' in let z = (s.1 j lj n').1 in (grind arith, grind arith))
      (cases_eq j p))
      (λ (n : i ≡ p → ⊥). let f = at_other p c ρ i n in
      ⊎_elim
      (λ (e' : j ≡ p). let f' = ap (between p c ρ) e' ∙ at_p p c ρ in let q' = ap σ e' in let z = (s.1 i li n).0 in (grind arith, grind arith))
      (λ (n' : j ≡ p → ⊥). let f' = at_other p c ρ j n' in let z = a.orders i j li lj n n' in (grind arith, grind arith))
      (cases_eq j p))
      (cases_eq i p);
  gapless = g;
}

-- all ranks that agree come of some key
pub every_key : (m p K : ℕ) (ρ σ : ℕ → ℕ) → p < m → ((i : ℕ) → i < m → (i ≡ p → ⊥) → ρ i ≤ K) → Agrees m p ρ σ → Gapless m σ
    → (c : ℕ) × (c ≤ 2 * K + 1) × Ranks m σ (between p c ρ)
every_key m p K ρ σ pm most a g =
    let by : (c : ℕ) → c ≤ 2 * K + 1 → Stands m p ρ σ c → (c : ℕ) × (c ≤ 2 * K + 1) × Ranks m σ (between p c ρ)
    = λ c le s. (c, le, ranked_by m p c ρ σ pm a g s) in
    ⊎_elim
    (λ (f : (i : ℕ) × (i < m) × (cond (eqb i p) (σ p + 1) (σ i) ≡ σ p)).
    let n : f.0 ≡ p → ⊥ = λ e. let f2 = f.2 in grind (arith, nat_tests) in
    let same : σ f.0 ≡ σ p = let f2 = f.2 in grind (arith, nat_tests) in
    by (2 * ρ f.0) (omega (arith, most f.0 f.1 n))
    (let z = a.zeros f.0 f.1 n in (grind arith, grind arith), λ k km kn. let o = a.orders k f.0 km f.1 kn n in let o' = a.orders f.0 k f.1 km n kn in ((grind arith, grind arith), (grind arith, grind arith))))
    (λ (none : (i : ℕ) → i < m → cond (eqb i p) (σ p + 1) (σ i) ≡ σ p → ⊥).
    let apart : (k : ℕ) → k < m → (k ≡ p → ⊥) → σ k ≡ σ p → ⊥ = λ k km kn e. none k km (grind (arith, nat_tests)) in
    ⊎_elim
    (λ (z : σ p < 1). by 0 (omega arith) (((λ e. refl), (λ e. omega arith)), λ k km kn. let w = a.zeros k km kn in let d = apart k km kn in ((grind arith, grind arith), (grind arith, grind arith))))
    (λ (z : 1 ≤ σ p). ⊎_elim
    (λ (y : σ p < 2). by 1 (omega arith) (((λ e. omega arith), (λ e. omega arith)), λ k km kn. let w = a.zeros k km kn in let d = apart k km kn in ((grind arith, grind arith), (grind arith, grind arith))))
    (λ (y : 2 ≤ σ p).
    let b = g p (σ p - 1) pm (omega arith) (omega arith) in
    let bn : b.0 ≡ p → ⊥ = λ e. let q = ap σ e in let b2 = b.2 in omega arith in
    let b2 = b.2 in
    by (2 * ρ b.0 + 1) (omega (arith, most b.0 b.1 bn)) (
      ((λ e. omega arith), (λ e. omega arith)),
      λ k km kn.
          let o = a.orders k b.0 km b.1 kn bn in let o' = a.orders b.0 k b.1 km bn kn in let d = apart k km kn in ((grind arith, grind arith), (grind arith, grind arith)),
    ))
    (cases_lt (σ p) 2))
    (cases_lt (σ p) 1))
    (find (λ i. cond (eqb i p) (σ p + 1) (σ i)) (σ p) m)
