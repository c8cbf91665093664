use Rattle.std.proofs.Common.{◌≡◌, ℕ, zero, suc, ◌<◌, ◌≤◌, cond, eqb, List, length, refl, ap, ⊎_elim, arith}
use Rattle.std.proofs.lemmas.Bool.{cases_lt, cases_eq}
use Rattle.std.proofs.lemmas.Bool.Decides.{nat_tests}
use Rattle.ranking.specs.declared.Item.{Item}
use Rattle.ranking.specs.Items.{rank_at}
use Rattle.ranking.specs.Ranks.{Orders, Zeros, Ranks}
use Rattle.ranking.specs.Rotation.{greatest}
use Rattle.ranking.proofs.Turns.{greatest_at}

-- the key of the items of rank r
abbrev pub pick : ℕ → (ℕ → ℕ) → (ℕ → ℕ) → ℕ → ℕ
pick zero ρ κ r = 0
pick (suc m) ρ κ r = cond (eqb (ρ m) r) (κ m) (pick m ρ κ r)

pick_from : (m n : ℕ) (ρ κ : ℕ → ℕ) → Orders n ρ κ → m ≤ n → (i : ℕ) → i < m → pick m ρ κ (ρ i) ≡ κ i
pick_from zero n ρ κ o le i lt = absurd (omega arith)
pick_from (suc m) n ρ κ o le i lt =
    let a = o i m (omega arith) (omega arith) in let b = o m i (omega arith) (omega arith) in
    ⊎_elim (λ (e : ρ m ≡ ρ i). grind (arith, nat_tests))
    (λ (d : ρ m ≡ ρ i → ⊥).
    let ne : i < m = ⊎_elim (λ (h : i < m). h) (λ (h : m ≤ i). let s : m ≡ i = omega arith in absurd (d (ap ρ s))) (cases_lt i m) in
    let r = pick_from m n ρ κ o (omega arith) i ne in grind (arith, nat_tests))
    (cases_eq (ρ m) (ρ i))

pub pick_is : (m : ℕ) (ρ κ : ℕ → ℕ) → Ranks m ρ κ → (i : ℕ) → i < m → pick m ρ κ (ρ i) ≡ κ i
pick_is m ρ κ r i lt = pick_from m m ρ κ r.orders (omega arith) i lt

pick_zero_from : (m n : ℕ) (ρ κ : ℕ → ℕ) → Zeros n ρ κ → m ≤ n → pick m ρ κ 0 ≡ 0
pick_zero_from zero n ρ κ z le = refl
pick_zero_from (suc m) n ρ κ z le = let r = pick_zero_from m n ρ κ z (omega arith) in let a = z m (omega arith) in grind (arith, nat_tests)

-- no item of rank 0, or one whose key is 0
pub pick_zero : (m : ℕ) (ρ κ : ℕ → ℕ) → Ranks m ρ κ → pick m ρ κ 0 ≡ 0
pick_zero m ρ κ r = pick_zero_from m m ρ κ r.zeros (omega arith)

-- the keys rise with the ranks that are used
pick_up : (m : ℕ) (ρ κ : ℕ → ℕ) → Ranks m ρ κ → (g : ℕ) → g < m → (p q : ℕ) → p < q → q ≤ ρ g → pick m ρ κ p < pick m ρ κ q
pick_up m ρ κ r g gm p q lt le =
    let b = r.gapless g q gm (omega arith) le in
    let eb = pick_is m ρ κ r b.0 b.1 in
    let zb = r.zeros b.0 b.1 in
    let fb = ap (pick m ρ κ) b.2 in
    ⊎_elim
    (λ (z : p < 1). let e : p ≡ 0 = omega arith in let f = ap (pick m ρ κ) e in let n = pick_zero m ρ κ r in let b2 = b.2 in grind arith)
    (λ (z : 1 ≤ p).
    let a = r.gapless g p gm z (omega arith) in
    let ea = pick_is m ρ κ r a.0 a.1 in
    let fa = ap (pick m ρ κ) a.2 in
    let o = r.orders b.0 a.0 b.1 a.1 in
    let a2 = a.2 in let b2 = b.2 in grind arith)
    (cases_lt p 1)

pub pick_rises : (m : ℕ) (xs : List Item) (κ : ℕ → ℕ) → length xs ≡ m → Ranks m (rank_at xs) κ → (p q : ℕ) → p < q → q ≤ greatest xs → pick m (rank_at xs) κ p < pick m (rank_at xs) κ q
pick_rises m xs κ long r p q lt le = let g = greatest_at xs (omega arith) in pick_up m (rank_at xs) κ r g.0 (omega (arith, g.1)) p q lt (omega (arith, g.2))
