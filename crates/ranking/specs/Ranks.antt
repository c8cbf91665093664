use Rattle.std.specs.Prelude.{◌≡◌, ℕ, ◌+◌, ◌/◌, ◌%◌, ◌<◌, ◌≤◌, min}

-- ranks without a gap: below each rank that is used, each from 1 is used
abbrev pub Gapless : ℕ → (ℕ → ℕ) → Type 0
Gapless m ρ = (i k : ℕ) → i < m → 1 ≤ k → k ≤ ρ i → (j : ℕ) × (j < m) × (ρ j ≡ k)

-- the ranks order the keys
abbrev pub Orders : ℕ → (ℕ → ℕ) → (ℕ → ℕ) → Type 0
Orders m ρ κ = (i j : ℕ) → i < m → j < m → (ρ i ≤ ρ j → κ i ≤ κ j) × (κ i ≤ κ j → ρ i ≤ ρ j)

-- an item is 0 in one where it is in the other
abbrev pub Zeros : ℕ → (ℕ → ℕ) → (ℕ → ℕ) → Type 0
Zeros m ρ κ = (i : ℕ) → i < m → (ρ i ≡ 0 → κ i ≡ 0) × (κ i ≡ 0 → ρ i ≡ 0)

-- ρ is the gapless ranking of the first m keys
pub record Ranks (m : ℕ) (ρ κ : ℕ → ℕ) : Type 0 where
  pub zeros : Zeros m ρ κ
  pub orders : Orders m ρ κ
  pub gapless : Gapless m ρ

-- the m values v, in parts of 1 / D, have the whole parts w, with a ceiling c for each, and their
-- fractions the ranks ρ
pub record Held (m : ℕ) (c : ℕ → ℕ) (D : ℕ) (w ρ v : ℕ → ℕ) : Type 0 where
  pub wholes : (i : ℕ) → i < m → w i ≡ min (v i / D) (c i + 1)
  pub ranks : Ranks m ρ (λ i. v i % D)

-- half a part past v: nothing is whole
pub record Past (m : ℕ) (c : ℕ → ℕ) (D : ℕ) (w ρ v : ℕ → ℕ) : Type 0 where
  pub wholes : (i : ℕ) → i < m → w i ≡ min (v i / D) (c i + 1)
  pub ranks : Ranks m ρ (λ i. v i % D + 1)
