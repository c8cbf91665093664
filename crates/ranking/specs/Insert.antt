use Rattle.std.specs.Prelude.{◌≡◌, ℕ, ◌*◌, ◌<◌, ◌≤◌, cond, ◌==◌, ◌≢◌}

-- the ranks σ keep the zeros and the order of ρ but at the place p
pub record Agrees (m p : ℕ) (ρ σ : ℕ → ℕ) : Type 0 where
  pub zeros : (i : ℕ) → i < m → (i ≢ p) → (ρ i ≡ 0 → σ i ≡ 0) × (σ i ≡ 0 → ρ i ≡ 0)
  pub orders : (i j : ℕ) → i < m → j < m → (i ≢ p) → (j ≢ p) → (ρ i ≤ ρ j → σ i ≤ σ j) × (σ i ≤ σ j → ρ i ≤ ρ j)

-- twice each rank, and c at the place p: c is even at a rank and odd between two
abbrev pub between : ℕ → ℕ → (ℕ → ℕ) → ℕ → ℕ
between p c ρ i = cond (i == p) c (2 * ρ i)
