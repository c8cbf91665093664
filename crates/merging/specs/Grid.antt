use Rattle.std.specs.Prelude.{ℕ, zero, suc, ◌+◌}

-- one row of the number of ways, f being the row before
abbrev pub row : (ℕ → ℕ) → ℕ → ℕ
row f zero = 1
row f (suc b) = f (suc b) + row f b + f b

-- how many ways lead through a by b steps, each step along one side or both
abbrev pub grid : ℕ → ℕ → ℕ
grid zero b = 1
grid (suc a) b = row (grid a) b
