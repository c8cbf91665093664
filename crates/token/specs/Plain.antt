-- A number that is written with digits alone and is at most 10^15.
use Rattle.std.specs.Prelude.{◌≡◌, ℕ, ◌≤◌, Ok, decimal, Result}
use Rattle.fault.specs.declared.Fault.{Fault}
use Rattle.token.specs.Tokens.{number, Ahead, token}

-- the next token is n, written in the decimal way
pub record Plain (a : Ahead) (n : ℕ) : Type 0 where
  pub place : ℕ
  pub after : Ahead
  pub stands : a ≡ token (number (decimal n) place) after
  pub small : n ≤ 1000000000000000

-- r is n just where the next token is n, so written
abbrev pub ReadsPlain : Ahead → Result ℕ Fault → Type 0
ReadsPlain a r = (n : ℕ) → (Plain a n → r ≡ Ok n) × (r ≡ Ok n → Plain a n)
