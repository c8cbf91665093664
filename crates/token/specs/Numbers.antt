-- The numbers of JSON, by their parts.
use Rattle.std.specs.Prelude.{◌≡◌, ℕ, ◌<◌, ◌≤◌, true, ◌⊎◌, List, [], ◌∷◌, ◌++◌, length, ◌≢◌}
use Rattle.std.specs.List.{AllByRecursion}
use Rattle.token.specs.Bytes.{digit}
use Rattle.token.specs.Lex.{front}

-- one digit or more
abbrev pub Digits : List ℕ → Type 0
Digits ds = (0 < length ds) × AllByRecursion (λ b. digit b ≡ true) ds

-- `-` or nothing
abbrev pub Minus : List ℕ → Type 0
Minus s = (s ≡ []) ⊎ (s ≡ 45 ∷ [])

-- `0`, or digits of which the first is not 0
abbrev pub Whole : List ℕ → Type 0
Whole w = (w ≡ 48 ∷ []) ⊎ (Digits w × (front w ≢ 48))

-- `.` and digits, or nothing
abbrev pub Fraction : List ℕ → Type 0
Fraction f = (f ≡ []) ⊎ ((ds : List ℕ) × Digits ds × (f ≡ 46 ∷ ds))

-- `+`, `-` or nothing
abbrev pub Signed : List ℕ → Type 0
Signed s = (s ≡ []) ⊎ ((s ≡ 43 ∷ []) ⊎ (s ≡ 45 ∷ []))

-- `e` or `E`, and then a sign or nothing
abbrev pub Power : List ℕ → Type 0
Power q = (e : ℕ) × (s : List ℕ) × ((e ≡ 101) ⊎ (e ≡ 69)) × Signed s × (q ≡ e ∷ s)

-- a power and digits, or nothing
abbrev pub Exponent : List ℕ → Type 0
Exponent x = (x ≡ []) ⊎ ((q : List ℕ) × (ds : List ℕ) × Power q × Digits ds × (x ≡ q ++ ds))

pub record Number (bs : List ℕ) : Type 0 where
  pub minus : List ℕ
  pub whole : List ℕ
  pub fraction : List ℕ
  pub exponent : List ℕ
  pub is_minus : Minus minus
  pub is_whole : Whole whole
  pub is_fraction : Fraction fraction
  pub is_exponent : Exponent exponent
  pub joined : bs ≡ (minus ++ whole) ++ (fraction ++ exponent)

-- ds is a number, and at the front of the same bytes stands no longer one
pub record Longest (ds more : List ℕ) : Type 0 where
  pub one : Number ds
  pub most : (longer rest : List ℕ) → Number longer → longer ++ rest ≡ ds ++ more → length longer ≤ length ds
