-- What the calls of a reader answer, from what is ahead.
use Rattle.std.specs.Prelude.{◌≡◌, ℕ, suc, ◌+◌, ◌-◌, ◌*◌, ◌<◌, Bool, true, false, cond, ◌&&◌, List, [], ◌∷◌, Some, None, Option, ◌==◌, nat_le}
use Rattle.std.specs.Str.{bytes_eq}
use Rattle.token.specs.Bytes.{digit}
use Rattle.token.specs.Lex.{front}
use Rattle.token.specs.Tokens.{Tok, name, number, sign, place_of, Ahead, token, end, none, Out, gives, denies, other_due, unfit, step}

-- one call after another
abbrev pub then : {A B : Type 0} → Out A → (A → Ahead → Out B) → Out B
then (gives v a) k = k v a
then (denies n l p a) k = denies n l p a

-- the number that digits write after n, or none: all are digits, and it stays within 10^15
abbrev pub numeral : ℕ → List ℕ → Option ℕ
numeral n [] = Some n
numeral n (b ∷ bs) = cond (digit b && nat_le (n * 10 + (b - 48)) 1000000000000000) (numeral (n * 10 + (b - 48)) bs) None

-- the mark c is due
abbrev pub as_mark : ℕ → Tok → Ahead → Out (Unit {0})
as_mark c (sign bs p) a = cond (front bs == c) (gives tt a) (other_due p a)
as_mark c (name bs p) a = other_due p a
as_mark c (number bs p) a = other_due p a

abbrev pub mark_due : ℕ → Ahead → Out (Unit {0})
mark_due c a = then (step a) (as_mark c)

-- the name w is due
abbrev pub as_name : List ℕ → Tok → Ahead → Out (Unit {0})
as_name w (sign bs p) a = other_due p a
as_name w (name bs p) a = cond (bytes_eq bs w) (gives tt a) (other_due p a)
as_name w (number bs p) a = other_due p a

abbrev pub name_due : List ℕ → Ahead → Out (Unit {0})
name_due w a = then (step a) (as_name w)

-- a number is due
abbrev pub fit : Option ℕ → ℕ → Ahead → Out ℕ
fit (Some n) p a = gives n a
fit None p a = unfit p a

abbrev pub as_number : Tok → Ahead → Out ℕ
as_number (sign bs p) a = other_due p a
as_number (name bs p) a = other_due p a
as_number (number bs p) a = fit (numeral 0 bs) p a

abbrev pub number_due : Ahead → Out ℕ
number_due a = then (step a) as_number

-- a comma is due, with more to follow, or the mark c, which ends what it is in
abbrev pub as_comma : ℕ → Tok → Ahead → Out Bool
as_comma c (sign bs p) a = cond (front bs == 44) (gives true a) (cond (front bs == c) (gives false a) (other_due p a))
as_comma c (name bs p) a = other_due p a
as_comma c (number bs p) a = other_due p a

abbrev pub comma_due : ℕ → Ahead → Out Bool
comma_due c a = then (step a) (as_comma c)

-- `"w":` is due
abbrev pub member_due : List ℕ → Ahead → Out (Unit {0})
member_due w a = then (name_due w a) (λ _ b. mark_due 58 b)

-- whether the mark c stands next
abbrev pub mark_next : ℕ → Ahead → Bool
mark_next c (token (sign bs p) a) = front bs == c
mark_next c (token (name bs p) a) = false
mark_next c (token (number bs p) a) = false
mark_next c (end p) = false
mark_next c (none p) = false

abbrev pub past_one : Ahead → Ahead
past_one (token t a) = a
past_one (end p) = end p
past_one (none p) = none p

-- what is ahead once the mark c, if it stands next, is passed
abbrev pub past_mark : ℕ → Ahead → Ahead
past_mark c a = cond (mark_next c a) (past_one a) a

-- whether only white bytes are left
abbrev pub is_end : Ahead → Bool
is_end (token t a) = false
is_end (end p) = true
is_end (none p) = false

-- the end of the text is due
abbrev pub end_due : Ahead → Out (Unit {0})
end_due a = cond (is_end a) (gives tt a) (then (step a) (λ t b. other_due (place_of t) b))

-- how many tokens are ahead
abbrev pub size : Ahead → ℕ
size (token t a) = suc (size a)
size (end p) = 0
size (none p) = 0

-- an answer leaves less ahead
abbrev pub Falls : {A : Type 0} → (Ahead → Out A) → Type 0
Falls {A} f = (a b : Ahead) (x : A) → gives x b ≡ f a → size b < size a
