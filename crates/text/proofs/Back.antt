-- What is written reads back, piece by piece.
use Rattle.std.proofs.Common.{◌≡◌, ℕ, ◌+◌, ◌-◌, ◌*◌, ◌/◌, ◌%◌, ◌^◌, ◌<◌, true, false, leb, List, [], ◌∷◌, ◌++◌, Some, decimal, refl, ap, ◌∙◌, append_assoc, arith, eq-eqb}
use Rattle.std.specs.Str.{bytes_eq}
use Rattle.std.proofs.lemmas.List.{append-nil}
use Rattle.std.proofs.lemmas.Fmt.{decimal_by_steps}
use Rattle.std.proofs.lemmas.Bool.Decides.{nat_tests}
use Rattle.token.specs.Bytes.{digit}
use Rattle.token.specs.Tokens.{Ahead, token, Out, gives}
use Rattle.token.specs.Grammar.{then, numeral, mark_due, name_due, number_due, comma_due}
use Rattle.token.specs.Layout.{Piece, word, punct, tok}
use Rattle.text.specs.Written.{amount, Small}

-- a is tokens that show these pieces, wherever they stand, and then b
abbrev pub Shows : List Piece → Ahead → Ahead → Type 0
Shows [] a b = a ≡ b
Shows (k ∷ ks) a b = (p : ℕ) × (c : Ahead) × (a ≡ token (tok k p) c) × Shows ks c b

pub shows_append : (ks js : List Piece) (a b : Ahead) → Shows (ks ++ js) a b → (c : Ahead) × Shows ks a c × Shows js c b
shows_append [] js a b s = (a, refl, s)
shows_append (k ∷ ks) js a b s = let r = shows_append ks js s.1 b s.3 in (r.0, (s.0, s.1, s.2, r.1), r.2)

-- f reads these pieces as v
pub record Reads {A : Type 0} (f : Ahead → Out A) (ks : List Piece) (v : A) : Type 0 where
  pub back : (a b : Ahead) → Shows ks a b → f a ≡ gives v b

pub reads_then : {A B : Type 0} (f : Ahead → Out A) (k : A → Ahead → Out B) (ks js : List Piece) (v : A) (w : B) → Reads f ks v → Reads (k v) js w → Reads (λ a. then (f a) k) (ks ++ js) w
reads_then f k ks js v w one two = record { back = λ a b s. let r = shows_append ks js a b s in ap (λ o. then o k) (one.back a r.0 r.1) ∙ two.back r.0 b r.2 }

pub reads_gives : {A : Type 0} (v : A) → Reads (λ a. gives v a) [] v
reads_gives v = record { back = λ a b s. ap (gives v) s }

pub reads_mark : (c : ℕ) → Reads (mark_due c) (punct c ∷ []) tt
reads_mark c = record { back = λ a b s. rw (s.2, eq-eqb c c refl, s.3) }

pub reads_name : (w : List ℕ) → bytes_eq w w ≡ true → Reads (name_due w) (word w ∷ []) tt
reads_name w e = record { back = λ a b s. rw (s.2, e, s.3) }

numeral_step : (m d n : ℕ) (more : List ℕ) → d < 10 → n ≡ m * 10 + d → Small n → numeral m ((48 + d) ∷ more) ≡ numeral n more
numeral_step m d n more low is high =
    let here : digit (48 + d) ≡ true = grind (arith, nat_tests) in
    let back : 48 + d - 48 ≡ d = omega arith in
    let fits : leb n 1000000000000000 ≡ true = grind (arith, nat_tests) in
    rw (here, back, ← is, fits)

numeral_decimal : (n : ℕ) → n < 2 ^ 64 → Small n → (more : List ℕ) → numeral 0 (decimal n ++ more) ≡ numeral n more
numeral_decimal n h =
    decimal_by_steps (λ m ds. Small m → (more : List ℕ) → numeral 0 (ds ++ more) ≡ numeral m more)
    (λ m low high more. numeral_step 0 m m more low (omega arith) high)
    (λ m ds ten back high more. rw append_assoc (back (omega arith) ((48 + m % 10) ∷ more) ∙ numeral_step (m / 10) (m % 10) m more (omega arith) (omega arith) high))
    n h

numeral_whole : (n : ℕ) → Small n → numeral 0 (decimal n) ≡ Some n
numeral_whole n high = rw append-nil at (numeral_decimal n (omega arith) high [])

pub reads_number : (n : ℕ) → Small n → Reads number_due (amount n ∷ []) n
reads_number n high = record { back = λ a b s. rw (s.2, numeral_whole n high, s.3) }

pub reads_more : Reads (comma_due 93) (punct 44 ∷ []) true
reads_more = record { back = λ a b s. rw (s.2, s.3) }

pub reads_close : Reads (comma_due 93) (punct 93 ∷ []) false
reads_close = record { back = λ a b s. rw (s.2, s.3) }
