-- The value of a number token is the number that it writes.
use Rattle.std.proofs.Common.{◌≡◌, ℕ, ◌+◌, ◌-◌, ◌*◌, ◌/◌, ◌%◌, ◌^◌, ◌<◌, ◌≤◌, true, List, [], ◌∷◌, ◌++◌, length, Some, None, Ok, decimal, Option, Result, sym, refl, ap, ◌∙◌, subst, inl, inr, append_assoc, arith, rules}
use Rattle.std.specs.List.{AllByRecursion}
use Rattle.std.specs.Str.{all_ascii_digits}
use Rattle.std.proofs.lemmas.List.{append-nil, get_or_append_left}
use Rattle.std.proofs.lemmas.Fmt.{decimal_by_steps, decimal-digits_value}
use Rattle.std.proofs.lemmas.Str.Parse.{IsNumeralModel, numerals_by_fold}
use Rattle.std.proofs.lemmas.Bool.Decides.{nat_tests}
use Rattle.fault.specs.declared.Fault.{Fault}
use Rattle.token.specs.Bytes.{digit}
use Rattle.token.specs.Lex.{front}
use Rattle.token.specs.Numbers.{Minus, Whole, Fraction, Exponent, Number}
use Rattle.token.specs.Tokens.{name, number, sign, Ahead, token, end, none, ahead, gives, out}
use Rattle.token.specs.Grammar.{numeral, fit, number_due}
use Rattle.token.specs.Plain.{Plain, ReadsPlain}
use Rattle.token.proofs.Longest.{number_some}
use Rattle.token.proofs.Layouts.{number_token}

abbrev LIMIT : ℕ
LIMIT = 1000000000000000

numeral_step : (m d n : ℕ) (more : List ℕ) → d < 10 → n ≡ m * 10 + d → n ≤ LIMIT → numeral m ((48 + d) ∷ more) ≡ numeral n more
numeral_step m d n more low is high = grind (arith, nat_tests)

numeral_decimal : (n : ℕ) → n < 2 ^ 64 → n ≤ LIMIT → (more : List ℕ) → numeral 0 (decimal n ++ more) ≡ numeral n more
numeral_decimal n h =
    decimal_by_steps (λ m ds. m ≤ LIMIT → (more : List ℕ) → numeral 0 (ds ++ more) ≡ numeral m more)
    (λ m low high more. numeral_step 0 m m more low (omega arith) high)
    (λ m ds ten back high more. rw append_assoc (back (omega arith) ((48 + m % 10) ∷ more) ∙ numeral_step (m / 10) (m % 10) m more (omega arith) (omega arith) high))
    n h

numeral_whole : (n : ℕ) → n ≤ LIMIT → numeral 0 (decimal n) ≡ Some n
numeral_whole n high = rw append-nil at (numeral_decimal n (omega arith) high [])

-- what digits write after n
abbrev reading : ℕ → List ℕ → ℕ
reading n [] = n
reading n (b ∷ bs) = reading (n * 10 + (b - 48)) bs

own : IsNumeralModel (λ ds. all_ascii_digits ds ≡ true) (reading 0)
own = numerals_by_fold _ (search rules) reading (search rules)

record Valued (m : ℕ) (ds : List ℕ) (n : ℕ) : Type 0 where
  pub all : AllByRecursion (λ b. digit b ≡ true) ds
  pub digits : all_ascii_digits ds ≡ true
  pub same : reading m ds ≡ n
  pub small : n ≤ LIMIT

valued_step : (m b : ℕ) (ds : List ℕ) (n : ℕ) → numeral m (b ∷ ds) ≡ Some n → (digit b ≡ true) × (m * 10 + (b - 48) ≤ LIMIT) × (numeral (m * 10 + (b - 48)) ds ≡ Some n)
valued_step m b ds n e = grind (arith, nat_tests)

valued : (m : ℕ) (ds : List ℕ) (n : ℕ) → m ≤ LIMIT → numeral m ds ≡ Some n → Valued m ds n
valued m [] n low e = let same : m ≡ n = cc in record { all = tt; digits = refl; same = same; small = omega arith }
valued m (b ∷ ds) n low e =
    let s = valued_step m b ds n e in
    let v = valued (m * 10 + (b - 48)) ds n s.1 s.2 in
    record { all = (s.0, v.all); digits = rw v.digits (let z = s.0 in grind (arith, nat_tests)); same = v.same; small = v.small }

-- a number of digits alone that begins with 0 is 0
tail_nil : (f x : List ℕ) → Fraction f → Exponent x → AllByRecursion (λ b. digit b ≡ true) (f ++ x) → length (f ++ x) ≡ 0
tail_nil f x (inr h) k all = let z = (rw h.2 at all).0 in absurd (cc)
tail_nil f x (inl e) (inl z) all = rw (e, z)
tail_nil f x (inl e) (inr (q, ds, p, d, z)) all = let y = (rw (e, z, p.4) at all).0 in absurd (grind (arith, nat_tests))

alone : (s w t : List ℕ) → Minus s → Whole w → (AllByRecursion (λ b. digit b ≡ true) t → length t ≡ 0) → AllByRecursion (λ b. digit b ≡ true) ((s ++ w) ++ t) → front ((s ++ w) ++ t) ≡ 48 → length ((s ++ w) ++ t) ≡ 1
alone s w t (inr e) j none_left all zero-first = let z = (rw e at all).0 in absurd (cc)
alone s w t (inl e) (inl z) none_left all zero-first = let y = rw (e, z) at all in rw (e, z) (omega (arith, none_left y.1))
alone s w t (inl e) (inr h) none_left all zero-first = absurd (h.1 (sym (get_or_append_left w t 0 0 h.0.0) ∙ (rw e at zero-first)))

no_leading_zero : (ds : List ℕ) → Number ds → AllByRecursion (λ b. digit b ≡ true) ds → front ds ≡ 48 → length ds ≡ 1
no_leading_zero ds n all zero-first =
    ap length n.joined ∙ alone n.minus n.whole (n.fraction ++ n.exponent) n.is_minus n.is_whole (tail_nil n.fraction n.exponent n.is_fraction n.is_exponent) (subst (λ l. AllByRecursion (λ b. digit b ≡ true) l) n.joined all) (ap front (sym n.joined) ∙ zero-first)

-- a number token with a value is the decimal writing of it
written_so : (ds : List ℕ) (n : ℕ) → Number ds → 0 < length ds → numeral 0 ds ≡ Some n → (ds ≡ decimal n) × (n ≤ LIMIT)
written_so ds n is some e =
    let v = valued 0 ds n (omega arith) e in
    (sym (decimal-digits_value own ds v.digits some (no_leading_zero ds is v.all) (omega (arith, v.same, v.small))) ∙ ap decimal v.same, v.small)

-- what a call for a number answers
out_gives : (r : Result ℕ Fault) (b c : Ahead) (n : ℕ) → out (λ v. v) r b ≡ gives n c → r ≡ Ok n
out_gives r b c n e = grind arith

fit_plain : (ds : List ℕ) (q n : ℕ) (b c : Ahead) (o : Option ℕ) → Number ds → numeral 0 ds ≡ o → gives n b ≡ fit o q c → Plain (token (number ds q) c) n
fit_plain ds q n b c (Some v) is e h =
    let same : v ≡ n = cc in
    let w = written_so ds n is (number_some ds is) (e ∙ ap Some same) in
    record { place = q; after = c; stands = ap (λ l. token (number l q) c) w.0; small = w.1 }
fit_plain ds q n b c None is e h = absurd (cc)

due_plain : (a b : Ahead) (n : ℕ) → ((ds : List ℕ) (q : ℕ) (c : Ahead) → a ≡ token (number ds q) c → Number ds) → gives n b ≡ number_due a → Plain a n
due_plain (token (name w p) c) b n is h = absurd (cc)
due_plain (token (number ds q) c) b n is h = fit_plain ds q n b c (numeral 0 ds) (is ds q c refl) refl h
due_plain (token (sign w p) c) b n is h = absurd (cc)
due_plain (end p) b n is h = absurd (cc)
due_plain (none p) b n is h = absurd (cc)

plain_due : (a : Ahead) (n : ℕ) (p : Plain a n) → number_due a ≡ gives n p.after
plain_due a n p = rw (p.stands, numeral_whole n p.small)

pub reads_plain : (bs : List ℕ) (p : ℕ) (r : Result ℕ Fault) (b : Ahead) → out (λ n. n) r b ≡ number_due (ahead 0 bs p) → ReadsPlain (ahead 0 bs p) r
reads_plain bs p r b e = λ n. (
  λ pl. out_gives r b pl.after n (e ∙ plain_due (ahead 0 bs p) n pl),
  λ is. due_plain (ahead 0 bs p) b n (λ ds q c h. number_token bs p q ds c h) (ap (λ x. out (λ v. v) x b) (sym is) ∙ e),
)
