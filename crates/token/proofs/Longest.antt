-- No longer number stands at the front of some bytes.
use Rattle.std.proofs.Common.{◌≡◌, ℕ, ◌+◌, ◌-◌, ◌<◌, ◌≤◌, Bool, true, false, eqb, ◌⊎◌, List, [], ◌∷◌, ◌++◌, length, take, drop, Some, sym, refl, ap, ◌∙◌, inl, inr, append_assoc, arith}
use Rattle.std.specs.List.{prefix_len, AllByRecursion}
use Rattle.std.proofs.lemmas.List.{drop_at, take_rest, length-append}
use Rattle.std.proofs.lemmas.Bool.Decides.{nat_tests}
use Rattle.token.specs.Bytes.{digit}
use Rattle.token.specs.Lex.{front, digits_len, sign_len, whole_len, fraction_len, power_len, exponent_len, tail_len, number_len, some_len}
use Rattle.token.specs.Numbers.{Digits, Minus, Whole, Fraction, Power, Exponent, Number, Longest}
use Rattle.token.proofs.Numbers.{Cut, number_cut}

-- a run goes on through bytes that pass the test, and stops where one fails
leading_more : (p : ℕ → Bool) (ws xs : List ℕ) → AllByRecursion (λ b. p b ≡ true) ws → prefix_len p (ws ++ xs) ≡ length ws + prefix_len p xs
leading_more p [] xs all = grind arith
leading_more p (w ∷ ws) xs all = grind (arith, leading_more p ws xs all.1)

pub leading_stop : (p : ℕ → Bool) (xs : List ℕ) → p (front xs) ≡ false → prefix_len p xs ≡ 0
leading_stop p [] e = refl
leading_stop p (x ∷ xs) e = rw e

pub leading_exact : (p : ℕ → Bool) (ws xs : List ℕ) → AllByRecursion (λ b. p b ≡ true) ws → p (front xs) ≡ false → prefix_len p (ws ++ xs) ≡ length ws
leading_exact p ws xs all e = omega (arith, leading_more p ws xs all, leading_stop p xs e)

front_digit : (ds more : List ℕ) → Digits ds → digit (front (ds ++ more)) ≡ true
front_digit [] more d = grind arith
front_digit (b ∷ bs) more d = d.1.0

digits_long : (ds more : List ℕ) → Digits ds → length ds ≤ digits_len (ds ++ more)
digits_long ds more d = omega (arith, leading_more digit ds more d.1)

minus_exact : (s rest : List ℕ) → Minus s → digit (front rest) ≡ true → sign_len (s ++ rest) ≡ length s
minus_exact s rest m d = grind (arith, nat_tests)

whole_first : (w rest : List ℕ) → Whole w → digit (front (w ++ rest)) ≡ true
whole_first [] rest m = grind arith
whole_first (b ∷ w) rest m = grind (arith, nat_tests)

whole_some : (w : List ℕ) → Whole w → 0 < length w
whole_some w m = grind arith

whole_long : (w rest : List ℕ) → Whole w → length w ≤ whole_len (w ++ rest)
whole_long [] rest m = grind arith
whole_long (b ∷ w) rest (inl e) = grind (arith, nat_tests)
whole_long (b ∷ w) rest (inr h) = grind (arith, nat_tests, digits_long (b ∷ w) rest h.0)

whole_exact : (w rest : List ℕ) → Whole w → digit (front rest) ≡ false → whole_len (w ++ rest) ≡ length w
whole_exact [] rest m stop = grind arith
whole_exact (b ∷ w) rest (inl e) stop = grind (arith, nat_tests)
whole_exact (b ∷ w) rest (inr h) stop = grind (arith, nat_tests, leading_exact digit (b ∷ w) rest h.0.1 stop)

fraction_long : (f rest : List ℕ) → Fraction f → length f ≤ fraction_len (f ++ rest)
fraction_long f rest (inl e) = grind arith
fraction_long f rest (inr h) = rw h.2 (grind (arith, nat_tests, digits_long h.0 rest h.1))

fraction_exact : (f rest : List ℕ) → Fraction f → eqb (front rest) 46 ≡ false → digit (front rest) ≡ false → fraction_len (f ++ rest) ≡ length f
fraction_exact f rest (inl e) other stop = grind (arith, nat_tests)
fraction_exact f rest (inr h) other stop = rw h.2 (grind (arith, nat_tests, leading_exact digit h.0 rest h.1.1 stop))

power_exact : (q rest : List ℕ) → Power q → digit (front rest) ≡ true → power_len (q ++ rest) ≡ length q
power_exact q rest p d = rw p.4 (grind (arith, nat_tests))

exponent_parts : (bs : List ℕ) (q d : ℕ) → power_len bs ≡ q → digits_len (drop q bs) ≡ d → 0 < q → 0 < d → exponent_len bs ≡ q + d
exponent_parts bs q d p e some any = grind (arith, nat_tests)

exponent_long : (x more : List ℕ) → Exponent x → length x ≤ exponent_len (x ++ more)
exponent_long x more (inl e) = rw e (omega arith)
exponent_long x more (inr (q, ds, p, d, e)) =
    let regroup : x ++ more ≡ q ++ (ds ++ more) = ap (λ l. l ++ more) e ∙ append_assoc q ds more in
    let long = digits_long ds more d in
    let sum = exponent_parts (q ++ (ds ++ more)) (length q) (digits_len (ds ++ more)) (power_exact q (ds ++ more) p (front_digit ds more d)) (ap digits_len (drop_at q (ds ++ more) (length q) refl)) (rw p.4 (omega arith)) (omega (arith, d.0)) in
    rw regroup (omega (arith, sum, ap length e, length-append q ds))

-- an exponent begins with neither a point nor a digit
exponent_front : (q rest : List ℕ) → Power q → (eqb (front (q ++ rest)) 46 ≡ false) × (digit (front (q ++ rest)) ≡ false)
exponent_front q rest p = rw p.4 (grind (arith, nat_tests))

tail_long : (f x more : List ℕ) → Fraction f → Exponent x → length f + length x ≤ tail_len (f ++ (x ++ more))
tail_long f x more k (inl e) = rw e (omega (arith, fraction_long f more k))
tail_long f x more k (inr (q, ds, p, d, e)) =
    let front-e : (eqb (front (x ++ more)) 46 ≡ false) × (digit (front (x ++ more)) ≡ false) = rw (e, append_assoc) (exponent_front q (ds ++ more) p) in
    let exact = fraction_exact f (x ++ more) k front-e.0 front-e.1 in
    let long = exponent_long x more (inr (q, ds, p, d, e)) in
    rw (exact, drop_at f (x ++ more) (length f) refl) (omega (arith, long))

-- the parts after the whole are nothing, or do not begin with a digit
tail_front : (f x more : List ℕ) → Fraction f → Exponent x → (length f + length x ≡ 0) ⊎ (digit (front (f ++ (x ++ more))) ≡ false)
tail_front f x more k (inl z) = grind (arith, nat_tests)
tail_front f x more k (inr (q, ds, p, d, z)) = grind (arith, nat_tests, exponent_front q (ds ++ more) p, append_assoc q ds more)

number_sum : (bs : List ℕ) (s w t : ℕ) → sign_len bs ≡ s → whole_len (drop s bs) ≡ w → 0 < w → tail_len (drop (s + w) bs) ≡ t → number_len bs ≡ s + w + t
number_sum bs s w t a b some c = grind (arith, nat_tests)

-- the parts that the reader finds
pub parts_len : (bs : List ℕ) (s w t : ℕ) → s ≡ sign_len bs → Some w ≡ some_len (whole_len (take (length bs - s) (drop s bs))) → t ≡ tail_len (take (length bs - (s + w)) (drop (s + w) bs)) → Some (s + w + t) ≡ some_len (number_len bs)
parts_len bs s w t a b c =
    let some : (w ≡ whole_len (take (length bs - s) (drop s bs))) × (0 < w) = grind (arith, nat_tests) in
    let sum = number_sum bs s w t (sym a) (ap whole_len (sym (take_rest bs s)) ∙ sym some.0) some.1 (ap tail_len (sym (take_rest bs (s + w))) ∙ sym c) in
    rw sum (grind (arith, nat_tests))

parts_long : (s w f x more : List ℕ) → Minus s → Whole w → Fraction f → Exponent x → ((length f + length x ≡ 0) ⊎ (digit (front (f ++ (x ++ more))) ≡ false)) → length s + length w + (length f + length x) ≤ number_len (s ++ (w ++ (f ++ (x ++ more))))
parts_long s w f x more i j k l (inl none) =
    let sign = minus_exact s (w ++ (f ++ (x ++ more))) i (whole_first w _ j) in
    let long = whole_long w (f ++ (x ++ more)) j in
    let sum = number_sum (s ++ (w ++ (f ++ (x ++ more)))) (length s) (whole_len (w ++ (f ++ (x ++ more)))) _ sign (ap whole_len (drop_at s (w ++ (f ++ (x ++ more))) (length s) refl)) (omega (arith, whole_some w j)) refl in
    omega (arith, sum)
parts_long s w f x more i j k l (inr stop) =
    let sign = minus_exact s (w ++ (f ++ (x ++ more))) i (whole_first w _ j) in
    let exact = whole_exact w (f ++ (x ++ more)) j stop in
    let regroup : (s ++ w) ++ (f ++ (x ++ more)) ≡ s ++ (w ++ (f ++ (x ++ more))) = append_assoc s w (f ++ (x ++ more)) in
    let after : drop (length s + length w) (s ++ (w ++ (f ++ (x ++ more)))) ≡ f ++ (x ++ more) = ap (drop (length s + length w)) (sym regroup) ∙ drop_at (s ++ w) (f ++ (x ++ more)) (length s + length w) (length-append s w) in
    let sum = number_sum (s ++ (w ++ (f ++ (x ++ more)))) (length s) (length w) (tail_len (f ++ (x ++ more))) sign (ap whole_len (drop_at s (w ++ (f ++ (x ++ more))) (length s) refl) ∙ exact) (whole_some w j) (ap tail_len after) in
    omega (arith, sum, tail_long f x more k l)

pub number_long : (ns more : List ℕ) → Number ns → length ns ≤ number_len (ns ++ more)
number_long ns more n =
    let s = n.minus in
    let w = n.whole in
    let f = n.fraction in
    let x = n.exponent in
    let regroup : ns ++ more ≡ s ++ (w ++ (f ++ (x ++ more))) = ap (λ l. l ++ more) n.joined ∙ append_assoc (s ++ w) (f ++ x) more ∙ append_assoc s w ((f ++ x) ++ more) ∙ ap (λ l. s ++ (w ++ l)) (append_assoc f x more) in
    let count = ap length n.joined in
    let sums = length-append (s ++ w) (f ++ x) in
    rw regroup (omega (arith, count, sums, length-append s w, length-append f x, parts_long s w f x more n.is_minus n.is_whole n.is_fraction n.is_exponent (tail_front f x more n.is_fraction n.is_exponent)))

pub number_some : (ns : List ℕ) → Number ns → 0 < length ns
number_some ns n = omega (arith, ap length n.joined, length-append (n.minus ++ n.whole) (n.fraction ++ n.exponent), length-append n.minus n.whole, whole_some n.whole n.is_whole)

-- the length of the longest number, both ways
pub longest_len : (ds more : List ℕ) → Longest ds more → number_len (ds ++ more) ≡ length ds
longest_len ds more l =
    let low = number_long ds more l.one in
    let c = number_cut (ds ++ more) (omega (arith, number_some ds l.one)) in
    let high = l.most c.piece c.more c.kind (sym c.parts) in
    omega (arith, c.long)

pub cut_longest : (bs : List ℕ) (c : Cut (number_len bs) Number bs) → Longest c.piece c.more
cut_longest bs c = record {
  one = c.kind;
  most = λ longer rest n e. omega (arith, number_long longer rest n, ap number_len (e ∙ sym c.parts), c.long);
}
