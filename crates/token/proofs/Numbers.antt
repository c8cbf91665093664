-- The number at the front of some bytes is the longest one.
use Rattle.std.proofs.Common.{◌≡◌, ℕ, ◌+◌, ◌<◌, Bool, true, false, cond, ◌&&◌, ◌||◌, eqb, ltb, ◌⊎◌, List, [], ◌∷◌, ◌++◌, length, drop, sym, refl, ap, ◌∙◌, subst, inl, inr, append_assoc, arith}
use Rattle.std.specs.List.{prefix_len, AllByRecursion}
use Rattle.std.proofs.lemmas.List.{drop_at, get_or_append_left, length-append}
use Rattle.std.proofs.lemmas.Bool.{eqb-true, eqb-false, ltb-true}
use Rattle.std.proofs.lemmas.Bool.Decides.{nat_tests}
use Rattle.token.specs.Bytes.{digit}
use Rattle.token.specs.Lex.{front, digits_len, sign_len, whole_len, fraction_len, power_len, exponent_len, tail_len, number_len}
use Rattle.token.specs.Numbers.{Digits, Minus, Whole, Fraction, Signed, Power, Exponent, Number}

-- the first n of some bytes are of a kind
pub record Cut (n : ℕ) (K : List ℕ → Type 0) (bs : List ℕ) : Type 0 where
  pub piece : List ℕ
  pub more : List ℕ
  pub parts : bs ≡ piece ++ more
  pub long : n ≡ length piece
  pub kind : K piece

no_cut : {K : List ℕ → Type 0} (bs : List ℕ) → K [] → Cut 0 K bs
no_cut bs k = record { piece = []; more = bs; parts = refl; long = refl; kind = k }

one_cut : {K : List ℕ → Type 0} (b : ℕ) (bs : List ℕ) → K (b ∷ []) → Cut 1 K (b ∷ bs)
one_cut b bs k = record { piece = b ∷ []; more = bs; parts = refl; long = refl; kind = k }

pub cut_rest : {n : ℕ} {K : List ℕ → Type 0} {bs : List ℕ} (c : Cut n K bs) → drop n bs ≡ c.more
cut_rest {n} c = ap (drop n) c.parts ∙ drop_at c.piece c.more n (sym c.long)

join : {n m : ℕ} {K L J : List ℕ → Type 0} {bs : List ℕ} → ((p q : List ℕ) → K p → L q → J (p ++ q)) → Cut n K bs → Cut m L (drop n bs) → Cut (n + m) J bs
join {n} {m} {K} {L} {J} {bs} both c d = record {
  piece = c.piece ++ d.piece;
  more = d.more;
  parts = c.parts ∙ ap (λ l. c.piece ++ l) (sym (cut_rest c) ∙ d.parts) ∙ sym (append_assoc c.piece d.piece d.more);
  long = omega (arith, c.long, d.long, length-append c.piece d.piece);
  kind = both c.piece d.piece c.kind d.kind;
}

-- a run of bytes that pass a test
leading_case : (p : ℕ → Bool) (b : ℕ) (bs : List ℕ) (t : Bool) → p b ≡ t → Cut (prefix_len p bs) (λ ws. AllByRecursion (λ b. p b ≡ true) ws) bs → Cut (cond t (1 + prefix_len p bs) 0) (λ ws. AllByRecursion (λ b. p b ≡ true) ws) (b ∷ bs)
leading_case p b bs true e c = record { piece = b ∷ c.piece; more = c.more; parts = ap (λ l. b ∷ l) c.parts; long = omega (arith, c.long); kind = (e, c.kind) }
leading_case p b bs false e c = no_cut (b ∷ bs) tt

pub leading_cut : (p : ℕ → Bool) (bs : List ℕ) → Cut (prefix_len p bs) (λ ws. AllByRecursion (λ b. p b ≡ true) ws) bs
leading_cut p [] = no_cut [] tt
leading_cut p (b ∷ bs) = leading_case p b bs (p b) refl (leading_cut p bs)

digits_cut : (bs : List ℕ) → 0 < digits_len bs → Cut (digits_len bs) Digits bs
digits_cut bs h = let c = leading_cut digit bs in record { piece = c.piece; more = c.more; parts = c.parts; long = c.long; kind = (omega (arith, c.long), c.kind) }

minus_case : (b : ℕ) (bs : List ℕ) (t : Bool) → eqb b 45 ≡ t → Cut (cond t 1 0) Minus (b ∷ bs)
minus_case b bs true e = one_cut b bs (inr (ap (λ x. x ∷ []) (eqb-true b 45 e)))
minus_case b bs false e = no_cut (b ∷ bs) (inl refl)

minus_cut : (bs : List ℕ) → Cut (sign_len bs) Minus bs
minus_cut [] = no_cut [] (inl refl)
minus_cut (b ∷ bs) = minus_case b bs (eqb b 45) refl

front_of : (ps more : List ℕ) → 0 < length ps → front (ps ++ more) ≡ front ps
front_of ps more h = get_or_append_left ps more 0 0 h

whole_case : (b : ℕ) (bs : List ℕ) (t : Bool) → eqb b 48 ≡ t → 0 < cond t 1 (digits_len (b ∷ bs)) → Cut (cond t 1 (digits_len (b ∷ bs))) Whole (b ∷ bs)
whole_case b bs true e h = one_cut b bs (inl (ap (λ x. x ∷ []) (eqb-true b 48 e)))
whole_case b bs false e h =
    let c = digits_cut (b ∷ bs) h in
    let same : b ≡ front c.piece = ap front c.parts ∙ front_of c.piece c.more c.kind.0 in
    record { piece = c.piece; more = c.more; parts = c.parts; long = c.long; kind = inr (c.kind, λ z. eqb-false b 48 e (same ∙ z)) }

whole_cut : (bs : List ℕ) → 0 < whole_len bs → Cut (whole_len bs) Whole bs
whole_cut [] h = absurd (omega arith)
whole_cut (b ∷ bs) h = whole_case b bs (eqb b 48) refl h

fraction_case : (b : ℕ) (bs : List ℕ) (t u : Bool) → eqb b 46 ≡ t → ltb 0 (digits_len bs) ≡ u → Cut (cond (t && u) (1 + digits_len bs) 0) Fraction (b ∷ bs)
fraction_case b bs true true e h =
    let c = digits_cut bs (ltb-true 0 _ h) in
    record { piece = b ∷ c.piece; more = c.more; parts = ap (λ l. b ∷ l) c.parts; long = omega (arith, c.long); kind = inr (c.piece, c.kind, ap (λ x. x ∷ c.piece) (eqb-true b 46 e)) }
fraction_case b bs true false e h = no_cut (b ∷ bs) (inl refl)
fraction_case b bs false u e h = no_cut (b ∷ bs) (inl refl)

fraction_cut : (bs : List ℕ) → Cut (fraction_len bs) Fraction bs
fraction_cut [] = no_cut [] (inl refl)
fraction_cut (b ∷ bs) = fraction_case b bs (eqb b 46) (ltb 0 (digits_len bs)) refl refl

either : (b : ℕ) → (eqb b 43 || eqb b 45) ≡ true → Signed (b ∷ [])
either b e = grind (arith, nat_tests)

signed_case : (b : ℕ) (bs : List ℕ) (t : Bool) → (eqb b 43 || eqb b 45) ≡ t → Cut (cond t 1 0) Signed (b ∷ bs)
signed_case b bs true e = one_cut b bs (either b e)
signed_case b bs false e = no_cut (b ∷ bs) (inl refl)

signed_cut : (bs : List ℕ) → Cut (cond (eqb (front bs) 43 || eqb (front bs) 45) 1 0) Signed bs
signed_cut [] = no_cut [] (inl refl)
signed_cut (b ∷ bs) = signed_case b bs (eqb b 43 || eqb b 45) refl

letter_e : (b : ℕ) → (eqb b 101 || eqb b 69) ≡ true → (b ≡ 101) ⊎ (b ≡ 69)
letter_e b e = grind (arith, nat_tests)

power_case : (b : ℕ) (bs : List ℕ) (t : Bool) → (eqb b 101 || eqb b 69) ≡ t → 0 < cond t (1 + cond (eqb (front bs) 43 || eqb (front bs) 45) 1 0) 0 → Cut (cond t (1 + cond (eqb (front bs) 43 || eqb (front bs) 45) 1 0) 0) Power (b ∷ bs)
power_case b bs true e h =
    let c = signed_cut bs in
    record { piece = b ∷ c.piece; more = c.more; parts = ap (λ l. b ∷ l) c.parts; long = omega (arith, c.long); kind = (b, c.piece, letter_e b e, c.kind, refl) }
power_case b bs false e h = absurd (omega arith)

power_cut : (bs : List ℕ) → 0 < power_len bs → Cut (power_len bs) Power bs
power_cut [] h = absurd (omega arith)
power_cut (b ∷ bs) h = power_case b bs (eqb b 101 || eqb b 69) refl h

exponent_case : (bs : List ℕ) (t u : Bool) → ltb 0 (power_len bs) ≡ t → ltb 0 (digits_len (drop (power_len bs) bs)) ≡ u → Cut (cond (t && u) (power_len bs + digits_len (drop (power_len bs) bs)) 0) Exponent bs
exponent_case bs true true e h = join (λ q ds k l. inr (q, ds, k, l, refl)) (power_cut bs (ltb-true 0 _ e)) (digits_cut (drop (power_len bs) bs) (ltb-true 0 _ h))
exponent_case bs true false e h = no_cut bs (inl refl)
exponent_case bs false u e h = no_cut bs (inl refl)

exponent_cut : (bs : List ℕ) → Cut (exponent_len bs) Exponent bs
exponent_cut bs = exponent_case bs (ltb 0 (power_len bs)) (ltb 0 (digits_len (drop (power_len bs) bs))) refl refl

abbrev Head : List ℕ → Type 0
Head p = (s : List ℕ) × (w : List ℕ) × Minus s × Whole w × (p ≡ s ++ w)

abbrev Tail : List ℕ → Type 0
Tail p = (f : List ℕ) × (x : List ℕ) × Fraction f × Exponent x × (p ≡ f ++ x)

number_of : (p q : List ℕ) → Head p → Tail q → Number (p ++ q)
number_of p q h t = record {
  minus = h.0;
  whole = h.1;
  fraction = t.0;
  exponent = t.1;
  is_minus = h.2;
  is_whole = h.3;
  is_fraction = t.2;
  is_exponent = t.3;
  joined = λ i. h.4 i ++ t.4 i;
}

number_case : (bs : List ℕ) (s w : ℕ) (t : Bool) → s ≡ sign_len bs → w ≡ whole_len (drop s bs) → eqb w 0 ≡ t → 0 < cond t 0 (s + w + tail_len (drop (s + w) bs)) → Cut (cond t 0 (s + w + tail_len (drop (s + w) bs))) Number bs
number_case bs s w true a b e h = absurd (omega arith)
number_case bs s w false a b e h =
    let head : Cut (s + w) Head bs = join (λ s w k l. (s, w, k, l, refl)) (subst (λ n. Cut n Minus bs) (sym a) (minus_cut bs)) (subst (λ n. Cut n Whole (drop s bs)) (sym b) (whole_cut (drop s bs) (let z = eqb-false w 0 e in grind arith))) in
    let tail : Cut (tail_len (drop (s + w) bs)) Tail (drop (s + w) bs) = join (λ f x k l. (f, x, k, l, refl)) (fraction_cut (drop (s + w) bs)) (exponent_cut _) in
    join number_of head tail

pub number_cut : (bs : List ℕ) → 0 < number_len bs → Cut (number_len bs) Number bs
number_cut bs h = number_case bs (sign_len bs) (whole_len (drop (sign_len bs) bs)) (eqb (whole_len (drop (sign_len bs) bs)) 0) refl refl refl h
