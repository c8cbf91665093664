-- What is ahead after the white bytes at a place.
use Rattle.std.proofs.Common.{◌≡◌, ℕ, zero, suc, ◌+◌, ◌-◌, ◌<◌, ◌≤◌, Bool, true, false, cond, eqb, List, [], ◌∷◌, length, take, drop, slice_get, Some, None, sym, refl, ap, ◌∙◌, add-zero, one-add, arith, length-drop}
use Rattle.std.specs.List.{prefix_len, between}
use Rattle.std.proofs.lemmas.List.{drop-drop, nil_from_length, take_rest}
use Rattle.std.proofs.lemmas.Bool.{true≢false}
use Rattle.std.proofs.lemmas.Bool.Decides.{nat_tests}
use Rattle.token.specs.Bytes.{white, mark}
use Rattle.token.specs.Grammar.{is_end}
use Rattle.token.specs.Lex.{front, name_len, number_len, some_len}
use Rattle.token.specs.Tokens.{Tok, Ahead, name, number, sign, token, end, none, ahead, token_len, token_of, gives, no_token, other_due, step}

pub ahead_past : (n : ℕ) (bs : List ℕ) (p : ℕ) → ahead n bs p ≡ ahead 0 (drop n bs) (p + n)
unfolding ahead
ahead_past zero [] p = ap end (sym (add-zero (p + 0)))
ahead_past (suc n) [] p = ap end (sym (add-zero (p + suc n)))
ahead_past zero (b ∷ bs) p = ap (ahead 0 (b ∷ bs)) (sym (add-zero p))
ahead_past (suc n) (b ∷ bs) p = ahead_past n bs (p + 1) ∙ ap (ahead 0 (drop n bs)) (omega arith)

abbrev pub go : List ℕ → ℕ → Ahead
go [] s = end s
go (b ∷ bs) s = cond (eqb (token_len (b ∷ bs)) 0) (none s) (token (token_of (b ∷ bs) s) (ahead 0 (drop (token_len (b ∷ bs)) (b ∷ bs)) (s + token_len (b ∷ bs))))

-- the rest after a token of n bytes
rest_of : (t : Bool) (n : ℕ) (b : ℕ) (bs : List ℕ) (p : ℕ) (k : Tok) → eqb n 0 ≡ t → cond t (none p) (token k (ahead (n - 1) bs (p + 1))) ≡ cond t (none p) (token k (ahead 0 (drop n (b ∷ bs)) (p + n)))
rest_of true n b bs p k e = refl
rest_of false zero b bs p k e = absurd (true≢false e)
rest_of false (suc n) b bs p k e =
    let back : suc n - 1 ≡ n = omega arith in
    let sums : p + 1 + (suc n - 1) ≡ p + suc n = omega arith in
    ap (token k) (ahead_past (suc n - 1) bs (p + 1) ∙ (λ i. ahead 0 (drop (back i) bs) (sums i)))

step_white : (t : Bool) (n b : ℕ) (bs : List ℕ) (p : ℕ) → ahead 0 bs (p + 1) ≡ go (drop n bs) (p + 1 + n) → cond t (ahead 0 bs (p + 1)) (go (b ∷ bs) p) ≡ go (drop (cond t (1 + n) 0) (b ∷ bs)) (p + cond t (1 + n) 0)
step_white true n b bs p h = h ∙ rw one-add (ap (go (drop n bs)) (omega arith))
step_white false n b bs p h = ap (go (b ∷ bs)) (sym (add-zero p))

pub arrives : (bs : List ℕ) (p : ℕ) → ahead 0 bs p ≡ go (drop (prefix_len white bs) bs) (p + prefix_len white bs)
unfolding ahead
arrives [] p = refl
arrives (b ∷ bs) p = ap (cond (white b) (ahead 0 bs (p + 1))) (rest_of (eqb (token_len (b ∷ bs)) 0) (token_len (b ∷ bs)) b bs p (token_of (b ∷ bs) p) refl) ∙ step_white (white b) (prefix_len white bs) b bs p (arrives bs (p + 1))

gone : (rest : List ℕ) (s : ℕ) → 0 < length rest → token_len rest ≡ 0 → no_token s (go rest s) ≡ step (go rest s)
gone [] s h e = absurd (omega arith)
gone (b ∷ bs) s h e = grind (arith, nat_tests)

there : (rest : List ℕ) (s : ℕ) → 0 < length rest → 0 < token_len rest → gives (token_of rest s) (ahead 0 (drop (token_len rest) rest) (s + token_len rest)) ≡ step (go rest s)
there [] s h e = absurd (omega arith)
there (b ∷ bs) s h e = grind (arith, nat_tests)

-- the first of some bytes
first_is : (bs : List ℕ) (b : ℕ) → Some b ≡ slice_get bs 0 → (0 < length bs) × (front bs ≡ b)
first_is [] b e = absurd (cc)
first_is (c ∷ bs) b e = (omega arith, cc)

no_first : (bs : List ℕ) → None ≡ slice_get bs 0 → length bs ≡ 0
no_first [] e = refl
no_first (c ∷ bs) e = absurd (cc)

-- a length that is some, or none
some_long : (n m : ℕ) → Some n ≡ some_len m → (n ≡ m) × (0 < n)
some_long n m e = grind (arith, nat_tests)

none_long : (m : ℕ) → None ≡ some_len m → 0 ≡ m
none_long m e = grind (arith, nat_tests)

-- which token stands at the front
pub as_mark : (bs : List ℕ) (s : ℕ) → mark (front bs) ≡ true → (1 ≡ token_len bs) × (sign (take 1 bs) s ≡ token_of bs s)
unfolding token_len token_of
as_mark bs s e = (rw e, rw e)

pub as_name : (bs : List ℕ) (s n : ℕ) → front bs ≡ 34 → n ≡ name_len bs → (n ≡ token_len bs) × (name (between 1 (n - 1) bs) s ≡ token_of bs s)
unfolding token_len token_of
as_name bs s n e long = rw long (rw e, rw e)

pub as_number : (bs : List ℕ) (s n : ℕ) → mark (front bs) ≡ false → eqb (front bs) 34 ≡ false → n ≡ number_len bs → (n ≡ token_len bs) × (number (take n bs) s ≡ token_of bs s)
unfolding token_len token_of
as_number bs s n e q long = rw long (rw (e, q), rw (e, q))

-- the reader at p in text comes past white bytes to s, and looks at the first byte there
module _ (text : List ℕ) (p s : ℕ) (skips : s ≡ p + prefix_len white (drop p text)) where
  abbrev pub rest : List ℕ
  rest = take (length text - s) (drop s text)

  arrived : ahead 0 (drop p text) p ≡ go rest s
  arrived = arrives (drop p text) p ∙ rw (drop-drop, ← skips, take_rest)

  pub ended : None ≡ slice_get rest 0 → other_due s (ahead 0 (drop p text) p) ≡ step (ahead 0 (drop p text) p)
  ended h = let nil = nil_from_length rest (no_first rest h) in rw (arrived, nil)

  pub missed : 0 < length rest → 0 ≡ token_len rest → no_token s (ahead 0 (drop p text) p) ≡ step (ahead 0 (drop p text) p)
  missed h e = rw arrived (gone rest s h (sym e))

  pub found : (n : ℕ) (t : Tok) → 0 < length rest → 0 < n → (n ≡ token_len rest) × (t ≡ token_of rest s) → gives t (ahead 0 (drop (s + n) text) (s + n)) ≡ step (ahead 0 (drop p text) p)
  found n t h some kind =
      let after : drop (s + n) text ≡ drop n rest = sym (drop-drop n s text) ∙ ap (drop n) (sym (take_rest text s)) in
      rw (arrived, after, kind.1, kind.0) (there rest s h (omega arith))

  pub mark_next : (b : ℕ) → Some b ≡ slice_get rest 0 → mark b ≡ true → gives (sign (take 1 rest) s) (ahead 0 (drop (s + 1) text) (s + 1)) ≡ step (ahead 0 (drop p text) p)
  mark_next b h e = let f = first_is rest b h in found 1 _ f.0 (omega arith) (as_mark rest s (ap mark f.1 ∙ e))

  pub no_name : Some 34 ≡ slice_get rest 0 → None ≡ some_len (name_len rest) → no_token s (ahead 0 (drop p text) p) ≡ step (ahead 0 (drop p text) p)
  no_name h e = let f = first_is rest 34 h in missed f.0 (as_name rest s 0 f.1 (none_long _ e)).0

  pub name_next : Some 34 ≡ slice_get rest 0 → (n : ℕ) → Some n ≡ some_len (name_len rest) → gives (name (between 1 (n - 1) rest) s) (ahead 0 (drop (s + n) text) (s + n)) ≡ step (ahead 0 (drop p text) p)
  name_next h n e = let f = first_is rest 34 h in let l = some_long n _ e in found n _ f.0 l.1 (as_name rest s n f.1 l.0)

  module _ (b : ℕ) (h : Some b ≡ slice_get rest 0) (other : mark b ≡ false) (nor : eqb b 34 ≡ false) where
    is_number : (n : ℕ) → n ≡ number_len rest → (n ≡ token_len rest) × (number (take n rest) s ≡ token_of rest s)
    is_number n e = let f = first_is rest b h in as_number rest s n (ap mark f.1 ∙ other) (ap (λ x. eqb x 34) f.1 ∙ nor) e

    pub no_number : None ≡ some_len (number_len rest) → no_token s (ahead 0 (drop p text) p) ≡ step (ahead 0 (drop p text) p)
    no_number e = missed (first_is rest b h).0 (is_number 0 (none_long _ e)).0

    pub number_next : (n : ℕ) → Some n ≡ some_len (number_len rest) → gives (number (take n rest) s) (ahead 0 (drop (s + n) text) (s + n)) ≡ step (ahead 0 (drop p text) p)
    number_next n e = let l = some_long n _ e in found n _ (first_is rest b h).0 l.1 (is_number n l.0)

-- only white bytes are left
end_go : (rest : List ℕ) (s : ℕ) → is_end (go rest s) ≡ eqb (length rest) 0
end_go [] s = refl
end_go (b ∷ bs) s = grind (arith, nat_tests)

pub all_white : (bs : List ℕ) (p : ℕ) → prefix_len white bs ≤ length bs → eqb (prefix_len white bs) (length bs) ≡ is_end (ahead 0 bs p)
all_white bs p h =
    let left = length-drop (prefix_len white bs) bs in
    let same : eqb (prefix_len white bs) (length bs) ≡ eqb (length (drop (prefix_len white bs) bs)) 0 = rw left (grind (arith, nat_tests)) in
    same ∙ sym (end_go (drop (prefix_len white bs) bs) (p + prefix_len white bs)) ∙ sym (ap is_end (arrives bs p))

-- the reader at p in text comes past white bytes to s
pub white_left : (text : List ℕ) (p s : ℕ) → s ≡ p + prefix_len white (drop p text) → p ≤ length text → s ≤ length text → eqb s (length text) ≡ is_end (ahead 0 (drop p text) p)
white_left text p s e h k =
    let same : eqb s (length text) ≡ eqb (prefix_len white (drop p text)) (length (drop p text)) = rw (e, length-drop) (grind (arith, nat_tests)) in
    same ∙ all_white (drop p text) p (omega (arith, length-drop p text))
