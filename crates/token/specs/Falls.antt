-- Each answer leaves fewer tokens ahead.
use Rattle.std.specs.Prelude.{◌≡◌, ℕ, ◌<◌, ◌≤◌, Bool, true, false, cond, List, Some, None, Option, ◌==◌, refl}
use Rattle.std.proofs.Common.{ap, ◌∙◌, arith}
use Rattle.std.specs.Str.{bytes_eq}
use Rattle.token.specs.Lex.{front}
use Rattle.token.specs.Tokens.{Tok, name, number, sign, Ahead, token, end, none, Out, gives, denies, step}
use Rattle.token.specs.Grammar.{then, numeral, fit, as_mark, as_name, as_number, as_comma, mark_due, name_due, number_due, comma_due, member_due, size, Falls}

abbrev pub rest : {A : Type 0} → Out A → Ahead
rest (gives v a) = a
rest (denies n l p a) = a

-- a call that judges one token
pub token_falls : {A : Type 0} (k : Tok → Ahead → Out A) → ((t : Tok) (a : Ahead) → rest (k t a) ≡ a) → Falls (λ a. then (step a) k)
token_falls k keeps (token t a) b x e = let same : size b ≡ size a = ap (λ o. size (rest o)) e ∙ ap size (keeps t a) in omega arith
token_falls k keeps (end p) b x e = absurd (cc)
token_falls k keeps (none p) b x e = absurd (cc)

rest_fit : (o : Option ℕ) (p : ℕ) (a : Ahead) → rest (fit o p a) ≡ a
rest_fit (Some n) p a = refl
rest_fit None p a = refl

number_keeps : (t : Tok) (a : Ahead) → rest (as_number t a) ≡ a
number_keeps (name bs p) a = refl
number_keeps (number bs p) a = rest_fit (numeral 0 bs) p a
number_keeps (sign bs p) a = refl

rest_cond : {A : Type 0} (t : Bool) (x y : Out A) (a : Ahead) → rest x ≡ a → rest y ≡ a → rest (cond t x y) ≡ a
rest_cond true x y a p q = p
rest_cond false x y a p q = q

mark_keeps : (c : ℕ) (t : Tok) (a : Ahead) → rest (as_mark c t a) ≡ a
mark_keeps c (name bs p) a = refl
mark_keeps c (number bs p) a = refl
mark_keeps c (sign bs p) a = rest_cond (front bs == c) _ _ a refl refl

name_keeps : (w : List ℕ) (t : Tok) (a : Ahead) → rest (as_name w t a) ≡ a
name_keeps w (name bs p) a = rest_cond (bytes_eq bs w) _ _ a refl refl
name_keeps w (number bs p) a = refl
name_keeps w (sign bs p) a = refl

comma_keeps : (c : ℕ) (t : Tok) (a : Ahead) → rest (as_comma c t a) ≡ a
comma_keeps c (name bs p) a = refl
comma_keeps c (number bs p) a = refl
comma_keeps c (sign bs p) a = rest_cond (front bs == 44) _ _ a refl (rest_cond (front bs == c) _ _ a refl refl)

pub number_falls : Falls number_due
number_falls = token_falls as_number number_keeps

pub mark_falls : (c : ℕ) → Falls (mark_due c)
mark_falls c = token_falls (as_mark c) (mark_keeps c)

pub name_falls : (w : List ℕ) → Falls (name_due w)
name_falls w = token_falls (as_name w) (name_keeps w)

pub comma_falls : (c : ℕ) → Falls (comma_due c)
comma_falls c = token_falls (as_comma c) (comma_keeps c)

-- an answer leaves no more ahead
abbrev pub Stays : {A : Type 0} → (Ahead → Out A) → Type 0
Stays {A} f = (a b : Ahead) (x : A) → gives x b ≡ f a → size b ≤ size a

then_case : {A B : Type 0} (k : A → Ahead → Out B) (m : ℕ) (o : Out A) → ((x : A) (d : Ahead) → gives x d ≡ o → size d < m) → ((v : A) → Stays (k v)) → (b : Ahead) (y : B) → gives y b ≡ then o k → size b < m
then_case k m (gives x d) less stays b y e = omega (arith, less x d refl, stays x d b y e)
then_case k m (denies n l p d) less stays b y e = absurd (cc)

-- one call before others
pub then_falls : {A B : Type 0} (f : Ahead → Out A) (k : A → Ahead → Out B) → Falls f → ((v : A) → Stays (k v)) → Falls (λ a. then (f a) k)
then_falls f k less stays a b y e = then_case k (size a) (f a) (λ x d h. less a d x h) stays b y e

pub then_stays : {A B : Type 0} (f : Ahead → Out A) (k : A → Ahead → Out B) → Falls f → ((v : A) → Stays (k v)) → Stays (λ a. then (f a) k)
then_stays f k less stays a b y e = let h = then_falls f k less stays a b y e in omega arith

pub gives_stays : {A : Type 0} (v : A) → Stays (λ a. gives v a)
gives_stays v a b x e = let same : size b ≡ size a = ap (λ o. size (rest o)) e in omega arith

pub falls_stays : {A : Type 0} (f : Ahead → Out A) → Falls f → Stays f
falls_stays f less a b x e = let h = less a b x e in omega arith

pub member_falls : (w : List ℕ) → Falls (member_due w)
member_falls w = then_falls (name_due w) _ (name_falls w) (λ _. falls_stays (mark_due 58) (mark_falls 58))
