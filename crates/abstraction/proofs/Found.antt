use Rattle.std.proofs.Common.{◌≡◌, ℕ, zero, suc, ◌+◌, Bool, true, false, List, [], ◌∷◌, Some, None, Option, sym, refl, ap, ◌∙◌, inl, inr, le_of_suc-le-suc, not-suc-le-zero, add-zero, add_assoc, arith}
use Rattle.std.proofs.lemmas.Bool.{and_parts, or_cases}
use Rattle.std.specs.List.{list_all}
use Rattle.abstraction.specs.Lists.{any, or_else, first, unless, Sits}
use Rattle.abstraction.specs.Frames.{plus}

pub or_none : {Y : Type 0} (a b : Option Y) → or_else a b ≡ None → (a ≡ None) × (b ≡ None)
or_none None b h = (refl, h)
or_none (Some y) b h = absurd (let x : ◌≡◌ {A = ℕ} 0 1 = cc in omega arith)

pub unless_none : {Y : Type 0} (b : Bool) (y : Y) → unless b y ≡ None → b ≡ true
unless_none true y h = refl
unless_none false y h = absurd (let x : ◌≡◌ {A = ℕ} 0 1 = cc in omega arith)

pub sits_next : {X : Type 0} (x y : X) (xs : List X) (k : ℕ) → Sits (x ∷ xs) (suc k) y → Sits xs k y
sits_next x y xs k s = (le_of_suc-le-suc s.0, s.1)

pub first_none : {X Y : Type 0} (p : ℕ → X → Option Y) (b : ℕ) (xs : List X) (k : ℕ) (x : X) → Sits xs k x → first p b xs ≡ None → (n : ℕ) × (p n x ≡ None)
first_none p b [] k x s h = absurd (not-suc-le-zero s.0)
first_none p b (y ∷ xs) zero x s h = (b, ap (p b) (sym (s.1 y)) ∙ (or_none (p b y) _ h).0)
first_none p b (y ∷ xs) (suc k) x s h = first_none p (suc b) xs k x (sits_next y x xs k s) (or_none (p b y) _ h).1

pub all_true : {X : Type 0} (p : X → Bool) (xs : List X) (k : ℕ) (x : X) → Sits xs k x → list_all p xs ≡ true → p x ≡ true
all_true p [] k x s h = absurd (not-suc-le-zero s.0)
all_true p (y ∷ xs) zero x s h = ap p (sym (s.1 y)) ∙ (and_parts (p y) _ h).0
all_true p (y ∷ xs) (suc k) x s h = all_true p xs k x (sits_next y x xs k s) (and_parts (p y) _ h).1

pub any_true : {X : Type 0} (p : ℕ → X → Bool) (b : ℕ) (xs : List X) → any p b xs ≡ true → (k : ℕ) × (n : ℕ) × (x : X) × (n ≡ b + k) × Sits xs k x × (p n x ≡ true)
any_true p b [] h = absurd (let x : ◌≡◌ {A = ℕ} 0 1 = cc in omega arith)
any_true p b (y ∷ xs) h = elim (or_cases (p b y) (any p (suc b) xs) h) [
  | inl t ↦ (0, b, y, omega arith, (omega arith, λ d. refl), t)
  | inr t ↦ let r = any_true p (suc b) xs t in (suc r.0, r.1, r.2, omega (arith, r.3), (omega (arith, r.4.0), r.4.1), r.5)
]

pub plus_zero : (xs : List ℕ) → plus 0 xs ≡ xs
plus_zero [] = refl
plus_zero (x ∷ xs) = simp (add-zero, plus_zero xs)

pub plus_plus : (d e : ℕ) (xs : List ℕ) → plus d (plus e xs) ≡ plus (e + d) xs
plus_plus d e [] = refl
plus_plus d e (x ∷ xs) = simp (add_assoc, plus_plus d e xs)
