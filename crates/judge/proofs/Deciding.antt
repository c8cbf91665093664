use Rattle.std.proofs.Common.{◌≡◌, ℕ, zero, suc, ◌+◌, ◌<◌, ◌≤◌, Bool, true, false, cond, eqb, leb, ◌⊎◌, List, [], ◌∷◌, Some, None, Decides, Option, sym, refl, ap, ◌∙◌, inl, inr, not-suc-le-zero, add-zero, arith}
use Rattle.std.proofs.lemmas.Bool.{and_from, or_left, or_right, cases_Bool, cond-true, cond-false, eqb-true, eq-eqb, leb-true, le-leb}
use Rattle.std.specs.List.{list_all}
use Rattle.abstraction.specs.Lists.{any, or_else, first, unless, Sits, In}
use Rattle.abstraction.proofs.Found.{all_true, sits_next}

-- tests that decide statements

pub at_most : (a b : ℕ) → Decides (leb a b) (a ≤ b)
at_most a b = (leb-true a b, le-leb a b)

-- a statement that is asked for only where two numbers agree
pub where_same : {P : Type 0} (a b : ℕ) (c : Bool) → Decides c P → Decides (cond (eqb a b) c true) (a ≡ b → P)
where_same a b c d = (
  λ h e. d.0 (sym (cond-true _ _ _ (eq-eqb a b e)) ∙ h),
  λ f. elim (cases_Bool (eqb a b)) [
    | inl t ↦ cond-true _ _ _ t ∙ d.1 (f (eqb-true a b t))
    | inr t ↦ cond-false _ _ _ t
  ],
)

pub in_next : {X : Type 0} (y x : X) (xs : List X) → In xs x → In (y ∷ xs) x
in_next y x xs (k, s) = (suc k, (omega (arith, s.0), s.1))

all_from : {X : Type 0} (p : X → Bool) (xs : List X) → ((x : X) → In xs x → p x ≡ true) → list_all p xs ≡ true
all_from p [] h = refl
all_from p (x ∷ xs) h =
    and_from (p x) _ (h x (0, (omega arith, λ d. refl))) (all_from p xs (λ y i. h y (in_next x y xs i)))

pub each : {X : Type 0} (p : X → Bool) (P : X → Type 0) (xs : List X) → ((x : X) → Decides (p x) (P x)) → Decides (list_all p xs) ((x : X) → In xs x → P x)
each p P xs d = (λ h x i. (d x).0 (all_true p xs i.0 x i.1 h), λ f. all_from p xs (λ x i. (d x).1 (f x i)))

pub any_at : {X : Type 0} (p : ℕ → X → Bool) (b : ℕ) (xs : List X) (k : ℕ) (x : X) → Sits xs k x → p (b + k) x ≡ true → any p b xs ≡ true
any_at p b [] k x s h = absurd (not-suc-le-zero s.0)
any_at p b (y ∷ xs) zero x s h = or_left (p b y) _ (ap (p b) (s.1 y) ∙ ap (λ n. p n x) (sym (add-zero b)) ∙ h)
any_at p b (y ∷ xs) (suc k) x s h =
    let e : suc b + k ≡ b + suc k = omega arith in
    or_right (p b y) _ (any_at p (suc b) xs k x (sits_next y x xs k s) (ap (λ n. p n x) e ∙ h))

-- the search for the first

pub unless_some : {Y : Type 0} (b : Bool) (y w : Y) → unless b y ≡ Some w → (b ≡ false) × (w ≡ y)
unless_some true y w h = absurd (let x : ◌≡◌ {A = ℕ} 0 1 = cc in omega arith)
unless_some false y w h = (refl, cc)

pub or_some : {Y : Type 0} (a b : Option Y) (y : Y) → or_else a b ≡ Some y → (a ≡ Some y) ⊎ ((a ≡ None) × (b ≡ Some y))
or_some None b y h = inr (refl, h)
or_some (Some x) b y h = inl h

-- y was found at the place k, and nothing before it
pub record Firstly {X Y : Type 0} (p : ℕ → X → Option Y) (b : ℕ) (xs : List X) (y : Y) : Type 0 where
  pub place : ℕ
  pub item : X
  pub sits : Sits xs place item
  pub hit : p (b + place) item ≡ Some y
  pub before : (j : ℕ) (x : X) → j < place → Sits xs j x → (n : ℕ) × (p n x ≡ None)

module _ {X Y : Type 0} (p : ℕ → X → Option Y) where
  later_first : (b : ℕ) (x : X) (xs : List X) (y : Y) → p b x ≡ None → Firstly p (suc b) xs y → Firstly p b (x ∷ xs) y
  later_first b x xs y e f =
      let n : suc b + f.place ≡ b + suc f.place = omega arith in
      record {
        place = suc f.place;
        item = f.item;
        sits = (omega (arith, f.sits.0), f.sits.1);
        hit = ap (λ m. p m f.item) (sym n) ∙ f.hit;
        before = earlier b x xs y e f;
      }
    where
      earlier : (b : ℕ) (x : X) (xs : List X) (y : Y) → p b x ≡ None → (f : Firstly p (suc b) xs y) → (j : ℕ) (w : X) → j < suc f.place → Sits (x ∷ xs) j w → (n : ℕ) × (p n w ≡ None)
      earlier b x xs y e f zero w l s = (b, ap (p b) (sym (s.1 x)) ∙ e)
      earlier b x xs y e f (suc j) w l s = f.before j w (omega (arith, l)) (sits_next x w xs j s)

  pub first_some : (b : ℕ) (xs : List X) (y : Y) → first p b xs ≡ Some y → Firstly p b xs y
  first_some b [] y h = absurd (let x : ◌≡◌ {A = ℕ} 0 1 = cc in omega arith)
  first_some b (x ∷ xs) y h = elim (or_some (p b x) (first p (suc b) xs) y h) [
    | inl t ↦ record {
      place = 0;
      item = x;
      sits = (omega arith, λ d. refl);
      hit = ap (λ m. p m x) (add-zero b) ∙ t;
      before = λ j w l s. absurd (not-suc-le-zero l);
    }
    | inr t ↦ later_first b x xs y t.0 (first_some (suc b) xs y t.1)
  ]
