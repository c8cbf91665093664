use Rattle.std.specs.Prelude.{◌≡◌, ℕ, zero, suc, ◌*◌, ◌≤◌, Bool, true, false, cond, leb, [], ◌∷◌, nat_le, refl}
use Rattle.std.proofs.Common.{sym, ap, subst, ◌∙◌, arith, not-suc-le-zero, le_of_suc-le-suc, mul-le-mul_right, zero-mul, add-mul, mul-one, one-mul}
use Rattle.std.proofs.lemmas.Bool.{leb-true, le-leb, leb-false, ltb-false, cond-true}
use Rattle.abstraction.specs.Lists.{In}
use Rattle.abstraction.specs.Bounds.{bound, AtLeast, AtMost, at_most}
use Rattle.abstraction.specs.Owes.{Lawfully, ListsLawfully, Covers}
use Rattle.abstraction.specs.declared.interval.Lower.{Lower}
use Rattle.abstraction.specs.declared.interval.Lower.TheVariants.{From, Over}
use Rattle.abstraction.specs.declared.interval.Upper.{Upper}
use Rattle.abstraction.specs.declared.interval.Upper.TheVariants.{Upto, Under, Unbounded}
use Rattle.abstraction.specs.declared.scope.Scope.{Scope}
use Rattle.floors.specs.Floors.{floors, at_least_so_old}
use Rattle.floors.specs.declared.Floor.{Floor}
use Rattle.floors.specs.declared.Floors.{Floors}

-- lists of at most one shape

only_in : (s t : Floor) → In (s ∷ []) t → s ≡ t
only_in s t (zero, i) = i.1 s
only_in s t (suc k, i) = absurd (not-suc-le-zero (le_of_suc-le-suc i.0))

one_listed : (a : Floors) (w : Scope) (s : Floor) → nat_le s.age w.top ≡ true → Lawfully (floors a) w (s ∷ [])
one_listed a w s h = (omega arith, λ t i. ap (λ v. leb v.age w.top) (sym (only_in s t i)) ∙ h)

none_listed : (a : Floors) (w : Scope) → Lawfully (floors a) w []
none_listed a w = (omega arith, λ t i. absurd (not-suc-le-zero i.1.0))

pop_listed : (a : Floors) (w : Scope) (s : Floor) → nat_le s.age w.top ≡ true → (b : Bool) → Lawfully (floors a) w (cond b (s ∷ []) [])
pop_listed a w s h true = one_listed a w s h
pop_listed a w s h false = none_listed a w

pub lists : (a : Floors) → ListsLawfully (floors a)
lists a w small =
    record {
      times = λ s h. one_listed a w s h;
      tests = λ s h k i l f. one_listed a w s h;
      assigns = λ s h k i l f. one_listed a w s h;
      pushes = λ s h i f. one_listed a w (record { age = bound i.lower }) (le-leb (bound i.lower) w.top f.0);
      pops = λ s u h g i f. pop_listed a w s h (at_most 1 i.upper u.age);
    }

-- covering

here : (s : Floor) → In (s ∷ []) s
here s = (0, (omega arith, λ d. refl))

-- an age in the interval is at least its lower bound
above_lower : (D : ℕ) (l : Lower) (v : ℕ) → AtLeast D l v → bound l * D ≤ v
above_lower D (From b) v h = h
above_lower D (Over b) v h = omega (arith, h)

-- an age that is at least n units and keeps to the upper bound shows that something so old can
keeps : (D : ℕ) → 1 ≤ D → (u : Upper) (n v : ℕ) → n * D ≤ v → AtMost D u v → (b : Bool) → at_most 1 u n ≡ b → b ≡ true
keeps D one u n v h k true e = refl
keeps D one (Upto b) n v h k false e =
    let l = leb-false n (b * 1) e in
    let m = mul-le-mul_right D l in
    absurd (omega (arith, m, mul-one b, add-mul (b * 1) 1 D, one-mul D))
keeps D one (Under b) n v h k false e =
    let l = ltb-false n (b * 1) e in
    let m = mul-le-mul_right D l in
    absurd (omega (arith, m))
keeps D one Unbounded n v h k false e = absurd (let x : ◌≡◌ {A = ℕ} 0 1 = cc in omega arith)

pub covers : (a : Floors) → Covers (floors a) (at_least_so_old a)
covers a w D small one =
    record {
      starts = (le-leb 0 w.top (omega arith), rw zero-mul (omega arith));
      times = λ s f c d. (s, here s, omega (arith, c.covers));
      tests = λ s f c k i l b ins. (s, here s, c.covers);
      assigns = λ s f c k i l b v ins. (s, here s, c.covers);
      pushes = λ s f c i b v ins. (record { age = bound i.lower }, here _, above_lower D i.lower v ins.0);
      pops = λ s u f g c e i b ins k ka.
          (s, subst (λ xs. In xs s) (sym (cond-true _ (s ∷ []) [] (keeps D one i.upper u.age g.age e.covers ins.1 _ refl))) (here s), omega (arith, c.covers));
      nests = λ s t f c l h. let m = mul-le-mul_right D (leb-true t.age s.age h) in omega (arith, m, c.covers);
    }
