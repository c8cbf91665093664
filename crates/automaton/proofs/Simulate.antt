use Rattle.std.proofs.Common.{◌≡◌, ℕ, zero, suc, ◌+◌, ◌<◌, ◌≤◌, leb, List, [], ◌∷◌, map, length, get_or, set, replicate, sym, refl, ap, ◌∙◌, subst, le_of_suc-le-suc, not-suc-le-zero, add-one, arith, length-set}
use lib.ListN.{length-map, length-replicate}
use Rattle.std.proofs.lemmas.Bool.{leb-true, leb-false, cond_both}
use Rattle.abstraction.specs.Lists.{Sits}
use Rattle.abstraction.specs.Frames.{plus}
use Rattle.automaton.specs.Runs.{Automaton, Configuration, Does, Run}
use Rattle.automaton.specs.Runs.Step.{waits, fires}
use Rattle.automaton.specs.Runs.Run.{begun, stepped}
use Rattle.automaton.specs.declared.rule.Symbol.{Symbol}
use Rattle.abstraction.specs.declared.interval.Interval.{Interval}
use Rattle.automaton.specs.declared.rule.Rule.{Rule}
use Rattle.automaton.specs.declared.rule.Action.{Action}
use Rattle.automaton.specs.declared.rule.Action.TheVariants.{Move, Test, Assign, Push, Pop}
use Rattle.automaton.specs.Insert.{bumped, lifted, raised, with_clock, SameReach}

abbrev ins : ℕ → ℕ → List ℕ → List ℕ
ins zero x ys = x ∷ ys
ins (suc p) x [] = x ∷ []
ins (suc p) x (y ∷ ys) = y ∷ ins p x ys

abbrev bump : ℕ → ℕ → ℕ
bump zero k = suc k
bump (suc p) zero = zero
bump (suc p) (suc k) = suc (bump p k)

bump_up : (p k : ℕ) → p ≤ k → bump p k ≡ k + 1
bump_up zero k h = omega arith
bump_up (suc p) zero h = absurd (not-suc-le-zero h)
bump_up (suc p) (suc k) h = omega (arith, bump_up p k (le_of_suc-le-suc h))

bump_same : (p k : ℕ) → k < p → bump p k ≡ k
bump_same zero k h = absurd (not-suc-le-zero h)
bump_same (suc p) zero h = refl
bump_same (suc p) (suc k) h = ap suc (bump_same p k (le_of_suc-le-suc h))

bump_is : (p k : ℕ) → bumped p k ≡ bump p k
bump_is p k = cond_both (leb p k) (k + 1) k (λ y. y ≡ bump p k) (λ e. sym (bump_up p k (leb-true p k e))) (λ e. sym (bump_same p k (leb-false p k e)))

getD_ins : (p k x : ℕ) (xs : List ℕ) → p ≤ length xs → get_or (ins p x xs) (bump p k) 0 ≡ get_or xs k 0
getD_ins zero k x xs h = refl
getD_ins (suc p) k x [] h = absurd (not-suc-le-zero h)
getD_ins (suc p) zero x (y ∷ ys) h = refl
getD_ins (suc p) (suc k) x (y ∷ ys) h = getD_ins p k x ys (le_of_suc-le-suc h)

set_ins : (p k x v : ℕ) (xs : List ℕ) → p ≤ length xs → set (ins p x xs) (bump p k) v ≡ ins p x (set xs k v)
set_ins zero k x v xs h = refl
set_ins (suc p) k x v [] h = absurd (not-suc-le-zero h)
set_ins (suc p) zero x v (y ∷ ys) h = refl
set_ins (suc p) (suc k) x v (y ∷ ys) h = ap (λ t. y ∷ t) (set_ins p k x v ys (le_of_suc-le-suc h))

plus_ins : (p d x : ℕ) (xs : List ℕ) → plus d (ins p x xs) ≡ ins p (x + d) (plus d xs)
plus_ins zero d x xs = refl
plus_ins (suc p) d x [] = refl
plus_ins (suc p) d x (y ∷ ys) = ap (λ t. (y + d) ∷ t) (plus_ins p d x ys)

zeros_ins : (p n : ℕ) → p ≤ n → replicate (suc n) 0 ≡ ins p 0 (replicate n 0)
zeros_ins zero n h = refl
zeros_ins (suc p) zero h = absurd (not-suc-le-zero h)
zeros_ins (suc p) (suc n) h = ap (λ t. 0 ∷ t) (zeros_ins p n (le_of_suc-le-suc h))

pub in_map : {X Y : Type 0} (f : X → Y) (xs : List X) (k : ℕ) (x : X) → Sits xs k x → Sits (map f xs) k (f x)
in_map f [] k x s = absurd (not-suc-le-zero s.0)
in_map f (y ∷ ys) zero x s = (omega arith, λ d. ap f (s.1 y))
in_map f (y ∷ ys) (suc k) x s = let r = in_map f ys k x (le_of_suc-le-suc s.0, s.1) in (omega (arith, r.0), r.1)

pub in_map_back : {X Y : Type 0} (f : X → Y) (xs : List X) (k : ℕ) (y : Y) → Sits (map f xs) k y → (x : X) × Sits xs k x × (y ≡ f x)
in_map_back f [] k y s = absurd (not-suc-le-zero s.0)
in_map_back f (x ∷ xs) zero y s = (x, (omega arith, λ d. refl), sym (s.1 y))
in_map_back f (x ∷ xs) (suc k) y s = let r = in_map_back f xs k y (le_of_suc-le-suc s.0, s.1) in (r.0, (omega (arith, r.1.0), r.1.1), r.2)

module _ (p : ℕ) (D : ℕ) where
  does_keeps : (i : Interval) (a : Action) (v : ℕ) (xs ys : List ℕ) (ss rs : List Symbol) → Does D i a v xs ss ys rs → length ys ≡ length xs
  does_keeps i Move v xs ys ss rs (y, t) = ap length y
  does_keeps i (Test k) v xs ys ss rs (n, y, t) = ap length y
  does_keeps i (Assign k) v xs ys ss rs (n, y, t) = ap length y ∙ length-set xs k v
  does_keeps i (Push l) v xs ys ss rs (n, y, t) = ap length y
  does_keeps i (Pop l) v xs ys ss rs (a, n, y, t) = ap length y

  does_on : (i : Interval) (a : Action) (v x : ℕ) (xs ys : List ℕ) (ss rs : List Symbol) → p ≤ length xs → Does D i a v xs ss ys rs → Does D i (lifted p a) v (ins p x xs) ss (ins p x ys) rs
  does_on i Move v x xs ys ss rs h (y, t) = (ap (ins p x) y, t)
  does_on i (Test k) v x xs ys ss rs h (n, y, t) = (rw (bump_is p k, getD_ins p k x xs h) n, ap (ins p x) y, t)
  does_on i (Assign k) v x xs ys ss rs h (n, y, t) = (n, ap (ins p x) y ∙ sym (set_ins p k x v xs h) ∙ ap (λ j. set (ins p x xs) j v) (sym (bump_is p k)), t)
  does_on i (Push l) v x xs ys ss rs h (n, y, t) = (n, ap (ins p x) y, t)
  does_on i (Pop l) v x xs ys ss rs h (a, n, y, t) = (a, n, ap (ins p x) y, t)

  does_back : (i : Interval) (a : Action) (v x : ℕ) (xs zs : List ℕ) (ss rs : List Symbol) → p ≤ length xs → Does D i (lifted p a) v (ins p x xs) ss zs rs → (ys : List ℕ) × (zs ≡ ins p x ys) × Does D i a v xs ss ys rs
  does_back i Move v x xs zs ss rs h (y, t) = (xs, y, (refl, t))
  does_back i (Test k) v x xs zs ss rs h (n, y, t) = (xs, y, (rw (bump_is p k, getD_ins p k x xs h) at n, refl, t))
  does_back i (Assign k) v x xs zs ss rs h (n, y, t) = (set xs k v, y ∙ ap (λ j. set (ins p x xs) j v) (bump_is p k) ∙ set_ins p k x v xs h, (n, refl, t))
  does_back i (Push l) v x xs zs ss rs h (n, y, t) = (xs, y, (n, refl, t))
  does_back i (Pop l) v x xs zs ss rs h (a, n, y, t) = (xs, y, (a, n, refl, t))

  abbrev beside : ℕ → Configuration → Configuration
  beside x c = record { state = c.state; clocks = ins p x c.clocks; stack = c.stack }

  -- with the new clock's value put in, a run stays a run
  forth : (m : Automaton) → p ≤ m.clocks → (c : Configuration) → Run m D c → (x : ℕ) × (p ≤ length c.clocks) × Run (with_clock p m) D (beside x c)
  forth m h c (begun (w1, w2, w3)) =
      (0, rw (w2, length-replicate) h, begun (w1, ap (ins p 0) w2 ∙ sym (zeros_ins p m.clocks h) ∙ ap (λ k. replicate k 0) (sym (add-one m.clocks)), w3))
  forth m h c (stepped {b} r (waits d (w1, w2, w3))) =
      let (x, l, r') = forth m h b r in
      (x + d, rw (w2, length-map) l, stepped r' (waits d (w1, ap (ins p (x + d)) w2 ∙ sym (plus_ins p d x b.clocks), w3)))
  forth m h c (stepped {b} r (fires u (k, s) v (w1, w2, w3))) =
      let (x, l, r') = forth m h b r in (
        x,
        rw (does_keeps u.interval u.action v b.clocks c.clocks b.stack c.stack w3) l,
        stepped r' (fires (raised p u) (k, in_map (raised p) m.rules k u s) v (w1, w2, does_on u.interval u.action v x b.clocks c.clocks b.stack c.stack l w3)),
      )

  Old : Automaton → Configuration → Type 0
  Old m c = (xs : List ℕ) × (x : ℕ) × (c.clocks ≡ ins p x xs) × (p ≤ length xs) × Run m D (record { state = c.state; clocks = xs; stack = c.stack })

  -- without the new clock's value, a run was a run before
  back : (m : Automaton) → p ≤ m.clocks → (c : Configuration) → Run (with_clock p m) D c → Old m c
  unfolding Old
  back m h c (begun (w1, w2, w3)) =
      (replicate m.clocks 0, 0, w2 ∙ ap (λ k. replicate k 0) (add-one m.clocks) ∙ zeros_ins p m.clocks h, rw length-replicate h, begun (w1, refl, w3))
  back m h c (stepped {b} r (waits d (w1, w2, w3))) =
      let (xs, x, e, l, r') = back m h b r in
      (plus d xs, x + d, w2 ∙ ap (plus d) e ∙ plus_ins p d x xs, rw length-map l, stepped r' (waits d (w1, refl, w3)))
  back m h c (stepped {b} r (fires u (k, s) v (w1, w2, w3))) =
      let (xs, x, e, l, r') = back m h b r in
      let (o, so, eo) = in_map_back (raised p) m.rules k u s in
      let w3' = subst (λ (w : Rule). Does D w.interval w.action v (ins p x xs) b.stack c.clocks c.stack) eo (subst (λ ys. Does D u.interval u.action v ys b.stack c.clocks c.stack) e w3) in
      let (ys, ey, dy) = does_back o.interval o.action v x xs c.clocks b.stack c.stack l w3' in
      (ys, x, ey, rw (does_keeps o.interval o.action v xs ys b.stack c.stack dy) l, stepped r' (fires o (k, so) v (w1 ∙ ap (λ w. w.from) eo, w2 ∙ ap (λ w. w.to) eo, dy)))

-- a clock that no rule reads changes no state's reachability
pub same_reach : (m : Automaton) (p : ℕ) → p ≤ m.clocks → SameReach m (with_clock p m)
unfolding Old
same_reach m p h q = (
  (λ (D, o, c, r, e). let (x, l, r') = forth p D m h c r in (D, o, beside p D x c, r', e)),
  (λ (D, o, c, r, e). let (xs, x, ec, l, r') = back p D m h c r in (D, o, record { state = c.state; clocks = xs; stack = c.stack }, r', e)),
)
