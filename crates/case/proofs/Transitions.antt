use Rattle.std.proofs.Common.{◌≡◌, ℕ, zero, suc, ◌+◌, ◌≤◌, Bool, true, ◌&&◌, eqb, leb, List, [], ◌∷◌, map, Some, None, Option, sym, refl, ap, ◌∙◌, subst, arith}
use Rattle.std.specs.List.{slice_get}
use Rattle.std.proofs.lemmas.Bool.{and_parts, and_from, eqb-true, eq-eqb, leb-true, ltb-true, le-leb, lt-ltb}
use Rattle.std.proofs.lemmas.List.Elements.{All-get_or}
use Rattle.std.proofs.lemmas.List.Sums.{AllPass-from_list_all}
use Rattle.fault.specs.Faults.{Outcome}
use Rattle.fault.specs.Faults.Outcome.{accepted, refused}
use Rattle.std.specs.List.{list_all}
use Rattle.abstraction.specs.Lists.{Sits, In}
use Rattle.abstraction.specs.Frames.{plus}
use Rattle.abstraction.specs.Bounds.{inside}
use Rattle.abstraction.specs.declared.interval.Interval.{Interval}
use Rattle.abstraction.proofs.Found.{sits_next}
use Rattle.abstraction.proofs.Tests.{inside_true, inside_from}
use Rattle.automaton.specs.Runs.{Configuration, older, Does, Waits, Fires}
use Rattle.automaton.specs.Rules.{no}
use Rattle.automaton.specs.Edits.{settle, done}
use Rattle.automaton.specs.declared.rule.Rule.{Rule}
use Rattle.automaton.specs.declared.rule.Symbol.{Symbol}
use Rattle.automaton.specs.declared.rule.Action.{Action}
use Rattle.automaton.specs.declared.rule.Action.TheVariants.{Move, Test, Assign, Push, Pop}
use Rattle.automaton.proofs.Writing.{passed, passes, same_accepted}
use Rattle.automaton.proofs.Editing.{settle_accepted}
use Rattle.automaton.proofs.Simulate.{in_map, in_map_back}
use Rattle.case.specs.Views.{View, Running}
use Rattle.case.specs.Views.Running.{idle, at}
use Rattle.case.specs.Steps.{limit, clock_fits, age_fits, delay_fits, delay_check, waited, value_fits, top, labelled, pop_fits, push_fits, age_of, measured, timed, time_fits, fire_check, below, fired}
use Rattle.case.specs.Calls.{moved, answered, begin_check, start_of, begin_outcome, begin_after, delay_run, delayed, fire_run, fired_run, fire_rule, fired_rule}
use Rattle.case.specs.Laws.{Begins, Limited, Delays, Allows, FiresSo}

-- outcomes

pub answered_accepted : (o : Outcome (Unit {0})) (s q : ℕ) → answered o s ≡ accepted q → (o ≡ done) × (s ≡ q)
answered_accepted (accepted u) s q h = (refl, same_accepted s q h)
answered_accepted (refused n l p) s q h = absurd (cc)

never_accepted : (n q : ℕ) → no n ≡ accepted q → ⊥
never_accepted n q h = cc

idle_at : (D : ℕ) (c : Configuration) → idle ≡ at D c → ⊥
idle_at D c h = cc

same_scale : (D E : ℕ) (b c : Configuration) → at D b ≡ at E c → D ≡ E
same_scale D E b c h = cc

same_place : (D E : ℕ) (b c : Configuration) → at D b ≡ at E c → b ≡ c
same_place D E b c h = cc

-- where an accepted step leaves the run
ran : (w after : View) (o : Outcome (Unit {0})) (D : ℕ) (c : Configuration) → after ≡ settle o (moved w D c) w → o ≡ done → after.run ≡ at D c
ran w after o D c h e = ap (λ (v : View). v.run) (h ∙ settle_accepted o tt (moved w D c) w (sym e))

same_configuration : (b c : Configuration) → b.state ≡ c.state → b.clocks ≡ c.clocks → b.stack ≡ c.stack → b ≡ c
same_configuration b c s x t =
    ap (λ q. record { state = q; clocks = b.clocks; stack = b.stack }) s
    ∙ ap (λ xs. record { state = c.state; clocks = xs; stack = b.stack }) x
    ∙ ap (λ ss. record { state = c.state; clocks = c.clocks; stack = ss }) t

-- beginning

pub begins : (D : ℕ) (w : View) (o : Outcome ℕ) (after : View) → o ≡ begin_outcome D w → after ≡ begin_after D w → Begins D w o after
begins D w o after ho ha =
    record {
      holds = λ q h.
          let a = answered_accepted (begin_check D) w.model.start q (sym ho ∙ h) in
          let t = and_parts (leb 1 D) _ (passed (leb 1 D && leb D 1000000) 11 done tt a.0).0 in
          (leb-true _ _ t.0, leb-true _ _ t.1, start_of w.model, (refl, refl, refl), ran w after (begin_check D) D (start_of w.model) ha a.0, sym a.1);
      only = λ h k. ho ∙ ap (λ x. answered x w.model.start) (passes (leb 1 D && leb D 1000000) 11 done done (and_from _ _ (le-leb 1 D h) (le-leb D 1000000 k)) refl);
    }

-- delaying

all_true : {X : Type 0} (p : X → Bool) (xs : List X) (k : ℕ) (x : X) → Sits xs k x → list_all p xs ≡ true → p x ≡ true
all_true p xs k x (l, e) h = subst (λ y. p y ≡ true) (e x) (All-get_or (λ y. p y ≡ true) xs k x l (AllPass-from_list_all p xs h))

all_from : {X : Type 0} (p : X → Bool) (xs : List X) → ((k : ℕ) (x : X) → Sits xs k x → p x ≡ true) → list_all p xs ≡ true
all_from p [] h = refl
all_from p (x ∷ xs) h = and_from (p x) _ (h 0 x (omega arith, λ d. refl)) (all_from p xs (λ k y s. h (suc k) y (omega (arith, s.0), s.1)))

clocks_limited : (d : ℕ) (xs : List ℕ) → list_all (clock_fits d) xs ≡ true → (y : ℕ) → In (plus d xs) y → y ≤ limit
clocks_limited d xs h y (k, s) =
    let (x, i, e) = in_map_back (λ x. x + d) xs k y s in
    omega (arith, e, leb-true (x + d) limit (all_true (clock_fits d) xs k x i h))

ages_limited : (d : ℕ) (ss : List Symbol) → list_all (age_fits d) ss ≡ true → (y : Symbol) → In (map (older d) ss) y → y.age ≤ limit
ages_limited d ss h y (k, s) =
    let (x, i, e) = in_map_back (older d) ss k y s in
    omega (arith, ap (λ (z : Symbol). z.age) e, leb-true (x.age + d) limit (all_true (age_fits d) ss k x i h))

delay_fits_from : (d : ℕ) (b c : Configuration) → Waits d b c → d ≤ limit → Limited c → delay_fits d b ≡ true
delay_fits_from d b c (w1, w2, w3) h (l, m) =
    and_from _ _ (le-leb d limit h)
    (and_from _ _
    (all_from (clock_fits d) b.clocks (λ k x s. le-leb (x + d) limit (l (x + d) (k, subst (λ ys. Sits ys k (x + d)) (sym w2) (in_map (λ y. y + d) b.clocks k x s)))))
    (all_from (age_fits d) b.stack (λ k x s. le-leb (x.age + d) limit (m (older d x) (k, subst (λ ys. Sits ys k (older d x)) (sym w3) (in_map (older d) b.stack k x s))))))

delays_run : (d : ℕ) (w : View) (u : Running) → w.run ≡ u → (o : Outcome ℕ) (after : View) → o ≡ delay_run d u → after ≡ delayed d w u → Delays d w o after
delays_run d w idle e o after ho ha =
    record { holds = λ q h. absurd (never_accepted 12 q (sym ho ∙ h)); only = λ D b c r. absurd (idle_at D b (sym e ∙ r)) }
delays_run d w (at D b) e o after ho ha =
    record {
      holds = λ q h.
          let a = answered_accepted (delay_check d b) b.state q (sym ho ∙ h) in
          let t = and_parts (leb d limit) _ (passed (delay_fits d b) 13 done tt a.0).0 in
          let s = and_parts (list_all (clock_fits d) b.clocks) _ t.1 in
          (D, b, waited d b, e, (refl, refl, refl), leb-true d limit t.0, (clocks_limited d b.clocks s.0, ages_limited d b.stack s.1), ran w after (delay_check d b) D (waited d b) ha a.0, sym a.1);
      only = λ E x c r (w1, w2, w3) h l.
          let p = sym e ∙ r in
          let f = delay_fits_from d x c (w1, w2, w3) h l in
          let k : delay_check d b ≡ done = passes (delay_fits d b) 13 done done (ap (delay_fits d) (same_place D E b x p) ∙ f) refl in
          let g : waited d b ≡ c = ap (waited d) (same_place D E b x p) ∙ sym (same_configuration c (waited d x) w1 w2 w3) in
          (ho ∙ ap (λ z. answered z b.state) k ∙ ap accepted (ap (λ (z : Configuration). z.state) g), ran w after (delay_check d b) D (waited d b) ha k ∙ ap (λ z. at z (waited d b)) (same_scale D E b x p) ∙ ap (at E) g);
    }

pub delays : (d : ℕ) (w : View) (o : Outcome ℕ) (after : View) → o ≡ delay_run d w.run → after ≡ delayed d w w.run → Delays d w o after
delays d w o after ho ha = delays_run d w w.run refl o after ho ha

-- firing

pop_top : (l : ℕ) (ss : List Symbol) → labelled l (top ss) ≡ true → ss ≡ (record { label = l; age = age_of (top ss) }) ∷ below ss
pop_top l [] h = absurd (cc)
pop_top l (s ∷ ss) h = ap (λ k. (record { label = k; age = s.age }) ∷ ss) (eqb-true s.label l h)

does : (D q v : ℕ) (i : Interval) (a : Action) (c : Configuration) → value_fits a v ≡ true → pop_fits a c.stack ≡ true → push_fits a c.stack ≡ true → timed a (inside D i (measured a c.clocks c.stack v)) ≡ true → Does D i a v c.clocks c.stack (fired a q v c).clocks (fired a q v c).stack × Allows a v c
does D q v i Move c f p s t = ((refl, refl), tt)
does D q v i (Test k) c f p s t = ((inside_true D i _ t, refl, refl), tt)
does D q v i (Assign k) c f p s t = ((inside_true D i v t, refl, refl), leb-true v limit f)
does D q v i (Push l) c f p s t = ((inside_true D i v t, refl, refl), (leb-true v limit f, ltb-true _ 128 s))
does D q v i (Pop l) c f p s t = ((age_of (top c.stack), inside_true D i _ t, refl, pop_top l c.stack p), tt)

pub fired_state : (a : Action) (q v : ℕ) (c : Configuration) → (fired a q v c).state ≡ q
fired_state Move q v c = refl
fired_state (Test k) q v c = refl
fired_state (Assign k) q v c = refl
fired_state (Push l) q v c = refl
fired_state (Pop l) q v c = refl

-- what a check that passed means
pub checked : (D v : ℕ) (c : Configuration) (r : Rule) → fire_check D c r v ≡ done → Fires D r v c (fired r.action r.to v c) × Allows r.action v c
checked D v c r h =
    let a = passed (value_fits r.action v) 13 _ tt h in
    let b = passed (eqb c.state r.from) 14 _ tt a.1 in
    let p = passed (pop_fits r.action c.stack) 15 _ tt b.1 in
    let s = passed (push_fits r.action c.stack) 16 _ tt p.1 in
    let t = passed (time_fits D c r v) 17 done tt s.1 in
    let d = does D r.to v r.interval r.action c a.0 p.0 s.0 t.0 in
    ((eqb-true _ _ b.0, fired_state r.action r.to v c, d.0), d.1)

-- the tests of an action that is taken
pub record Passes (D v : ℕ) (i : Interval) (a : Action) (xs : List ℕ) (ss : List Symbol) : Type 0 where
  pub value : value_fits a v ≡ true
  pub pops : pop_fits a ss ≡ true
  pub pushes : push_fits a ss ≡ true
  pub timely : timed a (inside D i (measured a xs ss v)) ≡ true

undoes : (D q v : ℕ) (i : Interval) (a : Action) (c : Configuration) (ys : List ℕ) (rs : List Symbol) → Does D i a v c.clocks c.stack ys rs → Allows a v c → Passes D v i a c.clocks c.stack × (ys ≡ (fired a q v c).clocks) × (rs ≡ (fired a q v c).stack)
undoes D q v i Move c ys rs (y, t) l = (record { value = refl; pops = refl; pushes = refl; timely = refl }, y, t)
undoes D q v i (Test k) c ys rs (n, y, t) l = (record { value = refl; pops = refl; pushes = refl; timely = inside_from D i _ n }, y, t)
undoes D q v i (Assign k) c ys rs (n, y, t) l = (record { value = le-leb v limit l; pops = refl; pushes = refl; timely = inside_from D i _ n }, y, t)
undoes D q v i (Push p) c ys rs (n, y, t) l = (record { value = le-leb v limit l.0; pops = refl; pushes = lt-ltb _ 128 l.1; timely = inside_from D i _ n }, y, t)
undoes D q v i (Pop p) c ys rs (a, n, y, t) l = (
  record {
    value = refl;
    pops = ap (λ ss. labelled p (top ss)) t ∙ eq-eqb p p refl;
    pushes = refl;
    timely = ap (λ ss. inside D i (age_of (top ss))) t ∙ inside_from D i a n;
  },
  y,
  sym (ap below t),
)

-- a transition within the limits passes every check, and leads where firing leads
pub unchecked : (D v : ℕ) (b c : Configuration) (r : Rule) → Fires D r v b c → Allows r.action v b → (fire_check D b r v ≡ done) × (fired r.action r.to v b ≡ c)
unchecked D v b c r (w1, w2, w3) l =
    let (p, y, t) = undoes D r.to v r.interval r.action b c.clocks c.stack w3 l in (
      passes (value_fits r.action v) 13 _ done p.value
          (passes (eqb b.state r.from) 14 _ done (eq-eqb _ _ w1)
          (passes (pop_fits r.action b.stack) 15 _ done p.pops
          (passes (push_fits r.action b.stack) 16 _ done p.pushes
          (passes (time_fits D b r v) 17 done done p.timely refl)))),
      sym (same_configuration c (fired r.action r.to v b) (w2 ∙ sym (fired_state r.action r.to v b)) y t),
    )

pub nth_sits : {X : Type 0} (xs : List X) (k : ℕ) (x : X) → slice_get xs k ≡ Some x → Sits xs k x
nth_sits [] k x h = absurd (cc)
nth_sits (y ∷ ys) zero x h = let e : y ≡ x = cc in (omega arith, λ d. e)
nth_sits (y ∷ ys) (suc k) x h = let s = nth_sits ys k x h in (omega (arith, s.0), s.1)

sits_nth : {X : Type 0} (xs : List X) (k : ℕ) (x : X) → Sits xs k x → slice_get xs k ≡ Some x
sits_nth [] k x s = absurd (omega (arith, s.0))
sits_nth (y ∷ ys) zero x s = ap Some (s.1 y)
sits_nth (y ∷ ys) (suc k) x s = sits_nth ys k x (sits_next y x ys k s)

fires_run : (k v : ℕ) (w : View) (r : Rule) → Sits w.model.rules k r → (u : Running) → w.run ≡ u → (o : Outcome ℕ) (after : View) → o ≡ fire_run r v u → after ≡ fired_run r v w u → FiresSo k v w o after
fires_run k v w r i idle e o after ho ha =
    record { holds = λ q h. absurd (never_accepted 12 q (sym ho ∙ h)); only = λ D r b c x. absurd (idle_at D b (sym e ∙ x)) }
fires_run k v w r i (at D b) e o after ho ha =
    record {
      holds = λ q h.
          let a = answered_accepted (fire_check D b r v) r.to q (sym ho ∙ h) in
          let f = checked D v b r a.0 in
          let c = fired r.action r.to v b in
          (D, r, b, c, e, i, f.0, f.1, ran w after (fire_check D b r v) D c ha a.0, sym a.1 ∙ sym (fired_state r.action r.to v b));
      only = λ E s x c y j f l.
          let p = sym e ∙ y in
          let same : s ≡ r = sym (j.1 r) ∙ i.1 r in
          let f' = subst (λ (z : Rule). Fires E z v x c) same f in
          let l' = subst (λ (z : Rule). Allows z.action v x) same l in
          let f'' = subst (λ (z : Configuration). Fires E r v z c) (sym (same_place D E b x p)) f' in
          let l'' = subst (λ (z : Configuration). Allows r.action v z) (sym (same_place D E b x p)) l' in
          let g = unchecked D v b c r (subst (λ z. Fires z r v b c) (sym (same_scale D E b x p)) f'') l'' in
          (ho ∙ ap (λ z. answered z r.to) g.0 ∙ ap accepted (sym f'.1), ran w after (fire_check D b r v) D (fired r.action r.to v b) ha g.0 ∙ ap (λ z. at z (fired r.action r.to v b)) (same_scale D E b x p) ∙ ap (at E) g.1);
    }

fires_rule : (k v : ℕ) (w : View) (m : Option Rule) → slice_get w.model.rules k ≡ m → (o : Outcome ℕ) (after : View) → o ≡ fire_rule m v w.run → after ≡ fired_rule m v w → FiresSo k v w o after
fires_rule k v w None e o after ho ha =
    record {
      holds = λ q h. absurd (never_accepted 8 q (sym ho ∙ h));
      only = λ D r b c x i f l. absurd (let n = sits_nth w.model.rules k r i in cc);
    }
fires_rule k v w (Some r) e o after ho ha = fires_run k v w r (nth_sits w.model.rules k r e) w.run refl o after ho ha

pub fires : (k v : ℕ) (w : View) (o : Outcome ℕ) (after : View) → o ≡ fire_rule (slice_get w.model.rules k) v w.run → after ≡ fired_rule (slice_get w.model.rules k) v w → FiresSo k v w o after
fires k v w o after ho ha = fires_rule k v w (slice_get w.model.rules k) refl o after ho ha
