use Rattle.std.proofs.Common.{◌≡◌, ℕ, zero, suc, ◌≤◌, Bool, true, false, ◌&&◌, ◌||◌, eqb, ltb, leb, sym, refl, ap, ◌∙◌, subst, arith}
use Rattle.std.proofs.lemmas.Bool.{and_parts, and_from, eqb-true, leb-true}
use Rattle.fault.specs.Faults.{Outcome}
use Rattle.fault.specs.Faults.Outcome.{accepted}
use Rattle.abstraction.specs.Bounds.{bound, upper_fits}
use Rattle.abstraction.specs.declared.interval.Lower.{Lower}
use Rattle.abstraction.specs.declared.interval.Lower.TheVariants.{From, Over}
use Rattle.abstraction.specs.declared.interval.Upper.{Upper}
use Rattle.abstraction.specs.declared.interval.Upper.TheVariants.{Upto, Under, Unbounded}
use Rattle.automaton.specs.Rules.{unless, argument_fits, action, lower, upper, interval, rule, read_rule, kind_of, argument_of, over_flag, bound_of, flag_of, written}
use Rattle.automaton.specs.Lawful.{names, lawful, Reads}
use Rattle.automaton.specs.declared.rule.Rule.{Rule}
use Rattle.automaton.specs.declared.rule.RuleNumbers.{RuleNumbers}
use Rattle.automaton.specs.declared.rule.Sizes.{Sizes}
use Rattle.automaton.specs.declared.rule.Action.{Action}
use Rattle.automaton.specs.declared.rule.Action.TheVariants.{Move, Test, Assign, Push, Pop}

-- a chain of tests that ends in acceptance has passed them all
pub passed : {X : Type 0} (b : Bool) (n : ℕ) (o : Outcome X) (x : X) → unless b n o ≡ accepted x → (b ≡ true) × (o ≡ accepted x)
passed true n o x h = (refl, h)
passed false n o x h = absurd (cc)

pub same_accepted : {X : Type 0} (x y : X) → accepted x ≡ accepted y → x ≡ y
same_accepted x y h = cc

pub passes : {X : Type 0} (b : Bool) (n : ℕ) (o p : Outcome X) → b ≡ true → o ≡ p → unless b n o ≡ p
passes b n o p h e = ap (λ t. unless t n o) h ∙ e

-- reading back what was written

action_back : (a : Action) → action (kind_of a) (argument_of a) ≡ a
action_back Move = refl
action_back (Test k) = refl
action_back (Assign k) = refl
action_back (Push l) = refl
action_back (Pop l) = refl

upper_back : (u : Upper) → upper (flag_of u) (bound_of u) ≡ u
upper_back (Upto b) = refl
upper_back (Under b) = refl
upper_back Unbounded = refl

lower_back : (l : Lower) → lower (over_flag l) (bound l) ≡ l
lower_back (From b) = refl
lower_back (Over b) = refl

rule_back : (r : Rule) → rule (written r) ≡ r
rule_back r =
    ap (λ a. record { from = r.from; to = r.to; action = a; interval = interval (written r) }) (action_back r.action)
    ∙ ap (λ l. record { from = r.from; to = r.to; action = r.action; interval = record { lower = l; upper = upper (flag_of r.interval.upper) (bound_of r.interval.upper) } }) (lower_back r.interval.lower)
    ∙ ap (λ u. record { from = r.from; to = r.to; action = r.action; interval = record { lower = r.interval.lower; upper = u } }) (upper_back r.interval.upper)

kind_small : (a : Action) → leb (kind_of a) 4 ≡ true
kind_small Move = refl
kind_small (Test k) = refl
kind_small (Assign k) = refl
kind_small (Push l) = refl
kind_small (Pop l) = refl

argument_named : (z : Sizes) (a : Action) → names z a ≡ true → argument_fits z (kind_of a) (argument_of a) ≡ true
argument_named z Move h = refl
argument_named z (Test k) h = h
argument_named z (Assign k) h = h
argument_named z (Push l) h = h
argument_named z (Pop l) h = h

over_small : (l : Lower) → leb (over_flag l) 1 ≡ true
over_small (From b) = refl
over_small (Over b) = refl

bounds_written : (l : Lower) (u : Upper) → leb (bound l) 15 ≡ true → upper_fits 15 u ≡ true → (leb (bound l) 15 && leb (bound_of u) 15) && (leb (over_flag l) 1 && (leb (flag_of u) 2 && (ltb (flag_of u) 2 || eqb (bound_of u) 0))) ≡ true
bounds_written l (Upto b) h k = and_from _ _ (and_from _ _ h k) (and_from _ _ (over_small l) refl)
bounds_written l (Under b) h k = and_from _ _ (and_from _ _ h k) (and_from _ _ (over_small l) refl)
bounds_written l Unbounded h k = and_from _ _ (and_from _ _ h refl) (and_from _ _ (over_small l) refl)

reads_written : (z : Sizes) (r : Rule) → lawful z r ≡ true → read_rule z (written r) ≡ accepted r
reads_written z r h =
    let p = and_parts (ltb r.from z.states && ltb r.to z.states) _ h in
    let q = and_parts (names z r.action) _ p.1 in
    let b = and_parts (leb (bound r.interval.lower) 15) _ q.1 in
    passes _ 4 _ _ p.0
    (passes _ 5 _ _ (kind_small r.action)
    (passes _ 6 _ _ (argument_named z r.action q.0)
    (passes _ 7 _ _ (bounds_written r.interval.lower r.interval.upper b.0 b.1)
    (ap accepted (rule_back r)))))

-- writing back what was read

kind_read : (k a : ℕ) → k ≤ 4 → kind_of (action k a) ≡ k
kind_read zero a h = refl
kind_read (suc zero) a h = refl
kind_read (suc (suc zero)) a h = refl
kind_read (suc (suc (suc zero))) a h = refl
kind_read (suc (suc (suc (suc zero)))) a h = refl
kind_read (suc (suc (suc (suc (suc k))))) a h = absurd (omega arith)

argument_read : (z : Sizes) (k a : ℕ) → k ≤ 4 → argument_fits z k a ≡ true → (argument_of (action k a) ≡ a) × (names z (action k a) ≡ true)
argument_read z zero a h t = (sym (eqb-true a 0 t), refl)
argument_read z (suc zero) a h t = (refl, t)
argument_read z (suc (suc zero)) a h t = (refl, t)
argument_read z (suc (suc (suc zero))) a h t = (refl, t)
argument_read z (suc (suc (suc (suc zero)))) a h t = (refl, t)
argument_read z (suc (suc (suc (suc (suc k))))) a h t = absurd (omega arith)

lower_read : (f b : ℕ) → f ≤ 1 → (bound (lower f b) ≡ b) × (over_flag (lower f b) ≡ f)
lower_read zero b h = (refl, refl)
lower_read (suc zero) b h = (refl, refl)
lower_read (suc (suc f)) b h = absurd (omega arith)

flag_read : (f b : ℕ) → f ≤ 2 → flag_of (upper f b) ≡ f
flag_read zero b h = refl
flag_read (suc zero) b h = refl
flag_read (suc (suc zero)) b h = refl
flag_read (suc (suc (suc f))) b h = absurd (omega arith)

bound_read : (f b : ℕ) → f ≤ 2 → (ltb f 2 || eqb b 0) ≡ true → leb b 15 ≡ true → (bound_of (upper f b) ≡ b) × (upper_fits 15 (upper f b) ≡ true)
bound_read zero b h t l = (refl, l)
bound_read (suc zero) b h t l = (refl, l)
bound_read (suc (suc zero)) b h t l = (sym (eqb-true b 0 t), refl)
bound_read (suc (suc (suc f))) b h t l = absurd (omega arith)

written_read : (z : Sizes) (n : RuleNumbers) (r : Rule) → read_rule z n ≡ accepted r → (written r ≡ n) × (lawful z r ≡ true)
written_read z n r h =
    let p = passed _ 4 _ r h in
    let q = passed _ 5 _ r p.1 in
    let a = passed _ 6 _ r q.1 in
    let b = passed _ 7 _ r a.1 in
    let k : n.kind ≤ 4 = leb-true _ _ q.0 in
    let g = argument_read z n.kind n.argument k a.0 in
    let w = and_parts (leb n.lower 15 && leb n.upper 15) _ b.0 in
    let l = and_parts (leb n.lower 15) _ w.0 in
    let s = and_parts (leb n.lower_flag 1) _ w.1 in
    let f = and_parts (leb n.upper_flag 2) _ s.1 in
    let f2 : n.upper_flag ≤ 2 = leb-true _ _ f.0 in
    let u = bound_read n.upper_flag n.upper f2 f.1 l.1 in
    let low = lower_read n.lower_flag n.lower (leb-true _ _ s.0) in
    let e : rule n ≡ r = same_accepted (rule n) r b.1 in
    subst (λ (x : Rule). (written x ≡ n) × (lawful z x ≡ true)) e (
      (ap (λ v. record { from = n.from; to = n.to; kind = v; argument = argument_of (action n.kind n.argument); lower = bound (lower n.lower_flag n.lower); lower_flag = over_flag (lower n.lower_flag n.lower); upper = bound_of (upper n.upper_flag n.upper); upper_flag = flag_of (upper n.upper_flag n.upper) }) (kind_read n.kind n.argument k)
          ∙ ap (λ v. record { from = n.from; to = n.to; kind = n.kind; argument = v; lower = bound (lower n.lower_flag n.lower); lower_flag = over_flag (lower n.lower_flag n.lower); upper = bound_of (upper n.upper_flag n.upper); upper_flag = flag_of (upper n.upper_flag n.upper) }) g.0
          ∙ ap (λ v. record { from = n.from; to = n.to; kind = n.kind; argument = n.argument; lower = v; lower_flag = over_flag (lower n.lower_flag n.lower); upper = bound_of (upper n.upper_flag n.upper); upper_flag = flag_of (upper n.upper_flag n.upper) }) low.0
          ∙ ap (λ v. record { from = n.from; to = n.to; kind = n.kind; argument = n.argument; lower = n.lower; lower_flag = v; upper = bound_of (upper n.upper_flag n.upper); upper_flag = flag_of (upper n.upper_flag n.upper) }) low.1
          ∙ ap (λ v. record { from = n.from; to = n.to; kind = n.kind; argument = n.argument; lower = n.lower; lower_flag = n.lower_flag; upper = v; upper_flag = flag_of (upper n.upper_flag n.upper) }) u.0
          ∙ ap (λ v. record { from = n.from; to = n.to; kind = n.kind; argument = n.argument; lower = n.lower; lower_flag = n.lower_flag; upper = n.upper; upper_flag = v }) (flag_read n.upper_flag n.upper f2)),
      and_from _ _ p.0 (and_from _ _ g.1 (and_from _ _ (ap (λ v. leb v 15) low.0 ∙ l.0) u.1)),
    )

-- eight numbers are read exactly when they write a lawful rule
pub reads : (z : Sizes) (n : RuleNumbers) (o : Outcome Rule) → o ≡ read_rule z n → Reads z n o
reads z n o e =
    record {
      holds = λ r h. written_read z n r (sym e ∙ h);
      only = λ r w l. e ∙ subst (λ (x : RuleNumbers). read_rule z x ≡ accepted r) w (reads_written z r l);
    }

-- and a rule that is read is the one that the numbers write
pub rule_read : (z : Sizes) (n : RuleNumbers) (r : Rule) → Reads z n (accepted r) → r ≡ rule n
rule_read z n r l = sym (rule_back r) ∙ ap rule (l.holds r refl).0
