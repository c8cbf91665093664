use Rattle.std.specs.Prelude.{ℕ, ◌&&◌, [], replicate, Some, None, Option, nat_le}
use Rattle.std.specs.List.{slice_get}
use Rattle.fault.specs.Faults.{Outcome}
use Rattle.fault.specs.Faults.Outcome.{accepted, refused}
use Rattle.automaton.specs.Runs.{Automaton, Configuration}
use Rattle.automaton.specs.Rules.{no, unless}
use Rattle.automaton.specs.Edits.{settle, done, fresh, open_outcome, open_after, add_outcome, add_after, remove_outcome, remove_after, retarget_outcome, retarget_after, insert_outcome, insert_after}
use Rattle.automaton.specs.declared.model.Opening.{Opening}
use Rattle.automaton.specs.declared.rule.RuleNumbers.{RuleNumbers}
use Rattle.automaton.specs.declared.rule.Rule.{Rule}
use Rattle.case.specs.Views.{View, Running, arrived}
use Rattle.case.specs.Views.Running.{idle, at}
use Rattle.case.specs.Steps.{delay_check, waited, fire_check, fired}
use Rattle.case.specs.declared.case.Standing.TheVariants.{Undecided, Unreachable}

-- a new case: one state, no run, undecided
abbrev pub new_case : View
new_case = record { model = fresh; run = idle; standing = Undecided }

-- an accepted edit ends the run and makes the case undecided
abbrev pub edited : Automaton → View
edited m = record { model = m; run = idle; standing = Undecided }

-- after an edit with that outcome, m being the model that it makes
abbrev pub edit_after : {X : Type 0} → Outcome X → Automaton → View → View
edit_after o m w = settle o (edited m) w

abbrev pub open_view : Opening → View → View
open_view o w = edit_after (open_outcome o) (open_after o w.model) w

abbrev pub add_view : RuleNumbers → View → View
add_view n w = edit_after (add_outcome n w.model) (add_after n w.model) w

abbrev pub remove_view : ℕ → View → View
remove_view k w = edit_after (remove_outcome k w.model) (remove_after k w.model) w

abbrev pub retarget_view : ℕ → View → View
retarget_view q w = edit_after (retarget_outcome q w.model) (retarget_after q w.model) w

abbrev pub insert_view : ℕ → View → View
insert_view p w = edit_after (insert_outcome p w.model) (insert_after p w.model) w

-- an outcome without its result
abbrev pub void : {X : Type 0} → Outcome X → Outcome (Unit {0})
void (accepted x) = done
void (refused n l p) = refused n l p

-- an accepted step of the run to the configuration c
abbrev pub moved : View → ℕ → Configuration → View
moved w D c = record { model = w.model; run = at D c; standing = arrived w.model c.state w.standing }

-- the state as the answer, if the check passed
abbrev pub answered : Outcome (Unit {0}) → ℕ → Outcome ℕ
answered (accepted u) q = accepted q
answered (refused n l p) q = refused n l p

-- judging a table: accepted, it makes the case unreachable; the run stays

abbrev pub judge_view : Outcome (Unit {0}) → View → View
judge_view o w = settle o (record { model = w.model; run = w.run; standing = Unreachable }) w

-- beginning: a scale of 1 to 1,000,000; all clocks 0, an empty stack, in the start state

abbrev pub begin_check : ℕ → Outcome (Unit {0})
begin_check D = unless (nat_le 1 D && nat_le D 1000000) 11 done

abbrev pub start_of : Automaton → Configuration
start_of m = record { state = m.start; clocks = replicate m.clocks 0; stack = [] }

abbrev pub begin_outcome : ℕ → View → Outcome ℕ
begin_outcome D w = answered (begin_check D) w.model.start

abbrev pub begin_after : ℕ → View → View
begin_after D w = settle (begin_check D) (moved w D (start_of w.model)) w

-- delaying

abbrev pub delay_run : ℕ → Running → Outcome ℕ
delay_run d idle = no 12
delay_run d (at D c) = answered (delay_check d c) c.state

abbrev pub delay_outcome : ℕ → View → Outcome ℕ
delay_outcome d w = delay_run d w.run

abbrev pub delayed : ℕ → View → Running → View
delayed d w idle = w
delayed d w (at D c) = settle (delay_check d c) (moved w D (waited d c)) w

abbrev pub delay_after : ℕ → View → View
delay_after d w = delayed d w w.run

-- firing the rule at a place

abbrev pub fire_run : Rule → ℕ → Running → Outcome ℕ
fire_run r v idle = no 12
fire_run r v (at D c) = answered (fire_check D c r v) r.to

abbrev pub fire_rule : Option Rule → ℕ → Running → Outcome ℕ
fire_rule None v u = no 8
fire_rule (Some r) v u = fire_run r v u

abbrev pub fire_outcome : ℕ → ℕ → View → Outcome ℕ
fire_outcome k v w = fire_rule (slice_get w.model.rules k) v w.run

abbrev pub fired_run : Rule → ℕ → View → Running → View
fired_run r v w idle = w
fired_run r v w (at D c) = settle (fire_check D c r v) (moved w D (fired r.action r.to v c)) w

abbrev pub fired_rule : Option Rule → ℕ → View → View
fired_rule None v w = w
fired_rule (Some r) v w = fired_run r v w w.run

abbrev pub fire_after : ℕ → ℕ → View → View
fire_after k v w = fired_rule (slice_get w.model.rules k) v w
