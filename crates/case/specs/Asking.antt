use Rattle.std.specs.Prelude.{◌≡◌, ℕ}
use Rattle.fault.specs.Faults.{Outcome}
use Rattle.automaton.specs.Lawful.{Clocked}
use Rattle.case.specs.Views.{View}
use Rattle.case.specs.Calls.{delay_outcome, delay_after, fire_run, fired_run}
use Rattle.case.specs.declared.moves.Asked.{Asked}
use Rattle.case.specs.declared.moves.Asked.TheVariants.{Delay, Fire}

-- a rule is fired by its own kind, and names a clock that is there
abbrev pub Asks : ℕ → Asked → Type 0
Asks n (Delay d) = Unit {0}
Asks n (Fire r a v) = (a ≡ r.action) × Clocked n r.action

abbrev pub step_outcome : Asked → View → Outcome ℕ
step_outcome (Delay d) w = delay_outcome d w
step_outcome (Fire r a v) w = fire_run r v w.run

abbrev pub step_after : Asked → View → View
step_after (Delay d) w = delay_after d w
step_after (Fire r a v) w = fired_run r v w w.run
