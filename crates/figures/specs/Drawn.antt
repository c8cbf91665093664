use Rattle.std.specs.Prelude.{ℕ, false, List, [], ◌∷◌}
use Rattle.abstraction.specs.declared.interval.Lower.TheVariants.{From}
use Rattle.abstraction.specs.declared.interval.Upper.TheVariants.{Upto, Under}
use Rattle.automaton.specs.declared.model.Opening.{Opening}
use Rattle.automaton.specs.declared.rule.Action.TheVariants.{Test, Push, Pop}
use Rattle.automaton.specs.declared.rule.Rule.{Rule}
use Rattle.automaton.specs.declared.rule.RuleNumbers.{RuleNumbers}
use Rattle.case.specs.Views.{View}
use Rattle.case.specs.Calls.{new_case, open_view, add_view, begin_after, delay_after, fire_after}

-- four states, start 0 and target 2, one label and one clock
abbrev pub sizes : Opening
sizes = record { states = 4; start = 0; target = 2; labels = 1; clocks = 1 }

-- from 0 to 1, push label 1 at age 0
abbrev pub pushing : RuleNumbers
pushing = record { from = 0; to = 1; kind = 3; argument = 1; lower = 0; lower_flag = 0; upper = 0; upper_flag = 0 }

-- from 1 to 2, pop label 1 at an age of 1 to 2
abbrev pub popping : RuleNumbers
popping = record { from = 1; to = 2; kind = 4; argument = 1; lower = 1; lower_flag = 0; upper = 2; upper_flag = 0 }

-- from 2 to 3, test that clock 0 is below 1
abbrev pub testing : RuleNumbers
testing = record { from = 2; to = 3; kind = 1; argument = 0; lower = 0; lower_flag = 0; upper = 1; upper_flag = 1 }

-- the case with this model
abbrev pub drawn : View
drawn = add_view testing (add_view popping (add_view pushing (open_view sizes new_case)))

-- a run at scale 10 that pushed at age 0
abbrev pub pushed : View
pushed = fire_after 0 0 (begin_after 10 drawn)

-- and waited d units
abbrev pub aged : ℕ → View
aged d = delay_after d pushed

-- and popped
abbrev pub popped : ℕ → View
popped d = fire_after 1 0 (aged d)

-- the rules, where the last one tests clock k
abbrev pub rules : ℕ → List Rule
rules k =
    record { from = 0; to = 1; action = Push 1; interval = record { lower = From 0; upper = Upto 0 } }
    ∷ record { from = 1; to = 2; action = Pop 1; interval = record { lower = From 1; upper = Upto 2 } }
    ∷ record { from = 2; to = 3; action = Test k; interval = record { lower = From 0; upper = Under 1 } }
    ∷ []
