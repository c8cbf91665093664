use Rattle.std.specs.Prelude.{ℕ, ◌+◌, Bool, true, false, ◌&&◌, List, [], ◌∷◌, map, length, Some, None, Option, ◌==◌, nat_le, nat_lt, slice_index, slice_set}
use Rattle.fault.specs.Faults.{Outcome}
use Rattle.std.specs.List.{list_all}
use Rattle.abstraction.specs.Frames.{plus}
use Rattle.abstraction.specs.Bounds.{inside}
use Rattle.automaton.specs.Runs.{Configuration, older}
use Rattle.automaton.specs.Rules.{unless}
use Rattle.automaton.specs.Edits.{done}
use Rattle.automaton.specs.declared.rule.Rule.{Rule}
use Rattle.automaton.specs.declared.rule.Symbol.{Symbol}
use Rattle.automaton.specs.declared.rule.Action.{Action}
use Rattle.automaton.specs.declared.rule.Action.TheVariants.{Move, Test, Assign, Push, Pop}

-- the greatest number that a clock, an age or a value may be: 10^15
abbrev pub limit : ℕ
limit = 1000000000000000

-- what a delay asks: the units, and every clock and age after them, keep to the limit

abbrev pub clock_fits : ℕ → ℕ → Bool
clock_fits d x = nat_le (x + d) limit

abbrev pub age_fits : ℕ → Symbol → Bool
age_fits d s = nat_le (s.age + d) limit

abbrev pub delay_fits : ℕ → Configuration → Bool
delay_fits d c = nat_le d limit && (list_all (clock_fits d) c.clocks && list_all (age_fits d) c.stack)

abbrev pub delay_check : ℕ → Configuration → Outcome (Unit {0})
delay_check d c = unless (delay_fits d c) 13 done

-- d units later
abbrev pub waited : ℕ → Configuration → Configuration
waited d c = record { state = c.state; clocks = plus d c.clocks; stack = map (older d) c.stack }

-- what firing asks

-- only assignments and pushes use the value
abbrev pub value_fits : Action → ℕ → Bool
value_fits Move v = true
value_fits (Test k) v = true
value_fits (Assign k) v = nat_le v limit
value_fits (Push l) v = nat_le v limit
value_fits (Pop l) v = true

abbrev pub top : List Symbol → Option Symbol
top [] = None
top (s ∷ ss) = Some s

abbrev pub labelled : ℕ → Option Symbol → Bool
labelled l None = false
labelled l (Some s) = s.label == l

abbrev pub pop_fits : Action → List Symbol → Bool
pop_fits Move ss = true
pop_fits (Test k) ss = true
pop_fits (Assign k) ss = true
pop_fits (Push l) ss = true
pop_fits (Pop l) ss = labelled l (top ss)

abbrev pub push_fits : Action → List Symbol → Bool
push_fits Move ss = true
push_fits (Test k) ss = true
push_fits (Assign k) ss = true
push_fits (Push l) ss = nat_lt (length ss) 128
push_fits (Pop l) ss = true

abbrev pub age_of : Option Symbol → ℕ
age_of None = 0
age_of (Some s) = s.age

-- what is held against the interval: the clock, the value or the top's age
abbrev pub measured : Action → List ℕ → List Symbol → ℕ → ℕ
measured Move xs ss v = v
measured (Test k) xs ss v = slice_index xs k
measured (Assign k) xs ss v = v
measured (Push l) xs ss v = v
measured (Pop l) xs ss v = age_of (top ss)

-- a move ignores its interval
abbrev pub timed : Action → Bool → Bool
timed Move b = true
timed (Test k) b = b
timed (Assign k) b = b
timed (Push l) b = b
timed (Pop l) b = b

abbrev pub time_fits : ℕ → Configuration → Rule → ℕ → Bool
time_fits D c r v = timed r.action (inside D r.interval (measured r.action c.clocks c.stack v))

abbrev pub fire_check : ℕ → Configuration → Rule → ℕ → Outcome (Unit {0})
fire_check D c r v =
    unless (value_fits r.action v) 13
    (unless (c.state == r.from) 14
    (unless (pop_fits r.action c.stack) 15
    (unless (push_fits r.action c.stack) 16
    (unless (time_fits D c r v) 17
    done))))

abbrev pub below : List Symbol → List Symbol
below [] = []
below (s ∷ ss) = ss

-- the configuration after a rule with that action leads to the state q
abbrev pub fired : Action → ℕ → ℕ → Configuration → Configuration
fired Move q v c = record { state = q; clocks = c.clocks; stack = c.stack }
fired (Test k) q v c = record { state = q; clocks = c.clocks; stack = c.stack }
fired (Assign k) q v c = record { state = q; clocks = slice_set c.clocks k v; stack = c.stack }
fired (Push l) q v c = record { state = q; clocks = c.clocks; stack = (record { label = l; age = v }) ∷ c.stack }
fired (Pop l) q v c = record { state = q; clocks = c.clocks; stack = below c.stack }
