use Rattle.std.specs.Prelude.{ℕ, Bool, ◌&&◌, List, [], ◌∷◌, ◌++◌, length, nat_le, nat_lt}
use Rattle.std.specs.List.{remove}
use Rattle.fault.specs.Faults.{Outcome}
use Rattle.fault.specs.Faults.Outcome.{accepted, refused}
use Rattle.automaton.specs.Runs.{Automaton}
use Rattle.automaton.specs.Rules.{unless, rule, read_rule}
use Rattle.automaton.specs.Insert.{with_clock}
use Rattle.automaton.specs.declared.rule.Rule.{Rule}
use Rattle.automaton.specs.declared.rule.RuleNumbers.{RuleNumbers}
use Rattle.automaton.specs.declared.rule.Sizes.{Sizes}
use Rattle.automaton.specs.declared.model.Opening.{Opening}

-- the new value if the call was accepted, else the old one
abbrev pub settle : {X Y : Type 0} → Outcome X → Y → Y → Y
settle (accepted x) new old = new
settle (refused n l p) new old = old

abbrev pub done : Outcome (Unit {0})
done = accepted tt

abbrev pub sizes : Automaton → Sizes
sizes m = record { states = m.states; labels = m.labels; clocks = m.clocks }

-- a new case's automaton: one state, which is start and target, and nothing else
abbrev pub fresh : Automaton
fresh = record { states = 1; labels = 0; clocks = 0; start = 0; target = 0; rules = [] }

-- opening: 1 to 64 states, at most 16 labels, at most 3 clocks; start and target are states; no rules

abbrev pub sizes_fit : Opening → Bool
sizes_fit o = (nat_le 1 o.states && nat_le o.states 64) && (nat_le o.labels 16 && nat_le o.clocks 3)

abbrev pub ends_fit : Opening → Bool
ends_fit o = nat_lt o.start o.states && nat_lt o.target o.states

abbrev pub open_outcome : Opening → Outcome (Unit {0})
open_outcome o = unless (sizes_fit o) 1 (unless (ends_fit o) 2 done)

abbrev pub opened : Opening → Automaton
opened o =
    record {
      states = o.states;
      labels = o.labels;
      clocks = o.clocks;
      start = o.start;
      target = o.target;
      rules = [];
    }

abbrev pub open_after : Opening → Automaton → Automaton
open_after o m = settle (open_outcome o) (opened o) m

abbrev pub with_rules : List Rule → Automaton → Automaton
with_rules rs m =
    record {
      states = m.states;
      labels = m.labels;
      clocks = m.clocks;
      start = m.start;
      target = m.target;
      rules = rs;
    }

-- adding: fewer than 64 rules are held, and the numbers write a rule, which comes last

abbrev pub add_outcome : RuleNumbers → Automaton → Outcome Rule
add_outcome n m = unless (nat_lt (length m.rules) 64) 3 (read_rule (sizes m) n)

abbrev pub add_after : RuleNumbers → Automaton → Automaton
add_after n m = settle (add_outcome n m) (with_rules (m.rules ++ rule n ∷ []) m) m

-- removing: the rule is there, and later rules move down

abbrev pub remove_outcome : ℕ → Automaton → Outcome (Unit {0})
remove_outcome k m = unless (nat_lt k (length m.rules)) 8 done

abbrev pub remove_after : ℕ → Automaton → Automaton
remove_after k m = settle (remove_outcome k m) (with_rules (remove m.rules k) m) m

-- retargeting: the target is a state

abbrev pub retarget_outcome : ℕ → Automaton → Outcome (Unit {0})
retarget_outcome q m = unless (nat_lt q m.states) 2 done

abbrev pub retargeted : ℕ → Automaton → Automaton
retargeted q m =
    record {
      states = m.states;
      labels = m.labels;
      clocks = m.clocks;
      start = m.start;
      target = q;
      rules = m.rules;
    }

abbrev pub retarget_after : ℕ → Automaton → Automaton
retarget_after q m = settle (retarget_outcome q m) (retargeted q m) m

-- inserting a clock: fewer than 3 are held, and the place is at most their number

abbrev pub insert_outcome : ℕ → Automaton → Outcome (Unit {0})
insert_outcome p m = unless (nat_lt m.clocks 3) 9 (unless (nat_le p m.clocks) 10 done)

abbrev pub insert_after : ℕ → Automaton → Automaton
insert_after p m = settle (insert_outcome p m) (with_clock p m) m
