use Rattle.std.specs.Prelude.{ℕ, ◌+◌, cond, map, nat_le}
use Rattle.automaton.specs.Runs.{Automaton, Reaches}
use Rattle.automaton.specs.declared.rule.Rule.{Rule}
use Rattle.automaton.specs.declared.rule.Action.{Action}
use Rattle.automaton.specs.declared.rule.Action.TheVariants.{Move, Test, Assign, Push, Pop}

-- the place of clock k once a new clock stands at the place p
abbrev pub bumped : ℕ → ℕ → ℕ
bumped p k = cond (nat_le p k) (k + 1) k

-- tests and assignments name their clock by its new place; labels stay
abbrev pub lifted : ℕ → Action → Action
lifted p Move = Move
lifted p (Test k) = Test (bumped p k)
lifted p (Assign k) = Assign (bumped p k)
lifted p (Push l) = Push l
lifted p (Pop l) = Pop l

abbrev pub raised : ℕ → Rule → Rule
raised p r = record { from = r.from; to = r.to; action = lifted p r.action; interval = r.interval }

-- the automaton with a new clock at the place p
abbrev pub with_clock : ℕ → Automaton → Automaton
with_clock p m =
    record {
      states = m.states;
      labels = m.labels;
      clocks = m.clocks + 1;
      start = m.start;
      target = m.target;
      rules = map (raised p) m.rules;
    }

-- exactly the same states are reachable
abbrev pub SameReach : Automaton → Automaton → Type 0
SameReach m n = (q : ℕ) → (Reaches m q → Reaches n q) × (Reaches n q → Reaches m q)
