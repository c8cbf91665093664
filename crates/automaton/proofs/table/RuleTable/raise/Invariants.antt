use Rattle.std.proofs.Common.{◌≡◌, ◌++◌, map, take, drop}
use Rattle.automaton.specs.Insert.{raised}
use Rattle.automaton.proofs.table.RuleTable.raise.Given as goal

abbrev pub invariant-loop-rule : goal.invariant-loop-rule
invariant-loop-rule l = l.rule-items ≡ map (raised l.at) (take l.rule-index l.initial.rule-items) ++ drop l.rule-index l.initial.rule-items
