use Rattle.std.proofs.Common.{◌≡◌, ◌++◌, map, take, drop}
use Rattle.automaton.specs.Runs.{older}
use Rattle.case.proofs.stack.Stack.age.Given as goal

abbrev pub invariant-loop-s : goal.invariant-loop-s
invariant-loop-s l = l.s-items ≡ map (older l.units) (take l.s-index l.initial.s-items) ++ drop l.s-index l.initial.s-items
