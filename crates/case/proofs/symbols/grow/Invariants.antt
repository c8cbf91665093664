use Rattle.std.proofs.Common.{◌≡◌, ◌+◌, ◌++◌, map, take, drop}
use Rattle.case.proofs.symbols.grow.Given as goal

abbrev pub invariant-loop-x : goal.invariant-loop-x
invariant-loop-x l = l.clocks ≡ map (λ x. x + l.units) (take l.x-index l.initial.clocks) ++ drop l.x-index l.initial.clocks
