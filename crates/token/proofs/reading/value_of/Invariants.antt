use Rattle.std.proofs.Common.{◌≡◌, ◌≤◌, drop}
use Rattle.token.specs.Grammar.{numeral}
use Rattle.token.proofs.reading.value_of.Given as goal

abbrev pub invariant-loop-b : goal.invariant-loop-b
invariant-loop-b l = (l.n ≤ 1000000000000000) × (numeral l.n (drop l.b-index l.bytes) ≡ numeral 0 l.bytes)
