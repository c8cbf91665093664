use Rattle.std.proofs.Common.{◌≡◌, drop}
use Rattle.abstraction.specs.Lists.{first}
use Rattle.judge.specs.Judged.{closure_fault, entry_fault}
use Rattle.judge.specs.Judgings.{claim_of}
use Rattle.judge.proofs.judging.Judging.closed.Given as goal

abbrev pub invariant-loop-k : goal.invariant-loop-k
invariant-loop-k g l = let z = claim_of g.A.Abstraction.answers l.self in closure_fault z ≡ first (entry_fault z) l.k (drop l.k z.table)
