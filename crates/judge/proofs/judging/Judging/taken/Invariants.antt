use Rattle.std.proofs.Common.{◌≡◌, drop}
use Rattle.judge.specs.Judged.{takes, taken}
use Rattle.judge.specs.Judgings.{claim_of}
use Rattle.abstraction.specs.Lists.{any}
use Rattle.judge.proofs.judging.Judging.taken.Given as goal

abbrev pub invariant-loop-k : goal.invariant-loop-k
invariant-loop-k g l = let z = claim_of g.A.Abstraction.answers l.self in taken z l.w l.s ≡ any (takes z l.w l.s) l.k (drop l.k z.table)
