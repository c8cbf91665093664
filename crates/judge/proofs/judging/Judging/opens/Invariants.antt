use Rattle.std.proofs.Common.{◌≡◌, drop}
use Rattle.judge.specs.Judged.{opens, opens_by}
use Rattle.judge.specs.Judgings.{claim_of}
use Rattle.abstraction.specs.Lists.{any}
use Rattle.judge.proofs.judging.Judging.opens.Given as goal

abbrev pub invariant-loop-r : goal.invariant-loop-r
invariant-loop-r g l = let z = claim_of g.A.Abstraction.answers l.self in opens z l.e l.o ≡ any (λ _ r. opens_by z l.e l.o r) l.r-index (drop l.r-index z.automaton.rules)
