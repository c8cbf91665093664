use Rattle.std.proofs.Common.{◌≡◌, not, drop}
use Rattle.std.specs.List.{position}
use Rattle.judge.specs.Judged.{return_closed}
use Rattle.judge.specs.Judgings.{claim_of}
use Rattle.judge.proofs.Words.{first_not}
use Rattle.judge.proofs.judging.Judging.open_pop.Given as goal

abbrev pub invariant-loop-n : goal.invariant-loop-n
invariant-loop-n g l = let z = claim_of g.A.Abstraction.answers l.self in position (λ r. not (return_closed z l.e l.u r)) z.automaton.rules ≡ first_not (return_closed z l.e l.u) l.n (drop l.n z.automaton.rules)
