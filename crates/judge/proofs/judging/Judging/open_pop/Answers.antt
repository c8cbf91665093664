use Rattle.std.proofs.Common.{rules}
use Rattle.judge.proofs.Words.{not_yet, not_here, here, nowhere}
use Rattle.judge.specs.Judged.{return_closed}
use Rattle.judge.specs.Judgings.{claim_of}
use Rattle.judge.proofs.judging.Judging.open_pop.Goals as goal

pub loop-n-init : goal.loop-n-init
loop-n-init g c = let z = claim_of g.A.Abstraction.answers c.args.self.now in not_yet (return_closed z c.args.e c.args.u) z.automaton.rules

pub returns-then-not-return_closed : goal.returns-then-not-return_closed
returns-then-not-return_closed g c = search (rules, here)

pub loop-n-preserved : goal.loop-n-preserved
loop-n-preserved g c = search (rules, not_here)

pub returns : goal.returns
returns g c = search (rules, nowhere)
