use Rattle.std.proofs.Common.{rules, tests}
use Rattle.std.proofs.lemmas.Iterator.{YieldsList-from_slice}
use Rattle.std.proofs.lemmas.Iterator.Search.{any_from_yields_List}
use Rattle.judge.proofs.Words.{pushed_by}
use Rattle.judge.specs.Claims.{scope}
use Rattle.judge.specs.Judgings.{claim_of}
use Rattle.judge.proofs.judging.Judging.opens_by.Goals as goal

pub returns-in-Push : goal.returns-in-Push
returns-in-Push g c =
    let z = claim_of g.A.Abstraction.answers c.args.self.now in
    pushed_by z c.args.e c.args.o c.args.r _ _ c.in-Push.is (search rules) (search rules) (search rules) (any_from_yields_List (λ s. z.answers.within (scope z) s c.args.o.shape) _ _ _ c.any.ensures.ran (YieldsList-from_slice (z.answers.push (scope z) c.args.r.interval c.args.e.shape) (search rules)) (λ x b q k. search (rules, tests)))
