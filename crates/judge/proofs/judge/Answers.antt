use Rattle.std.proofs.Common.{length, sym, ◌∙◌, subst}
use Rattle.automaton.specs.Models.{automaton}
use Rattle.judge.specs.Claims.{claim}
use Rattle.judge.specs.Law.{Law}
use Rattle.judge.proofs.Verdict.{lawful_verdict}
use Rattle.judge.proofs.Settled.{settled}
use Rattle.judge.proofs.judge.Goals as goal

pub returns-clause-law : goal.returns-clause-law
returns-clause-law g c =
    let n = length c.args.scratch.now in
    let z = claim (g.A.Abstraction.answers c.args.abstraction.now) (automaton c.args.model.now) c.args.top c.args.table.now in
    subst (Law z n) (sym c.verdict-verdict.ensures) (lawful_verdict z n)

pub returns-clause-sound : goal.returns-clause-sound
returns-clause-sound g c h =
    let z = claim (g.A.Abstraction.answers c.args.abstraction.now) (automaton c.args.model.now) c.args.top c.args.table.now in
    settled z (g.A.Abstraction.meaning c.args.abstraction.now) (length c.args.scratch.now) c.args.model.now.timed c.args.model.now.lawful (g.met.A.Abstraction.lists c.args.abstraction.now) (sym c.verdict-verdict.ensures ∙ h)
