use Rattle.std.proofs.Common.{sym, subst}
use Rattle.automaton.specs.Models.{automaton}
use Rattle.automaton.specs.Insert.{SameReach}
use Rattle.case.proofs.case.Case.insert.Goals as goal

pub returns-clause-same : goal.returns-clause-same
returns-clause-same c = subst (SameReach (automaton c.args.self.now.model)) (sym c.forget.ensures.1) c.insert.ensures.same
