use Rattle.std.proofs.Common.{rules}
use Rattle.automaton.proofs.Writing.{reads}
use Rattle.automaton.proofs.rule.Rule.read.Goals as goal

pub returns-clause-law : goal.returns-clause-law
returns-clause-law c = reads c.args.sizes c.args.n _ (search rules)
