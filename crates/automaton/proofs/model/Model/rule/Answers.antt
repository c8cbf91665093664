use Rattle.automaton.proofs.Lawfully.{lawful_lent}
use Rattle.automaton.proofs.model.Model.rule.Goals as goal

pub returns-clause-law : goal.returns-clause-law
returns-clause-law c = rw c.copied.ensures (lawful_lent c.args.self.now.sizes c.rules.result.now _ _ c.get.ensures.lookup c.rules.ensures.law)
