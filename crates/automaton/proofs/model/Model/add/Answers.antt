use Rattle.std.proofs.Common.{rules}
use Rattle.automaton.specs.Models.{automaton}
use Rattle.automaton.proofs.Editing.{added}
use Rattle.automaton.proofs.model.Model.add.Goals as goal

pub returns-clause-after : goal.returns-clause-after
returns-clause-after c = added c.args.n (automaton c.args.self.now) _ _ (search rules) c.in_ok-rule.ensures.value c.in_ok-rule.ensures.law (search rules)
