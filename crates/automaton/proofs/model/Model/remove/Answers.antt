use Rattle.std.proofs.Common.{ap, ◌∙◌}
use Rattle.automaton.specs.Lawful.{lawful, all_lawful}
use Rattle.automaton.proofs.Lawfully.{all_removed}
use Rattle.automaton.proofs.model.Model.remove.Goals as goal

pub invariant_of-self-clause-lawful : goal.invariant_of-self-clause-lawful
invariant_of-self-clause-lawful c = let m = c.args.self.now in ap (all_lawful m.sizes) c.remove.ensures.items ∙ all_removed (lawful m.sizes) m.rules.items.items c.args.place m.lawful
