use Rattle.std.proofs.Common.{rules}
use Rattle.case.specs.Views.{view}
use Rattle.case.proofs.Transitions.{fires}
use Rattle.case.proofs.case.Case.fire.Goals as goal

pub returns-in-Some-clause-law : goal.returns-in-Some-clause-law
returns-in-Some-clause-law c = fires c.args.place c.args.value (view c.args.self.now) _ _ (search rules) (search rules)

pub returns-in-None-clause-law : goal.returns-in-None-clause-law
returns-in-None-clause-law c = fires c.args.place c.args.value (view c.args.self.now) _ _ (search rules) (search rules)
