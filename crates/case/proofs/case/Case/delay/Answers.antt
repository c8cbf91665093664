use Rattle.case.specs.Views.{view}
use Rattle.case.proofs.Transitions.{delays}
use Rattle.case.proofs.case.Case.delay.Goals as goal

pub returns-clause-law : goal.returns-clause-law
returns-clause-law c = delays c.args.units (view c.args.self.now) _ _ c.step.ensures.answer c.step.ensures.after
