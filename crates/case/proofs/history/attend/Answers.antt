use Rattle.case.proofs.Past.{over_calls}
use Rattle.case.proofs.history.attend.Goals as goal

pub returns-clause-law : goal.returns-clause-law
returns-clause-law g c = over_calls _ _ _ _ c.renew.ensures c.make.ensures.played
