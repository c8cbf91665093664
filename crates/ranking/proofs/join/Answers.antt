use Rattle.ranking.proofs.Joined.{same_decides}
use Rattle.ranking.proofs.join.Goals as goal

pub returns-then-not-contains-clause-regions : goal.returns-then-not-contains-clause-regions
returns-then-not-contains-clause-regions c = same_decides

pub returns-else-not-contains-clause-regions : goal.returns-else-not-contains-clause-regions
returns-else-not-contains-clause-regions c = same_decides
