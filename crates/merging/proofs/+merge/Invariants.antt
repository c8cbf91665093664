use Rattle.std.proofs.Common.{◌+◌, length}
use Rattle.merging.proofs.+merge.Given as goal

abbrev pub decreases-merge : goal.decreases-merge
decreases-merge l = length l.left.now + length l.right.now
