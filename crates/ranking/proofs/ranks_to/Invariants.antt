use Rattle.std.proofs.Common.{◌≡◌, ◌-◌, ◌≤◌}
use Rattle.ranking.specs.Close.{has_rank, steps}
use Rattle.ranking.proofs.ranks_to.Given as goal

abbrev pub invariant-loop-next : goal.invariant-loop-next
invariant-loop-next l = (l.count ≡ steps (has_rank l.items) l.at) × (l.count ≤ l.at) × (l.at ≤ l.rank)

abbrev pub decreases-loop-next : goal.decreases-loop-next
decreases-loop-next l = l.rank - l.at
