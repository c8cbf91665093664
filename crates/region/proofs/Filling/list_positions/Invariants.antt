use Rattle.std.proofs.Common.{◌≡◌}
use Rattle.abstraction.specs.Room.{shapes}
use Rattle.ranking.specs.Joined.{repeat}
use Rattle.region.specs.Listed.{placing}
use Rattle.region.proofs.Filling.list_positions.Given as goal

abbrev pub invariant-loop-rank : goal.invariant-loop-rank
invariant-loop-rank l = shapes l.out ≡ repeat l.rank (λ k. placing l.self.base.scope l.self.place l.self.interval l.self.base.region (record { whole = l.whole; rank = k })) (shapes l.initial.out)
