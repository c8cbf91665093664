use Rattle.region.specs.Listed.{placing}
use Rattle.region.proofs.Repeat.{repeat_more}
use Rattle.region.proofs.Filling.list_positions.Goals as goal

pub loop-rank-preserved : goal.loop-rank-preserved
loop-rank-preserved c = let a = c.args in repeat_more c.loop-rank.rank (λ k. placing a.self.base.scope a.self.place a.self.interval a.self.base.region (record { whole = a.whole; rank = k })) _ _ _ c.loop-rank.invariant c.list_placed.ensures
