use Rattle.std.proofs.Common.{◌≡◌}
use Rattle.abstraction.specs.Room.{shapes}
use Rattle.ranking.specs.Joined.{repeat}
use Rattle.region.specs.Listed.{fill_keys}
use Rattle.region.proofs.Filling.fill.Given as goal

abbrev pub invariant-loop-whole : goal.invariant-loop-whole
invariant-loop-whole l = shapes l.out ≡ repeat l.whole (fill_keys l.apart.base.scope l.apart.place l.apart.interval l.apart.base.region l.keys) (shapes l.initial.out)
