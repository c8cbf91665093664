use Rattle.std.proofs.Common.{◌≡◌}
use Rattle.abstraction.specs.Room.{shapes}
use Rattle.ranking.specs.Items.{ceiling}
use Rattle.ranking.specs.Rotation.{turns}
use Rattle.merging.specs.Pop.{tried}
use Rattle.merging.proofs.try_rotations.Given as goal

abbrev pub invariant-loop : goal.invariant-loop
invariant-loop l = (l.below ≡ turns l.counter (ceiling l.scope) l.initial.below) × (shapes l.out ≡ tried l.counter l.scope l.initial.below l.above (shapes l.initial.out))
