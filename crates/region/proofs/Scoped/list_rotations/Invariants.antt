use Rattle.std.proofs.Common.{◌≡◌}
use Rattle.abstraction.specs.Room.{shapes}
use Rattle.ranking.specs.Items.{places, ceiling}
use Rattle.ranking.specs.Rotation.{turned_by}
use Rattle.ranking.specs.Joined.{join, repeat}
use Rattle.region.proofs.Scoped.list_rotations.Given as goal

abbrev pub invariant-loop : goal.invariant-loop
invariant-loop l = (l.next ≡ turned_by l.counter (places l.self.scope) (ceiling l.self.scope) l.initial.next)
    × (shapes l.out ≡ repeat l.counter (λ k out. join out (turned_by k (places l.self.scope) (ceiling l.self.scope) l.initial.next)) (shapes l.initial.out))
