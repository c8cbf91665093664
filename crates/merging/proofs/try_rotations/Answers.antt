use Rattle.abstraction.specs.Room.{shapes}
use Rattle.merging.proofs.Fill.{next_turn, next_tried}
use Rattle.merging.proofs.try_rotations.Goals as goal

pub loop-preserved : goal.loop-preserved
loop-preserved c = (
  next_turn c.args.scope c.loop.counter c.args.below.now c.loop.below c.rotate.new.items c.loop.invariant.0 c.rotate.ensures,
  next_tried c.args.scope c.loop.counter c.args.below.now c.loop.below c.args.above.now (shapes c.args.out.now) (shapes c.loop.out) (shapes c.list.new.out) c.loop.invariant.0 c.loop.invariant.1 c.list.ensures,
)
