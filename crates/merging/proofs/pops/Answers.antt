use Rattle.std.proofs.Common.{◌≡◌, sym, subst, rules}
use Rattle.abstraction.specs.Room.{shapes}
use Rattle.merging.specs.Pop.{pops}
use Rattle.merging.specs.Law.{PopLaw}
use Rattle.merging.proofs.Law.{pop_law}
use Rattle.merging.proofs.pops.Goals as goal

pub returns : goal.returns
returns c =
    let v : shapes c.try_rotations.new.out ≡ pops c.args.scope c.args.s c.args.u = search rules in
    record { value = v; law = subst (PopLaw c.args.scope c.args.s c.args.u) (sym v) (pop_law c.args.scope c.args.s c.args.u) }
