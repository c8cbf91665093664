use Rattle.floors.specs.Covering.{covers}
use Rattle.floors.proofs.Floors.new.Goals as goal

pub returns : goal.returns
returns c = covers _
