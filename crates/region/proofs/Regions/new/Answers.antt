use Rattle.region.specs.Owing.{regions_cover, frames_once, lists_exactly}
use Rattle.region.proofs.Refused.{lists_nothing}
use Rattle.region.proofs.Regions.new.Goals as goal

pub returns : goal.returns
returns c = record { covers = regions_cover (record {}); once = frames_once; lists = lists_exactly; nothing = lists_nothing }
