use Rattle.std.proofs.Common.{◌≡◌, ◌<◌, length, rules}
use Rattle.abstraction.proofs.Room.{added_fits, added_full}
use Rattle.abstraction.proofs.listing.Listing.add.Goals as goal

pub returns-then-len-lt-ROOM : goal.returns-then-len-lt-ROOM
returns-then-len-lt-ROOM g c = let h : length c.args.self.now.shapes.items < 1048576 = search rules in search (rules, added_fits)

pub returns-else-len-lt-ROOM : goal.returns-else-len-lt-ROOM
returns-else-len-lt-ROOM g c = let h : length c.args.self.now.shapes.items ≡ 1048576 = search rules in search (rules, added_full)
