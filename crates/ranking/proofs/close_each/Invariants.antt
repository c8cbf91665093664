use Rattle.std.proofs.Common.{◌≡◌, ◌++◌, map, take, drop}
use Rattle.ranking.specs.Close.{shut_item}
use Rattle.ranking.proofs.close_each.Given as goal

abbrev pub invariant-loop-item : goal.invariant-loop-item
invariant-loop-item l = l.items ≡ map (shut_item l.all) (take l.item-index l.initial.items) ++ drop l.item-index l.initial.items
