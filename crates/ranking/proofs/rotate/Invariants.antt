use Rattle.std.proofs.Common.{◌≡◌, ◌++◌, map, take, drop}
use Rattle.ranking.specs.Items.{each, ceiling}
use Rattle.ranking.specs.Rotation.{raised, fallen}
use Rattle.ranking.proofs.rotate.Given as goal

abbrev pub invariant-loop-item : goal.invariant-loop-item
invariant-loop-item l = l.items ≡ map raised (take l.item-index l.initial.items) ++ drop l.item-index l.initial.items

abbrev pub invariant-loop-place : goal.invariant-loop-place
invariant-loop-place l = l.items ≡ each (fallen (ceiling l.scope) l.most) 0 (take l.place l.initial.items) ++ drop l.place l.initial.items
