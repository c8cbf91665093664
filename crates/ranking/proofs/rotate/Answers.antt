use Rattle.std.proofs.Common.{rules}
use Rattle.std.proofs.lemmas.List.Edits.{map_over_more}
use Rattle.ranking.specs.Items.{ceiling}
use Rattle.ranking.specs.Rotation.{raised, fallen}
use Rattle.ranking.proofs.Each.{each_over_more}
use Rattle.ranking.proofs.rotate.Goals as goal

pub loop-item-preserved : goal.loop-item-preserved
loop-item-preserved c = search (rules, map_over_more raised)

pub loop-place-preserved : goal.loop-place-preserved
loop-place-preserved c = search (rules, each_over_more (fallen (ceiling c.args.scope) c.top_rank-most.result))
