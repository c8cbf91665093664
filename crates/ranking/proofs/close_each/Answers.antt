use Rattle.std.proofs.Common.{rules}
use Rattle.std.proofs.lemmas.List.Edits.{map_over_more}
use Rattle.ranking.specs.Close.{shut_item}
use Rattle.ranking.proofs.close_each.Goals as goal

pub loop-item-preserved : goal.loop-item-preserved
loop-item-preserved c = search (rules, map_over_more (shut_item c.args.all.now))
