use Rattle.std.proofs.Common.{rules}
use Rattle.std.proofs.lemmas.List.Edits.{map_over_more}
use Rattle.automaton.specs.Insert.{raised}
use Rattle.automaton.proofs.table.RuleTable.raise.Goals as goal

pub loop-rule-preserved : goal.loop-rule-preserved
loop-rule-preserved c = search (rules, map_over_more (raised c.args.at))
