use Rattle.std.proofs.Common.{sym, ◌∙◌, rules, tests}
use Rattle.std.proofs.lemmas.Iterator.{YieldsList-from_slice, YieldsList-from_map}
use Rattle.std.proofs.lemmas.Iterator.Adapters.{option_map_id}
use Rattle.std.proofs.lemmas.Iterator.Consumers.{YieldsList-from_filter, min_from_yields_List}
use Rattle.ranking.proofs.Next.{least_next}
use Rattle.ranking.proofs.next_rank.Goals as goal

pub returns : goal.returns
returns c =
    let xs = c.args.items.now in
    sym (option_map_id _) ∙ min_from_yields_List c.filter.result _ c.min.ensures.ran
    (YieldsList-from_filter _ _ (YieldsList-from_map _ (λ x. x.rank) (YieldsList-from_slice xs cc) c.map.ensures.closure (λ x b q k. search (rules, tests))) c.filter.ensures.closure (λ x r q k. search (rules, tests)))
    ∙ least_next xs c.args.above
