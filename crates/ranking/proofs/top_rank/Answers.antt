use Rattle.std.proofs.Common.{refl, arith, rules}
use Rattle.std.proofs.lemmas.Grind.{common_steps}
use Rattle.std.proofs.lemmas.List.Recursion.{max_bounds, max_least}
use Rattle.ranking.specs.Items.{none}
use Rattle.ranking.specs.Rotation.{greatest}
use Rattle.ranking.proofs.top_rank.Goals as goal

pub returns : goal.returns
returns c =
    let bounds = max_bounds greatest (λ x. x.rank) refl (λ _ _. refl) c.args.items.now in
    let least = max_least greatest (λ x. x.rank) refl (λ _ _. refl) c.args.items.now none c.unwrap_or.result (search rules) in
    grind (arith, common_steps, bounds, least)
