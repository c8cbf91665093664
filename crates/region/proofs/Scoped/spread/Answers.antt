use Rattle.std.proofs.Common.{◌≡◌, ℕ, ◌<◌, length, map, get_or, ap, ◌∙◌, sym, arith, rules}
use Rattle.std.proofs.lemmas.List.{ext_get_or, length-map, get_or-map}
use Rattle.ranking.specs.Items.{none, with_items}
use Rattle.region.specs.Listed.{doubled}
use Rattle.region.proofs.Scoped.spread.Goals as goal

pub returns-clause-region : goal.returns-clause-region
returns-clause-region c =
    let xs = c.args.self.region.items in
    let ys = c.map.result in
    let full : length xs ≡ 9 = search rules in
    let long : length ys ≡ 9 = search rules in
    let each : (i : ℕ) → i < 9 → get_or ys i none ≡ doubled (get_or xs i none) = λ i lt. let k = (c.map.ensures.items.at i none none (search rules)).2 in search rules in
    ap with_items (ext_get_or none ys (map doubled xs) (omega (arith, length-map xs doubled)) (λ i lt. each i (omega arith) ∙ sym (get_or-map doubled xs i none none (omega arith))))
