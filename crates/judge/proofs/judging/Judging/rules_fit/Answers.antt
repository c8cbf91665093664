use Rattle.std.proofs.Common.{rules, tests}
use Rattle.std.proofs.lemmas.Iterator.{YieldsList-from_slice}
use Rattle.std.proofs.lemmas.Iterator.Search.{all_from_yields_List}
use Rattle.automaton.specs.declared.rule.Rule.{Rule}
use Rattle.judge.proofs.Words.{all_from_list}
use Rattle.judge.specs.Judged.{action_fits}
use Rattle.judge.specs.Judgings.{claim_of}
use Rattle.judge.proofs.judging.Judging.rules_fit.Goals as goal

pub returns : goal.returns
returns g c =
    let z = claim_of g.A.Abstraction.answers c.args.self.now in
    all_from_list (λ (r : Rule). action_fits z r.interval r.action) z.automaton.rules _ (all_from_yields_List (λ (r : Rule). action_fits z r.interval r.action) _ _ _ c.all.ensures.ran (YieldsList-from_slice z.automaton.rules (search rules)) (λ x b q k. search (rules, tests)))
