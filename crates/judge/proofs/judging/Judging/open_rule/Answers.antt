use Rattle.std.proofs.Common.{◌≡◌, not, rules}
use Rattle.judge.proofs.Kept.{position_kept}
use Rattle.judge.specs.Judged.{rule_closed}
use Rattle.judge.specs.Judgings.{claim_of}
use Rattle.judge.proofs.judging.Judging.open_rule.Goals as goal

pub returns : goal.returns
returns g c =
    let z = claim_of g.A.Abstraction.answers c.args.self.now in
    position_kept (λ r. not (rule_closed z c.args.e r)) (λ f. (f.0.now ≡ c.args.self.now) × (f.1.now ≡ c.args.e)) (λ f x b q i k. search rules) z.automaton.rules (search rules) (search rules) c.position.ensures.ran
