use Rattle.std.proofs.Common.{false, true, length, Some, None, sym, refl, ap, ◌∙◌, rules}
use Rattle.fault.specs.Faults.Outcome.{refused}
use Rattle.fault.specs.declared.Layer.TheVariants.{Evidence}
use Rattle.judge.specs.Judgings.{claim_of}
use Rattle.judge.proofs.Spots.{lawful_at, target_at, judged_by}
use Rattle.judge.proofs.Verdict.{rooted_from}
use Rattle.judge.proofs.judging.Judging.verdict.Goals as goal

pub returns-in-Some : goal.returns-in-Some
returns-in-Some g c =
    let z = claim_of g.A.Abstraction.answers c.args.self.now in
    ap (refused 19 Evidence) c.at-in-Some.ensures ∙ sym (judged_by z (length c.args.scratch.now) _ _ _ _ (search rules) (lawful_at z _ (Some c.in-Some.k) c.unlawful.ensures c.in-Some.is) refl refl refl)

pub returns-then-not-table_begins : goal.returns-then-not-table_begins
returns-then-not-table_begins g c =
    let z = claim_of g.A.Abstraction.answers c.args.self.now in
    ap (refused 20 Evidence) c.at-then-not-table_begins.ensures ∙ sym (judged_by z (length c.args.scratch.now) _ _ _ false (search rules) (lawful_at z _ None c.unlawful.ensures (search rules)) (search rules) refl refl)

pub returns-in-Some-in_target : goal.returns-in-Some-in_target
returns-in-Some-in_target g c =
    let z = claim_of g.A.Abstraction.answers c.args.self.now in
    ap (refused 21 Evidence) c.at-in-Some-in_target.ensures ∙ sym (judged_by z (length c.args.scratch.now) _ _ _ true (search rules) (lawful_at z _ None c.unlawful.ensures (search rules)) (search rules) (target_at z _ (Some c.in-Some-in_target.k) c.in_target.ensures c.in-Some-in_target.is) refl)

pub closed-requires : goal.closed-requires
closed-requires g c =
    let z = claim_of g.A.Abstraction.answers c.args.self.now in
    (rooted_from z (lawful_at z _ None c.unlawful.ensures (search rules)), search rules)

pub returns-in-Err : goal.returns-in-Err
returns-in-Err g c =
    let z = claim_of g.A.Abstraction.answers c.args.self.now in
    sym (judged_by z (length c.args.scratch.now) _ _ (Some c.in-Err.place) true (search rules) (lawful_at z _ None c.unlawful.ensures (search rules)) (search rules) (target_at z _ None c.in_target.ensures (search rules)) (search rules))

pub returns-in_default-closed : goal.returns-in_default-closed
returns-in_default-closed g c =
    let z = claim_of g.A.Abstraction.answers c.args.self.now in
    sym (judged_by z (length c.args.scratch.now) _ _ None true (search rules) (lawful_at z _ None c.unlawful.ensures (search rules)) (search rules) (target_at z _ None c.in_target.ensures (search rules)) (search rules))
