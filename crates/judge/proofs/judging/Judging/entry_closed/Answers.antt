use Rattle.std.proofs.Common.{◌≡◌, ◌<◌, length, sym, ap, ◌∙◌, Some, None, inl, inr, rules}
use Rattle.abstraction.proofs.Walk.{first_on, first_off, first_end}
use Rattle.judge.specs.Judged.{return_fault}
use Rattle.judge.specs.Judgings.{claim_of}
use Rattle.judge.proofs.Spots.{past_rules, at_a_rule, at_a_pop, no_pop}
use Rattle.judge.proofs.judging.Judging.entry_closed.Goals as goal
use Rattle.judge.proofs.judging.Judging.entry_closed.Goals.{else-opened-via-else-opened, else-opened-via-then-opened+in-None-1}

pub returns-in-Some : goal.returns-in-Some
returns-in-Some g c =
    ap Some c.at-in-Some.ensures ∙ sym (at_a_rule (claim_of g.A.Abstraction.answers c.args.self.now) c.args.k c.args.e _ c.in-Some.n (search rules) c.open_rule.ensures c.in-Some.is)

pub returns-in-loop-j : goal.returns-in-loop-j
returns-in-loop-j g c =
    let z = claim_of g.A.Abstraction.answers c.args.self.now in
    let k = c.args.k in
    let e = c.args.e in
    let j = c.loop-j.j in
    let u = c.u-item.result in
    let r : u.root < length z.table = search rules in
    let f = at_a_pop z k e j u _ c.in-Some-open_pop.n (search rules) c.open_pop.ensures c.in-Some-open_pop.is in
    ap Some c.at-in-loop-j.ensures ∙ sym (past_rules z k e _ (search rules) c.open_rule.ensures (search rules) ∙ c.loop-j.invariant ∙ first_off (return_fault z k e) z.table j u _ c.loop-j-test.true c.u-item.is f)

pub loop-j-preserved : goal.loop-j-preserved
loop-j-preserved g c =
    let z = claim_of g.A.Abstraction.answers c.args.self.now in
    let k = c.args.k in
    let e = c.args.e in
    let j = c.loop-j.j in
    let u = c.u-item.result in
    let r : u.root < length z.table = search rules in
    let n : return_fault z k e j u ≡ None = elim c.else-opened.branch [
      | else-opened-via-else-opened w ↦ no_pop z k e j u None (inl (search rules))
      | else-opened-via-then-opened+in-None-1 w ↦ no_pop z k e j u w.open_pop.result (inr (w.open_pop.ensures, search rules))
    ] in
    c.loop-j.invariant ∙ first_on (return_fault z k e) z.table j u c.loop-j-test.true c.u-item.is n

pub returns : goal.returns
returns g c =
    let z = claim_of g.A.Abstraction.answers c.args.self.now in
    let k = c.args.k in
    let e = c.args.e in
    sym (past_rules z k e _ (search rules) c.open_rule.ensures (search rules) ∙ c.loop-j.invariant ∙ first_end (return_fault z k e) z.table c.loop-j.j c.loop-j-test.false)
