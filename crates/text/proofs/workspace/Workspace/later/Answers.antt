use Rattle.std.proofs.Common.{◌≡◌, true, false, sym, ap, ◌∙◌, arith}
use Rattle.std.proofs.lemmas.Result.{err_from_is_err_and}
use Rattle.token.specs.Tokens.{at, gives}
use Rattle.token.specs.Grammar.{comma_due}
use Rattle.token.specs.Falls.{comma_falls}
use Rattle.text.proofs.Shrinks.{run_falls}
use Rattle.text.proofs.Later.{cut, broken, over, turn}
use Rattle.text.proofs.workspace.Workspace.later.Goals as goal

pub returns-in_err-comma-clause-says : goal.returns-in_err-comma-clause-says
returns-in_err-comma-clause-says c =
    let p = err_from_is_err_and c.from_residual.result c.from_residual.ensures.1 in
    rw (p.1, p.2) (cut _ _ _ _ _ _ c.loop-self.invariant.0 _ _ _ _ c.in_err-comma.ensures.reads)

pub returns-in_err-run-clause-says : goal.returns-in_err-run-clause-says
returns-in_err-run-clause-says c =
    let p = err_from_is_err_and c.from_residual-in_err-run.result c.from_residual-in_err-run.ensures.1 in
    let on : gives true (at c.comma.new.self) ≡ comma_due 93 (at c.loop-self.reader) = ap (λ b. gives b (at c.comma.new.self)) (sym c.if-branch.true) ∙ c.in_ok-comma.ensures.reads in
    rw (p.1, p.2) (broken _ _ _ _ _ _ c.loop-self.invariant.0 _ on _ _ _ _ c.in_err-run.ensures)

pub loop-self-smaller : goal.loop-self-smaller
loop-self-smaller c = omega (arith, comma_falls 93 (at c.loop-self.reader) (at c.comma.new.self) _ c.in_ok-comma.ensures.reads, run_falls (at c.comma.new.self) (at c.run.new.reader) _ c.in_ok-run.ensures)

pub loop-self-preserved : goal.loop-self-preserved
loop-self-preserved c =
    let on : gives true (at c.comma.new.self) ≡ comma_due 93 (at c.loop-self.reader) = ap (λ b. gives b (at c.comma.new.self)) (sym c.if-branch.true) ∙ c.in_ok-comma.ensures.reads in
    let less = comma_falls 93 (at c.loop-self.reader) (at c.comma.new.self) true on in
    let lesser = run_falls (at c.comma.new.self) (at c.run.new.reader) _ c.in_ok-run.ensures in (
      turn _ _ _ _ _ _ c.loop-self.invariant.0 _ on _ _ c.in_ok-run.ensures _ c.deref.ensures.value _ c.perform-answer.ensures.answer _ c.perform-answer.ensures.after _ c.push_reserved.ensures.items,
      omega (arith, c.loop-self.invariant.1, c.push_reserved.ensures.len, less, lesser),
    )

pub returns-clause-says : goal.returns-clause-says
returns-clause-says c =
    let off : gives false (at c.comma.new.self) ≡ comma_due 93 (at c.loop-self.reader) = ap (λ b. gives b (at c.comma.new.self)) (sym c.if-branch.false) ∙ c.in_ok-comma.ensures.reads in
    over _ _ _ _ _ _ c.loop-self.invariant.0 _ off c.end.result _ c.end.ensures.reads
