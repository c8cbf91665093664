use Rattle.std.proofs.Common.{◌≡◌, true, false, sym, ap, ◌∙◌, arith}
use Rattle.std.proofs.lemmas.Result.{err_from_is_err_and}
use Rattle.token.specs.Tokens.{at, gives}
use Rattle.token.specs.Grammar.{comma_due}
use Rattle.token.specs.Falls.{comma_falls}
use Rattle.text.proofs.Items.{refused, cut, closed, goes}
use Rattle.text.proofs.rows.Rows.rows_on.Goals as goal

pub returns-in_err-ask : goal.returns-in_err-ask
returns-in_err-ask g c =
    let p = err_from_is_err_and c.from_residual.result c.from_residual.ensures.1 in
    rw (p.1, p.2) (refused _ g.R.Row.falls _ _ _ _ c.loop-ask.invariant.0 _ _ _ _ c.in_err-ask.ensures)

pub returns-in_err-comma : goal.returns-in_err-comma
returns-in_err-comma g c =
    let p = err_from_is_err_and c.from_residual-in_err-comma.result c.from_residual-in_err-comma.ensures.1 in
    rw (p.1, p.2) (cut _ g.R.Row.falls _ _ _ _ c.loop-ask.invariant.0 _ _ c.in_ok-ask.ensures _ _ _ _ c.in_err-comma.ensures.reads)

pub returns-then-not-branch : goal.returns-then-not-branch
returns-then-not-branch g c =
    let over : gives false (at c.comma.new.self) ≡ comma_due 93 (at c.read.new.reader) = ap (λ b. gives b (at c.comma.new.self)) (sym c.if-not-branch.true) ∙ c.in_ok-comma.ensures.reads in
    rw c.push_reserved.ensures.items (closed _ g.R.Row.falls _ _ _ _ c.loop-ask.invariant.0 _ _ c.in_ok-ask.ensures _ over)

pub loop-ask-preserved : goal.loop-ask-preserved
loop-ask-preserved g c =
    let on : gives true (at c.comma.new.self) ≡ comma_due 93 (at c.read.new.reader) = ap (λ b. gives b (at c.comma.new.self)) (sym c.if-not-branch.false) ∙ c.in_ok-comma.ensures.reads in (
      rw c.push_reserved.ensures.items (goes _ g.R.Row.falls _ _ _ _ c.loop-ask.invariant.0 _ _ c.in_ok-ask.ensures _ on),
      omega (arith, c.loop-ask.invariant.1, c.push_reserved.ensures.len, g.R.Row.falls (at c.loop-ask.reader) (at c.read.new.reader) c.in_ok-ask.ask c.in_ok-ask.ensures, comma_falls 93 (at c.read.new.reader) (at c.comma.new.self) c.in_ok-comma.field-0 c.in_ok-comma.ensures.reads),
    )
