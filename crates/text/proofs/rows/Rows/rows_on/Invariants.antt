use Rattle.std.proofs.Common.{◌+◌, ◌≤◌, vec_items, vec_len}
use Rattle.token.specs.Tokens.{at}
use Rattle.token.specs.Grammar.{size}
use Rattle.text.proofs.Items.{Going}
use Rattle.text.proofs.rows.Rows.rows_on.Given as goal

abbrev pub invariant-loop-ask : goal.invariant-loop-ask
invariant-loop-ask g l = Going g.R.Row.due (vec_items l.initial.self.asks) (at l.initial.reader) (vec_items l.self.asks) (at l.reader) × (vec_len l.self.asks + size (at l.reader) ≤ 65536)

abbrev pub decreases-loop-ask : goal.decreases-loop-ask
decreases-loop-ask g l = size (at l.reader)
