use Rattle.std.proofs.Common.{arith}
use Rattle.token.specs.Tokens.{at}
use Rattle.text.proofs.Shrinks.{opening_falls}
use Rattle.text.proofs.rows.Rows.model.Goals as goal

pub object-requires : goal.object-requires
object-requires c = omega (arith, opening_falls (at c.args.reader.now) (at c.opening.new.reader) c.in_ok-opening.opening c.in_ok-opening.ensures)
