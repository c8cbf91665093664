use Rattle.std.proofs.Common.{arith}
use Rattle.token.specs.Tokens.{at}
use Rattle.text.proofs.Shrinks.{model_falls}
use Rattle.text.proofs.workspace.Workspace.objects.Goals as goal

pub later-requires : goal.later-requires
later-requires c = omega (arith, c.requires, c.push_reserved.ensures.len, model_falls (at c.args.reader.now) (at c.model.new.reader) _ c.in_ok-model.ensures)
