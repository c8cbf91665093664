use Rattle.std.proofs.Common.{ap, arith}
use Rattle.token.specs.Tokens.{at}
use Rattle.token.specs.Grammar.{size}
use Rattle.token.specs.Falls.{mark_falls}
use Rattle.text.proofs.Bound.{few_tokens}
use Rattle.text.proofs.Shrinks.{past_stays}
use Rattle.text.proofs.workspace.Workspace.read.Goals as goal

pub objects-requires : goal.objects-requires
objects-requires c =
    omega (
      arith,
      few_tokens c.args.text.now _ c.in_ok-admit.ensures,
      ap size c.new-reader.ensures.reads,
      c.requires.zero,
      mark_falls 91 (at c.new-reader.result) (at c.mark.new.self) _ c.in_ok-mark.ensures.reads,
      past_stays 93 (at c.mark.new.self),
      ap size c.passes.ensures.after,
    )
