use Rattle.std.proofs.Common.{refl}
use Rattle.token.proofs.Layouts.{as_laid_out, was_laid_out}
use Rattle.token.proofs.reader.Reader.new.Goals as goal

pub returns-clause-laid : goal.returns-clause-laid
returns-clause-laid c = as_laid_out _ _ refl

pub returns-clause-only : goal.returns-clause-only
returns-clause-only c = was_laid_out _ _ refl
