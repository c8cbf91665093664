use Rattle.std.proofs.Common.{rules}
use Rattle.token.specs.Tokens.{at}
use Rattle.token.proofs.Values.{reads_plain}
use Rattle.token.proofs.reader.Reader.number.Goals as goal

pub returns-in-Number-clause-plain : goal.returns-in-Number-clause-plain
returns-in-Number-clause-plain c = reads_plain _ _ c.ok_or.result (at c.next.new.self) (search rules)
