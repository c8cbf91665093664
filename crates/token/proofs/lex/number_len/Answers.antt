use Rattle.token.proofs.Longest.{parts_len}
use Rattle.token.proofs.lex.number_len.Goals as goal

pub returns-clause-value : goal.returns-clause-value
returns-clause-value c = parts_len _ _ _ _ c.sign_len-sign.ensures.value c.in_ok-whole.ensures.value c.tail_len.ensures.value
