use Rattle.token.proofs.Going.{white_left}
use Rattle.token.proofs.reader.Reader.at_end.Goals as goal

pub returns : goal.returns
returns c = white_left _ _ _ c.start.ensures.value c.args.self.now.within c.start.ensures.within
