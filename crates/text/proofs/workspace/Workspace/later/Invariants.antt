use Rattle.std.proofs.Common.{◌+◌, ◌≤◌, map, vec_items, vec_len}
use Rattle.fault.specs.Faults.{outcome}
use Rattle.token.specs.Tokens.{at}
use Rattle.token.specs.Grammar.{size}
use Rattle.case.specs.Views.{view}
use Rattle.text.proofs.Later.{Saying}
use Rattle.text.proofs.workspace.Workspace.later.Given as goal

abbrev pub invariant-loop-self : goal.invariant-loop-self
invariant-loop-self l = Saying (map outcome (vec_items l.initial.self.answers)) (view l.initial.self.case) (at l.initial.reader) (map outcome (vec_items l.self.answers)) (view l.self.case) (at l.reader) × (vec_len l.self.answers + size (at l.reader) ≤ 65536)

abbrev pub decreases-loop-self : goal.decreases-loop-self
decreases-loop-self l = size (at l.reader)
