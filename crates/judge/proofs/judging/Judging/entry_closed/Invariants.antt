use Rattle.std.proofs.Common.{◌≡◌, drop}
use Rattle.abstraction.specs.Lists.{first}
use Rattle.judge.specs.Judged.{return_fault, returns_fault}
use Rattle.judge.specs.Judgings.{claim_of}
use Rattle.judge.specs.Marks.{Marked}
use Rattle.judge.proofs.judging.Judging.entry_closed.Given as goal

abbrev pub invariant-loop-i : goal.invariant-loop-i
invariant-loop-i g l = Marked (claim_of g.A.Abstraction.answers l.self) l.e l.i l.marks

abbrev pub invariant-loop-j : goal.invariant-loop-j
invariant-loop-j g l = let z = claim_of g.A.Abstraction.answers l.self in returns_fault z l.k l.e ≡ first (return_fault z l.k l.e) l.j (drop l.j z.table)
