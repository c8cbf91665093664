use Rattle.std.proofs.Common.{◌≡◌, map, length, take}
use Rattle.case.specs.Views.{view}
use Rattle.case.specs.History.{noted, calls, AllCarry, Played}
use Rattle.case.proofs.history.play.Given as goal

abbrev pub invariant-loop-t : goal.invariant-loop-t
invariant-loop-t g l =
    Played (AllCarry g.A.Abstraction.answers g.A.Abstraction.meaning (calls l.initial.turns)) (view l.initial.case) (map (noted g.A.Abstraction.answers (length l.initial.scratch)) (take l.t-index l.turns)) (view l.case)
    × (calls l.turns ≡ calls l.initial.turns)
    × (length l.scratch ≡ length l.initial.scratch)
