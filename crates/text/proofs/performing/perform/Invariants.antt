use Rattle.std.proofs.Common.{◌≡◌, drop}
use Rattle.case.specs.Views.{view}
use Rattle.text.specs.Calls.{said_from, case_from}
use Rattle.text.proofs.performing.perform.Given as goal

abbrev pub invariant-loop-i : goal.invariant-loop-i
invariant-loop-i l = (said_from l.i-counter (drop l.i-counter l.asks) (view l.case) ≡ said_from 0 l.asks (view l.initial.case)) × (case_from (drop l.i-counter l.asks) (view l.case) ≡ case_from l.asks (view l.initial.case))
