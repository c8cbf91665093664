use Rattle.std.proofs.Common.{rules}
use lib.Seq.{take-set-lt}
use Rattle.case.proofs.case.Case.step.Goals as goal

pub returns-in_ok-may_fire-in-Some-Fire-default-Assign-default-clause-after : goal.returns-in_ok-may_fire-in-Some-Fire-default-Assign-default-clause-after
returns-in_ok-may_fire-in-Some-Fire-default-Assign-default-clause-after c = search (rules, take-set-lt)
