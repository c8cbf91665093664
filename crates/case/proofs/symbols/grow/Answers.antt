use Rattle.std.proofs.Common.{◌+◌, get_or, arith, rules}
use Rattle.std.proofs.lemmas.Bool.{leb-true}
use Rattle.std.proofs.lemmas.List.Edits.{map_over_more}
use Rattle.case.specs.Steps.{clock_fits, limit}
use Rattle.case.proofs.Stacks.{holds_here}
use Rattle.case.proofs.symbols.grow.Goals as goal

pub overflow_add-x : goal.overflow_add-x
overflow_add-x c =
    let d = c.args.units in
    let ys = c.loop-x.clocks in
    let i = c.loop-x.x-index in
    omega (arith, leb-true (get_or ys i 0 + d) limit (holds_here (clock_fits d) (λ y. y + d) c.args.clocks.now ys i 0 c.loop-x-test.true c.loop-x.invariant c.requires))

pub loop-x-preserved : goal.loop-x-preserved
loop-x-preserved c = search (rules, map_over_more (λ x. x + c.args.units))
