use Rattle.std.proofs.Common.{◌≡◌, Some, sym, ◌∙◌, arith}
use Rattle.ranking.specs.Close.{next_rank}
use Rattle.ranking.proofs.Next.{found_some, steps_next, steps_over, steps_end}
use Rattle.ranking.proofs.ranks_to.Goals as goal

found : (c : goal.Else-next-rank) → next_rank c.args.items.now c.loop-next.at ≡ Some c.in-Some.next
found c = sym c.next_rank.ensures ∙ c.in-Some.is

pub returns-then-next-rank : goal.returns-then-next-rank
returns-then-next-rank c =
    omega (arith, steps_over c.args.items.now c.loop-next.at c.in-Some.next c.args.rank (sym c.next_rank.ensures ∙ c.in-Some.is) c.loop-next.invariant.2 c.if-next-rank.true)

pub overflow_add-count : goal.overflow_add-count
overflow_add-count c = omega (arith, (found_some c.args.items.now c.loop-next.at c.in-Some.next (found c)).0)

pub loop-next-smaller : goal.loop-next-smaller
loop-next-smaller c = omega (arith, (found_some c.args.items.now c.loop-next.at c.in-Some.next (found c)).0)

pub loop-next-preserved : goal.loop-next-preserved
loop-next-preserved c = (
  omega (arith, steps_next c.args.items.now c.loop-next.at c.in-Some.next (found c)),
  omega (arith, (found_some c.args.items.now c.loop-next.at c.in-Some.next (found c)).0),
  c.if-next-rank.false,
)

pub returns : goal.returns
returns c = omega (arith, steps_end c.args.items.now c.loop-next.at c.args.rank (sym c.next_rank.ensures ∙ c.in_default.is) c.loop-next.invariant.2)
