use Rattle.std.proofs.Common.{ap, rules}
use Rattle.abstraction.specs.Room.{shapes}
use Rattle.merging.specs.Pop.{finished}
use Rattle.merging.proofs.Joins.{all_three}
use Rattle.merging.proofs.+merge.Goals as goal
use Rattle.merging.proofs.+merge.Goals.{then-alone-3, else-alone-3, then-alone-4, else-alone-4}

pub returns-then-meet : goal.returns-then-meet
returns-then-meet t c =
    all_three (finished c.args.draft.scope c.args.draft.frame) c.args.ties.now c.args.key c.args.draft.keys c.args.left.now c.args.right.now c.in-Some-Some.l.now c.in-Some-Some.r.now c.in-Some-Some.ls.now c.in-Some-Some.rs.now
    (shapes c.args.out.now) (shapes c.if-alone-3.out) (shapes c.if-alone-4.out) (shapes c.merge-then-meet.new.out)
    c.in-Some-Some.ensures.cases.0 c.in-Some-Some.ensures'.cases.0
    (elim c.if-alone-3.branch [
      | then-alone-3 w ↦ rw (ap shapes w.out-is) (search rules)
      | else-alone-3 w ↦ rw (ap shapes w.out-is) (search rules)
    ])
    (elim c.if-alone-4.branch [
      | then-alone-4 w ↦ rw (ap shapes w.out-is) (search rules)
      | else-alone-4 w ↦ rw (ap shapes w.out-is) (search rules)
    ])
    (search rules)

pub returns-else-meet : goal.returns-else-meet
returns-else-meet t c =
    all_three (finished c.args.draft.scope c.args.draft.frame) c.args.ties.now c.args.key c.args.draft.keys c.args.left.now c.args.right.now c.in-Some-Some.l.now c.in-Some-Some.r.now c.in-Some-Some.ls.now c.in-Some-Some.rs.now
    (shapes c.args.out.now) (shapes c.if-alone-3.out) (shapes c.if-alone-4.out) (shapes c.if-alone-4.out)
    c.in-Some-Some.ensures.cases.0 c.in-Some-Some.ensures'.cases.0
    (elim c.if-alone-3.branch [
      | then-alone-3 w ↦ rw (ap shapes w.out-is) (search rules)
      | else-alone-3 w ↦ rw (ap shapes w.out-is) (search rules)
    ])
    (elim c.if-alone-4.branch [
      | then-alone-4 w ↦ rw (ap shapes w.out-is) (search rules)
      | else-alone-4 w ↦ rw (ap shapes w.out-is) (search rules)
    ])
    (search rules)
