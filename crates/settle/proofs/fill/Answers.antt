use Rattle.std.proofs.Common.{◌-◌, ◌<◌, ◌++◌, length, take, ap, ◌∙◌, subst, le_refl, length-take-le, append-nil, arith}
use Rattle.std.proofs.lemmas.Slice.{take-put_mid_below}
use Rattle.std.specs.Io.KnownBytes.{Consumes}
use Rattle.std.proofs.KnownBytes.{Consumes-nil, Consumes-trans}
use Rattle.settle.proofs.Cut.{cut, filled}
use Rattle.settle.proofs.fill.Goals as goal

pub loop-n-init : goal.loop-n-init
loop-n-init g c = (omega arith, Consumes-nil _)

pub loop-n-preserved : goal.loop-n-preserved
loop-n-preserved g c =
    let read = c.in_ok-more.ensures in
    (omega (arith, read.bound.0), subst (Consumes _ _) (filled c.loop-n.text c.read.new.buf c.loop-n.n c.in_ok-more.more c.loop-n.invariant.0 read.bound.0) (Consumes-trans _ _ _ _ _ c.loop-n.invariant.1 read.bytes.0))

pub returns-after-loop-n-clause-bytes : goal.returns-after-loop-n-clause-bytes
returns-after-loop-n-clause-bytes g c =
    let long = length-take-le c.loop-n.n c.loop-n.text c.loop-n.invariant.0 in
    cut _ _ _ _ c.loop-n.invariant.1 (omega (arith, c.loop-n.auto.text)) (λ lt. absurd (omega (arith, c.loop-n.auto.text, c.loop-n-test.false)))

pub returns-then-more-eq0-clause-bytes : goal.returns-then-more-eq0-clause-bytes
returns-then-more-eq0-clause-bytes g c =
    let read = c.in_ok-more.ensures in
    let none = c.if-more-eq0.true in
    let front = take-put_mid_below c.loop-n.n (length c.loop-n.text - c.loop-n.n) c.loop-n.text c.read.new.buf c.loop-n.n (le_refl _) c.loop-n.invariant.0 in
    let long = length-take-le c.loop-n.n c.loop-n.text c.loop-n.invariant.0 in
    let some : 0 < length c.read.new.buf = omega (arith, c.loop-n-test.true, c.read.auto.buf) in
    let taken : Consumes _ _ (take c.loop-n.n c.loop-n.text) = subst (Consumes _ _) (ap (λ l. take c.loop-n.n c.loop-n.text ++ l) (ap (λ k. take k c.read.new.buf) none) ∙ append-nil _) (Consumes-trans _ _ _ _ _ c.loop-n.invariant.1 read.bytes.0) in
    rw front (cut _ _ _ _ taken (omega (arith, c.loop-n.auto.text)) (λ lt. read.bytes.1 none some))
