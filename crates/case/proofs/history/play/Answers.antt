use Rattle.std.proofs.Common.{◌<◌, length, refl, ◌∙◌, arith}
use lib.Seq.{map-set_same}
use Rattle.case.specs.Views.{view}
use Rattle.case.proofs.Past.{plays_more}
use Rattle.case.proofs.history.play.Goals as goal

pub loop-t-preserved : goal.loop-t-preserved
loop-t-preserved g c =
    let h : c.loop-t.t-index < length c.loop-t.turns = omega arith in
    let i = c.loop-t.invariant in (
      plays_more g.A.Abstraction.answers g.A.Abstraction.meaning c.args.turns.now c.loop-t.turns _ (view c.loop-t.case) _ c.loop-t.t-index _ _ c.t-item.result _ h i.1 i.2 i.0 c.make.ensures.made,
      map-set_same (λ t. t.call) c.loop-t.turns c.loop-t.t-index _ c.t-item.result refl ∙ i.1,
      c.make.ensures.room ∙ i.2,
    )
