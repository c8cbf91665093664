use Rattle.case.specs.Views.{view}
use Rattle.case.proofs.Past.{segment_same, segment_played}
use Rattle.case.proofs.history.ThenCalls.make.Goals as goal

pub returns : goal.returns
returns g c =
    record {
      played = segment_played g.A.Abstraction.answers _ _ _ _ c.play.new.turns _ _ (view c.play.new.case) _ c.play.ensures.room c.play.ensures.played c.make-rest.ensures.played;
      same = segment_same g.A.Abstraction.answers _ _ _ c.play.new.turns _ _ c.play.ensures.room c.play.ensures.same c.make-rest.ensures.same;
    }
