use Rattle.std.proofs.Common.{◌≡◌, sym, ap, ◌∙◌, rules}
use Rattle.automaton.specs.Edits.{settle, done}
use Rattle.case.specs.Views.{view, stacked}
use Rattle.case.specs.Calls.{begin_check, moved, start_of}
use Rattle.case.proofs.Moving.{begins_at}
use Rattle.case.proofs.Transitions.{begins}
use Rattle.case.proofs.case.Case.begin.Goals as goal

pub returns-clause-after : goal.returns-clause-after
returns-clause-after c =
    let self = c.args.self.now in
    let w = view self in
    let D = c.args.scale in
    let passed : begin_check D ≡ done = search rules in
    ap view c.arrive.ensures.stood
    ∙ begins_at w D c.start-state.result self.model.timed (stacked c.clear.new.self) c.start-state.ensures c.clear.ensures
    ∙ sym (ap (λ o. settle o (moved w D (start_of w.model)) w) passed)

pub returns-clause-law : goal.returns-clause-law
returns-clause-law c =
    let w = view c.args.self.now in
    begins c.args.scale w _ _ (search rules) (returns-clause-after c)
