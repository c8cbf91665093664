use Rattle.std.proofs.Common.{◌+◌, sym, ap, ◌∙◌, subst}
use Rattle.automaton.specs.Lawful.{all_lawful}
use Rattle.automaton.specs.Insert.{SameReach}
use Rattle.automaton.specs.Models.{automaton}
use Rattle.automaton.proofs.Lawfully.{all_clocked, more_clocks, lawful_raised}
use Rattle.automaton.proofs.Simulate.{same_reach}
use Rattle.automaton.proofs.model.Model.insert.Goals as goal

pub raise-requires : goal.raise-requires
raise-requires c = let m = c.args.self.now in all_clocked m.sizes 3 m.rules.items.items m.timed m.lawful

pub invariant_of-self-clause-lawful : goal.invariant_of-self-clause-lawful
invariant_of-self-clause-lawful c =
    let m = c.args.self.now in
    ap (all_lawful (more_clocks m.sizes)) c.raise.ensures.items ∙ lawful_raised c.args.place m.sizes m.rules.items.items m.lawful

pub returns-clause-same : goal.returns-clause-same
returns-clause-same c =
    let m = automaton c.args.self.now in
    let e = ap (λ rs. record { states = m.states; labels = m.labels; clocks = m.clocks + 1; start = m.start; target = m.target; rules = rs }) c.raise.ensures.items in
    subst (SameReach m) (sym e) (same_reach m c.args.place c.if-place-self.false)
