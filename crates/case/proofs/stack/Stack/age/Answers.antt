use Rattle.std.proofs.Common.{◌≡◌, ◌+◌, true, map, reverse, get_or, sym, ap, ◌∙◌, arith, rules}
use Rattle.std.specs.List.{list_all}
use Rattle.std.proofs.lemmas.Bool.{leb-true}
use Rattle.std.proofs.lemmas.List.{with_items_is}
use Rattle.std.proofs.lemmas.List.Edits.{map_over_more}
use Rattle.automaton.specs.Runs.{older}
use Rattle.automaton.specs.declared.rule.Symbol.{Symbol}
use Rattle.automaton.proofs.InPlace.{map_over_all}
use Rattle.case.specs.Steps.{age_fits, limit}
use Rattle.case.proofs.Stacks.{all_reverse, map_reverse, holds_here}
use Rattle.case.proofs.stack.Stack.age.Goals as goal

pub overflow_add-s : goal.overflow_add-s
overflow_add-s c =
    let d = c.args.units in
    let ys = c.loop-s.s-items in
    let i = c.loop-s.s-index in
    let none : Symbol = record { label = 0; age = 0 } in
    let lent = c.deref_mut-s-items in
    let fit : list_all (age_fits d) lent.result.now ≡ true =
    ap (list_all (age_fits d)) lent.ensures.value ∙ sym (all_reverse (age_fits d) c.args.self.now.symbols.items) ∙ c.requires in
    omega (arith, leb-true ((get_or ys i none).age + d) limit (holds_here (age_fits d) (older d) lent.result.now ys i none c.loop-s-test.true c.loop-s.invariant fit))

pub loop-s-preserved : goal.loop-s-preserved
loop-s-preserved c = search (rules, map_over_more (older c.args.units))

pub returns : goal.returns
returns c =
    let d = c.args.units in
    let lent = c.deref_mut-s-items in
    let v = c.args.self.now.symbols in
    ap reverse (with_items_is v c.loop-s.s-items (omega arith))
    ∙ ap reverse (map_over_all (older d) lent.result.now c.loop-s.s-items c.loop-s.s-index (omega arith) c.loop-s.invariant)
    ∙ map_reverse (older d) lent.result.now
    ∙ ap (λ ss. map (older d) (reverse ss)) lent.ensures.value
