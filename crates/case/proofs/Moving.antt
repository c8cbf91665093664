use Rattle.std.proofs.Common.{◌≡◌, ℕ, zero, suc, ◌≤◌, List, [], take, replicate, refl, ap, ◌∙◌, arith}
use Rattle.automaton.specs.declared.rule.Symbol.{Symbol}
use Rattle.case.specs.Views.{View}
use Rattle.case.specs.Calls.{moved, start_of}

take_zeros : (n : ℕ) → n ≤ 3 → take {A = ℕ} n (replicate 3 0) ≡ replicate n 0
take_zeros zero h = refl
take_zeros (suc zero) h = refl
take_zeros (suc (suc zero)) h = refl
take_zeros (suc (suc (suc zero))) h = refl
take_zeros (suc (suc (suc (suc n)))) h = absurd (omega arith)

-- beginning a run
pub begins_at : (w : View) (D q : ℕ) → w.model.clocks ≤ 3 → (ss : List Symbol) → q ≡ w.model.start → ss ≡ [] → moved w D (record { state = q; clocks = take w.model.clocks (replicate 3 0); stack = ss }) ≡ moved w D (start_of w.model)
begins_at w D q h ss e f =
    ap (λ s. moved w D (record { state = s; clocks = take w.model.clocks (replicate 3 0); stack = ss })) e
    ∙ ap (λ xs. moved w D (record { state = w.model.start; clocks = xs; stack = ss })) (take_zeros w.model.clocks h)
    ∙ ap (λ ts. moved w D (record { state = w.model.start; clocks = replicate w.model.clocks 0; stack = ts })) f
