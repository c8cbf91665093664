use Rattle.std.proofs.Common.{◌≡◌, ℕ, ◌+◌, sym, ap, ◌∙◌, add-one}
use Rattle.ranking.specs.Joined.{repeat}

-- one more turn of a loop
pub repeat_more : {X : Type 0} (n : ℕ) (f : ℕ → X → X) (x y z : X) → y ≡ repeat n f x → z ≡ f n y → z ≡ repeat (n + 1) f x
repeat_more n f x y z e h = h ∙ ap (f n) e ∙ ap (λ k. repeat k f x) (sym (add-one n))
