use Rattle.std.proofs.Common.{◌≡◌, ℕ, ◌+◌, List, sym, ap, ◌∙◌, add-one}
use Rattle.abstraction.specs.declared.scope.Scope.{Scope}
use Rattle.ranking.specs.declared.Item.{Item}
use Rattle.ranking.specs.declared.Region.{Region}
use Rattle.ranking.specs.Items.{ceiling}
use Rattle.ranking.specs.Rotation.{rotated, turns}
use Rattle.merging.specs.Pop.{here, join_all, tried}

-- one rotation more
pub next_turn : (w : Scope) (i : ℕ) (xs ys zs : List Item) → ys ≡ turns i (ceiling w) xs → zs ≡ rotated (ceiling w) ys → zs ≡ turns (i + 1) (ceiling w) xs
next_turn w i xs ys zs e h = h ∙ ap (rotated (ceiling w)) e ∙ ap (λ n. turns n (ceiling w) xs) (sym (add-one i))

pub next_tried : (w : Scope) (i : ℕ) (xs ys us : List Item) (a b z : List Region) → ys ≡ turns i (ceiling w) xs → b ≡ tried i w xs us a → z ≡ join_all b (here w ys us) → z ≡ tried (i + 1) w xs us a
next_tried w i xs ys us a b z e f h =
    h ∙ ap (λ l. join_all b (here w l us)) e ∙ ap (λ l. join_all l (here w (turns i (ceiling w) xs) us)) f ∙ ap (λ n. tried n w xs us a) (sym (add-one i))
