use Rattle.std.proofs.Common.{◌≡◌, ℕ, [], ◌∷◌, refl}
use Rattle.abstraction.specs.declared.scope.Scope.{Scope}
use Rattle.ranking.specs.declared.Item.{Item}
use Rattle.ranking.specs.declared.Region.{Region}
use Rattle.ranking.specs.Items.{none, with_items}
use Rattle.merging.specs.Pop.{pops}

it : ℕ → ℕ → Item
it w r = record { whole = w; rank = r }

abbrev of5 : Item → Item → Item → Item → Item → Region
of5 a b c d e = with_items (a ∷ b ∷ c ∷ d ∷ e ∷ none ∷ none ∷ none ∷ none ∷ [])

abbrev one : Scope
one = record { clocks = 1; top = 1 }

three : pops one (of5 (it 0 0) (it 0 0) (it 0 1) (it 0 1) (it 0 1)) (of5 (it 0 1) (it 0 0) (it 0 0) (it 0 0) (it 0 0))
    ≡ (of5 (it 0 2) (it 0 0) (it 0 1) (it 0 1) (it 0 1) ∷ of5 (it 0 1) (it 0 0) (it 0 2) (it 0 2) (it 0 2) ∷ of5 (it 0 1) (it 0 0) (it 0 1) (it 0 1) (it 0 1) ∷ [])
unfolding it
three = refl
