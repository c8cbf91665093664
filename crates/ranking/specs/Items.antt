use Rattle.std.specs.Prelude.{◌≡◌, ℕ, suc, ◌+◌, ◌*◌, min, List, [], ◌∷◌, length, slice_index, slice_index_or}
use Rattle.abstraction.specs.declared.scope.Scope.{Scope}
use Rattle.ranking.specs.declared.Item.{Item}
use Rattle.ranking.specs.declared.Region.{Region}
use Rattle.ranking.specs.Ranks.{Held}

-- an item of no whole part and no fraction
abbrev pub none : Item
none = record { whole = 0; rank = 0 }

abbrev pub whole_at : List Item → ℕ → ℕ
whole_at xs i = (slice_index_or xs i none).whole

abbrev pub rank_at : List Item → ℕ → ℕ
rank_at xs i = (slice_index_or xs i none).rank

abbrev pub with_items : List Item → Region
with_items xs = record { items = xs }

-- the clocks that count
abbrev pub clocks_of : Scope → ℕ
clocks_of w = min w.clocks 3

-- how many items are in use
abbrev pub places : Scope → ℕ
places w = 2 * clocks_of w + 3

-- the greatest whole part that is told apart, item by item
abbrev pub ceiling : Scope → ℕ → ℕ
ceiling w i = min w.top 15

-- after so many rotations of items with ranks up to k no new ones come
abbrev pub rounds : Scope → ℕ → ℕ
rounds w k = 2 * (k + 1) * (ceiling w 0 + 2)

-- f of each place, counted from k, and what stands there
abbrev pub each : {X : Type 0} → (ℕ → X → X) → ℕ → List X → List X
each f k [] = []
each f k (x ∷ xs) = f k x ∷ each f (suc k) xs

-- the m values vs, in parts of 1 / D, are those of the items xs
pub record Holds (m : ℕ) (c : ℕ → ℕ) (D : ℕ) (xs : List Item) (vs : List ℕ) : Type 0 where
  pub items : length xs ≡ m
  pub values : length vs ≡ m
  pub each : Held m c D (whole_at xs) (rank_at xs) (λ i. slice_index vs i)
