use Rattle.std.specs.Prelude.{ℕ, zero, suc, ◌+◌, min, max, Bool, cond, List, [], ◌∷◌, ◌++◌, map, take, drop, ◌==◌}
use Rattle.std.specs.List.{list_any}
use Rattle.ranking.specs.declared.Item.{Item}
use Rattle.ranking.specs.declared.Region.{Region}
use Rattle.ranking.specs.Items.{each, with_items}

-- whether some item has no fraction
abbrev pub has_zero : List Item → Bool
has_zero = list_any (λ x. x.rank == 0)

-- the greatest rank
abbrev pub greatest : List Item → ℕ
greatest [] = 0
greatest (x ∷ xs) = max x.rank (greatest xs)

-- the next rank
abbrev pub raised : Item → Item
raised x = record { whole = x.whole; rank = min (x.rank + 1) 255 }

-- the item at the place i: at rank k it comes to the next whole part, up to one above its ceiling
abbrev pub fallen : (ℕ → ℕ) → ℕ → ℕ → Item → Item
fallen c k i x =
    record {
      whole = cond (x.rank == k) (min (x.whole + 1) (c i + 1)) x.whole;
      rank = cond (x.rank == k) 0 x.rank;
    }

-- if a rank is 0 every rank rises, else the items of greatest rank become whole
abbrev pub rotated : (ℕ → ℕ) → List Item → List Item
rotated c xs = cond (has_zero xs) (map raised xs) (each (fallen c (greatest xs)) 0 xs)

-- after n rotations
abbrev pub turns : ℕ → (ℕ → ℕ) → List Item → List Item
turns zero c xs = xs
turns (suc n) c xs = rotated c (turns n c xs)

-- the first m items of a region rotated, once and n times
abbrev pub turned : ℕ → (ℕ → ℕ) → Region → Region
turned m c r = with_items (rotated c (take m r.items) ++ drop m r.items)

abbrev pub turned_by : ℕ → ℕ → (ℕ → ℕ) → Region → Region
turned_by zero m c r = r
turned_by (suc n) m c r = turned m c (turned_by n m c r)
