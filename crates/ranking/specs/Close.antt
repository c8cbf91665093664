use Rattle.std.specs.Prelude.{ℕ, zero, suc, ◌+◌, min, Bool, false, cond, ◌||◌, List, [], ◌∷◌, ◌++◌, map, take, drop, Some, None, Option, ◌==◌, nat_lt}
use Rattle.ranking.specs.declared.Item.{Item}
use Rattle.ranking.specs.declared.Region.{Region}
use Rattle.ranking.specs.Items.{with_items}

abbrev pub has_rank : List Item → ℕ → Bool
has_rank [] k = false
has_rank (x ∷ xs) k = x.rank == k || has_rank xs k

-- the lesser of what there is
abbrev pub lesser : Option ℕ → Option ℕ → Option ℕ
lesser None b = b
lesser (Some k) None = Some k
lesser (Some k) (Some l) = Some (min k l)

-- this rank, if it is above a
abbrev pub over : ℕ → ℕ → Option ℕ
over a k = cond (nat_lt a k) (Some k) None

-- the least rank in use above a
abbrev pub next_rank : List Item → ℕ → Option ℕ
next_rank [] a = None
next_rank (x ∷ xs) a = lesser (over a x.rank) (next_rank xs a)

-- how many of the numbers from 1 to n are used
abbrev pub steps : (ℕ → Bool) → ℕ → ℕ
steps u zero = 0
steps u (suc n) = cond (u (suc n)) (steps u n + 1) (steps u n)

-- the item with its rank closed up among those of xs
abbrev pub shut_item : List Item → Item → Item
shut_item xs x = record { whole = x.whole; rank = steps (has_rank xs) x.rank }

abbrev pub shut : List Item → List Item
shut xs = map (shut_item xs) xs

-- the first m items closed up
abbrev pub closed : ℕ → Region → Region
closed m r = with_items (shut (take m r.items) ++ drop m r.items)
