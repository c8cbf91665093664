use Rattle.std.specs.Prelude.{ℕ, ◌+◌, ◌-◌, ◌*◌, min, Bool, cond, ◌&&◌, List, [], ◌∷◌, map, take, drop, replicate, ◌==◌, nat_le, nat_lt, slice_index, slice_index_or}
use Rattle.std.specs.List.{list_all}
use Rattle.abstraction.specs.declared.scope.Scope.{Scope}
use Rattle.ranking.specs.declared.Item.{Item}
use Rattle.ranking.specs.declared.Region.{Region}
use Rattle.ranking.specs.Items.{none, with_items, clocks_of, places, ceiling, each}
use Rattle.ranking.specs.Close.{closed}
use Rattle.ranking.specs.Rotation.{greatest, turns}
use Rattle.ranking.specs.Joined.{join, repeat}
use Rattle.merging.specs.declared.Tie.{Tie}
use Rattle.merging.specs.declared.Keys.{Keys}
use Rattle.merging.specs.declared.Draft.{Draft}
use Rattle.merging.specs.Ways.{same_test, when, mergings}

-- the frame below with a mark after its age: the clocks, the age, the mark, the kept values, the time elapsed
abbrev pub mark_item : ℕ → List Item → ℕ → Item
mark_item n xs i = cond (nat_lt i (n + 1)) (slice_index_or xs i none) (cond (i == n + 1) none (slice_index_or xs (i - 1) none))

abbrev pub marked : ℕ → List Item → List Item
marked n xs = each (λ i _. mark_item n xs i) 0 (replicate 10 none)

abbrev pub blank_tie : Tie
blank_tie = record { left = none; right = none }

-- an item that both frames have, as each of them sees it
abbrev pub tie : List Item → List Item → ℕ → Tie
tie ls rs i = record { left = slice_index_or ls i none; right = slice_index_or rs i none }

abbrev pub ties_of : List Item → List Item → List Tie
ties_of ls rs = each (λ i _. tie ls rs i) 0 (replicate 5 blank_tie)

-- the clocks, the age and the mark below against the kept clocks, the kept age and the time elapsed above
abbrev pub shared : ℕ → List Item → List Item → List Tie
shared n xs us = ties_of (take (n + 2) xs) (drop (n + 1) us)

-- the same whole part, and no fraction on both sides or on none
abbrev pub like : Tie → Bool
like t = t.left.whole == t.right.whole && same_test (t.left.rank == 0) (t.right.rank == 0)

-- the fractions of two items are in the same order on both sides
abbrev pub in_order : Tie → Tie → Bool
in_order t v = same_test (nat_le t.left.rank v.left.rank) (nat_le t.right.rank v.right.rank)

abbrev pub agrees : List Tie → Bool
agrees ts = list_all (λ t. like t && list_all (in_order t) ts) ts

-- the frame after the pop, each item with its rank on its own side: the clocks above, and the age, the
-- kept values and the time elapsed below
abbrev pub part : ℕ → List Item → List Item → ℕ → Item
part n xs us i = cond (nat_lt i n) (slice_index_or us i none) (cond (i == n) (slice_index_or xs i none) (slice_index_or xs (i + 1) none))

abbrev pub frame_of : ℕ → List Item → List Item → Region
frame_of n xs us = with_items (each (λ i _. part n xs us i) 0 (replicate 9 none))

-- the item at the place i with its place in the merged order as its rank
abbrev pub rekeyed : ℕ → Keys → ℕ → Item → Item
rekeyed n k i x = record { whole = x.whole; rank = cond (nat_lt i n) (slice_index k.right x.rank) (slice_index k.left x.rank) }

abbrev pub finished : Scope → Region → Keys → Region
finished w f k = closed (places w) (with_items (each (rekeyed (clocks_of w) k) 0 f.items))

-- the ranks from 1 to k, of which there are at most 10
abbrev pub upto : ℕ → List ℕ
upto k = take (min k 10) (1 ∷ 2 ∷ 3 ∷ 4 ∷ 5 ∷ 6 ∷ 7 ∷ 8 ∷ 9 ∷ 10 ∷ [])

abbrev pub no_keys : Keys
no_keys = record { left = replicate 11 0; right = replicate 11 0 }

-- all mergings of the items xs below, which have the mark, and us above, which have the items of ts in common
abbrev pub merged : Scope → List Tie → List Item → List Item → List Region
merged w ts xs us = map (finished w (frame_of (clocks_of w) xs us)) (mergings ts (upto (greatest xs)) (upto (greatest us)) 0 no_keys)

abbrev pub here : Scope → List Item → List Item → List Region
here w xs us = when (agrees (shared (clocks_of w) xs us)) (merged w (shared (clocks_of w) xs us) xs us)

abbrev pub join_all : List Region → List Region → List Region
join_all xs [] = xs
join_all xs (y ∷ ys) = join_all (join xs y) ys

-- after so many rotations of the items below there are no new ones
abbrev pub rounds : Scope → List Item → ℕ
rounds w xs = 2 * (greatest xs + 1) * (ceiling w 0 + 2)

-- the mergings at the first n rotations, each once
abbrev pub tried : ℕ → Scope → List Item → List Item → List Region → List Region
tried n w xs us = repeat n (λ k acc. join_all acc (here w (turns k (ceiling w) xs) us))

-- the items in use
abbrev pub below_of : Scope → Region → List Item
below_of w s = take (places w + 1) (marked (clocks_of w) s.items)

abbrev pub above_of : Scope → Region → List Item
above_of w u = take (places w) u.items

-- the list of a pop
abbrev pub pops : Scope → Region → Region → List Region
pops w s u = tried (rounds w (below_of w s)) w (below_of w s) (above_of w u) []

abbrev pub with_keys : Draft → Keys → Draft
with_keys d k = record { scope = d.scope; frame = d.frame; keys = k }
