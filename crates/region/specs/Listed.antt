use Rattle.std.specs.Prelude.{ℕ, ◌+◌, ◌-◌, ◌*◌, min, cond, ◌&&◌, List, [], ◌∷◌, map, get_or, replicate, nat_lt, slice_index_or, slice_set}
use Rattle.std.specs.List.{range_with_len}
use Rattle.abstraction.specs.Bounds.{fits}
use Rattle.abstraction.specs.declared.interval.Interval.{Interval}
use Rattle.abstraction.specs.declared.scope.Scope.{Scope}
use Rattle.ranking.specs.declared.Item.{Item}
use Rattle.ranking.specs.declared.Region.{Region}
use Rattle.ranking.specs.Items.{clocks_of, none, places, ceiling, with_items}
use Rattle.ranking.specs.Lawful.{front}
use Rattle.ranking.specs.Close.{closed}
use Rattle.ranking.specs.Rotation.{greatest, turned_by}
use Rattle.ranking.specs.Joined.{join, repeat}
use Rattle.merging.specs.Pop.{pops}
use Rattle.region.specs.Asked.{lawful, lies_in, asks, pop_asks}

-- all values 0
abbrev pub start : Scope → Region
start w = with_items (replicate 9 none)

-- the greatest ceiling
abbrev pub highest : Scope → ℕ
highest w = min w.top 15

-- so many rotations are enough
abbrev pub rounds : Scope → Region → ℕ
rounds w r = 2 * (min (greatest (front (places w) r)) 9 + 1) * (highest w + 2)

abbrev pub rotations : Scope → Region → List Region → List Region
rotations w r = repeat (rounds w r) (λ k out. join out (turned_by k (places w) (ceiling w) r))

abbrev pub time : Scope → Region → List Region
time w r = cond (lawful w r) (rotations w r []) []

abbrev pub test : Scope → ℕ → Interval → Region → List Region
test w k i r = cond (asks w k i r && lies_in i (slice_index_or r.items k none)) (r ∷ []) []

-- twice each rank, so that a new one finds room between two
abbrev pub doubled : Item → Item
doubled x = record { whole = x.whole; rank = min (2 * x.rank) 255 }

abbrev pub spread : Region → Region
spread r = with_items (map doubled r.items)

-- the region with the item x at the place p, closed up
abbrev pub placed : Scope → Region → ℕ → Item → Region
placed w r p x = closed (places w) (with_items (slice_set r.items p x))

-- one region more if its new item lies in the interval
abbrev pub placing : Scope → ℕ → Interval → Region → Item → List Region → List Region
placing w p i r x out = cond (lies_in i x) (join out (placed w r p x)) out

-- the positions of a new item: at no fraction, at each rank, before, between and after them
abbrev pub keys : Scope → Region → ℕ
keys w r = 2 * min (greatest (front (places w) r)) 9 + 2

abbrev pub fill_keys : Scope → ℕ → Interval → Region → ℕ → ℕ → List Region → List Region
fill_keys w p i r n whole = repeat n (λ key. placing w p i r (record { whole = whole; rank = key }))

-- every whole part and every position at the place p
abbrev pub fill : Scope → ℕ → Interval → Region → List Region → List Region
fill w p i r = repeat (ceiling w p + 2) (fill_keys w p i (spread r) (keys w r))

abbrev pub assign : Scope → ℕ → Interval → Region → List Region
assign w k i r = cond (asks w k i r) (fill w k i r []) []

-- where the item of a new frame comes from: clocks and age are kept, and nothing has elapsed
abbrev pub source : ℕ → ℕ → ℕ
source n i = cond (nat_lt i n) i (cond (nat_lt n i && nat_lt i (2 * n + 2)) (i - (n + 1)) 9)

abbrev pub opened : ℕ → Region → Region
opened n r = with_items (map (λ i. get_or r.items (source n i) none) (range_with_len 0 9))

abbrev pub push : Scope → Interval → Region → List Region
push w i r = cond (lawful w r && fits w.top i) (fill w (clocks_of w) i (opened (clocks_of w) r) []) []

-- the mergings of both frames, if the age above lies in the interval
abbrev pub pop : Scope → Interval → Region → Region → List Region
pop w i s u = cond (pop_asks w i s u) (pops w s u) []
