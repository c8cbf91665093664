use Rattle.std.specs.Prelude.{ℕ, ◌+◌, Bool, true, not, ◌&&◌, ◌||◌, List, length, drop, ◌==◌, nat_le, nat_lt, slice_index_or}
use Rattle.std.specs.List.{list_all, enumerate_from}
use Rattle.abstraction.specs.Bounds.{fits}
use Rattle.abstraction.specs.declared.interval.Interval.{Interval}
use Rattle.abstraction.specs.declared.interval.Lower.{Lower}
use Rattle.abstraction.specs.declared.interval.Lower.TheVariants.{From, Over}
use Rattle.abstraction.specs.declared.interval.Upper.{Upper}
use Rattle.abstraction.specs.declared.interval.Upper.TheVariants.{Upto, Under, Unbounded}
use Rattle.abstraction.specs.declared.scope.Scope.{Scope}
use Rattle.ranking.specs.declared.Item.{Item}
use Rattle.ranking.specs.declared.Region.{Region}
use Rattle.ranking.specs.Items.{none, clocks_of, places, ceiling}
use Rattle.ranking.specs.Lawful.{front}
use Rattle.ranking.specs.Close.{closed}
use Rattle.ranking.specs.Joined.{same_region}

-- at most 3 clocks, and a top of at most 15
abbrev pub small : Scope → Bool
small w = nat_le w.clocks 3 && nat_le w.top 15

-- each whole part is at most one above its ceiling, the places counted from k
abbrev pub wholes_fit : (ℕ → ℕ) → ℕ → List Item → Bool
wholes_fit c k xs = list_all (λ p. nat_le p.1.whole (c p.0 + 1)) (enumerate_from k xs)

abbrev pub all_empty : List Item → Bool
all_empty xs = list_all (λ x. x.whole == 0 && x.rank == 0) xs

-- closing up leaves the region as it is
abbrev pub in_order : Scope → Region → Bool
in_order w r = wholes_fit (ceiling w) 0 (front (places w) r) && (same_region (closed (places w) r) r && all_empty (drop (places w) r.items))

abbrev pub lawful : Scope → Region → Bool
lawful w r = small w && (length r.items == 9 && in_order w r)

-- a value with this whole part, with or without a fraction, keeps to the bounds
abbrev pub above : Lower → Item → Bool
above (From b) x = nat_le b x.whole
above (Over b) x = nat_lt b x.whole || (x.whole == b && not (x.rank == 0))

abbrev pub below : Upper → Item → Bool
below (Upto b) x = nat_lt x.whole b || (x.whole == b && x.rank == 0)
below (Under b) x = nat_lt x.whole b
below Unbounded x = true

abbrev pub lies_in : Interval → Item → Bool
lies_in i x = above i.lower x && below i.upper x

-- the question is about a lawful region, a clock that is there and bounds up to top
abbrev pub asks : Scope → ℕ → Interval → Region → Bool
asks w k i r = lawful w r && (nat_lt k w.clocks && fits w.top i)

-- the question is about lawful regions and bounds up to top, and the age above lies in them
abbrev pub pop_asks : Scope → Interval → Region → Region → Bool
pop_asks w i s u = lawful w s && (lawful w u && (fits w.top i && lies_in i (slice_index_or u.items (clocks_of w) none)))
