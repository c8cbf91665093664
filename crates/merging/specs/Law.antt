use Rattle.std.specs.Prelude.{◌≡◌, ℕ, ◌+◌, ◌-◌, ◌*◌, ◌≤◌, cond, List, ◌∷◌, ◌++◌, length, take, drop, replicate, ◌==◌, nat_lt, slice_index_or}
use Rattle.abstraction.specs.Lists.{In}
use Rattle.abstraction.specs.declared.scope.Scope.{Scope}
use Rattle.ranking.specs.declared.Item.{Item}
use Rattle.ranking.specs.declared.Region.{Region}
use Rattle.ranking.specs.Items.{none, with_items, rank_at, clocks_of, places, ceiling, each}
use Rattle.ranking.specs.Ranks.{Gapless}
use Rattle.ranking.specs.Close.{shut}
use Rattle.ranking.specs.Rotation.{turns}
use Rattle.ranking.specs.Lawful.{front, Lawful}
use Rattle.ranking.specs.Joined.{Once}

-- a region over all items of two frames of n clocks: the clocks and the age above, then the clocks, the
-- age and the mark below, which are the kept clocks, the kept age and the time elapsed above, then the
-- kept clocks, the kept age and the time elapsed below. It restricts to xs below, which have the mark,
-- and to us above
pub record Joint (n : ℕ) (xs us cs : List Item) : Type 0 where
  pub long : length cs ≡ 3 * n + 5
  pub gapless : Gapless (3 * n + 5) (rank_at cs)
  pub below : shut (drop (n + 1) cs) ≡ xs
  pub above : shut (take (2 * n + 3) cs) ≡ us

-- where the items of the frame after the pop stand there: the clocks above, and the age, the kept values
-- and the time elapsed below
abbrev pub place_of : ℕ → ℕ → ℕ
place_of n i = cond (nat_lt i n) i (cond (i == n) (2 * n + 1) (i + n + 2))

abbrev pub projected : ℕ → List Item → List Item
projected n cs = each (λ i _. slice_index_or cs (place_of n i) none) 0 (replicate (2 * n + 3) none)

-- a region of these m items
abbrev pub region_of : ℕ → List Item → Region
region_of m xs = with_items (xs ++ replicate (9 - m) none)

-- r is the projection of a region that restricts to both sides
abbrev pub Joins : ℕ → List Item → List Item → Region → Type 0
Joins n xs us r = (cs : List Item) × Joint n xs us cs × (r ≡ region_of (2 * n + 3) (shut (projected n cs)))

-- the items below with a mark of no whole part and no fraction after the age
abbrev pub with_mark : ℕ → List Item → List Item
with_mark n xs = take (n + 1) xs ++ none ∷ drop (n + 1) xs

-- r is allowed: some number of rotations of the frame below with the mark, and a region that restricts to
-- that and to the frame above
abbrev pub Pops : Scope → Region → Region → Region → Type 0
Pops w s u r = (k : ℕ) × Joins (clocks_of w) (turns k (ceiling w) (with_mark (clocks_of w) (front (places w) s))) (front (places w) u) r

-- exactly the regions that are allowed, each once, all lawful, at most 1,048,576
pub record Popped (w : Scope) (s u : Region) (rs : List Region) : Type 0 where
  pub few : length rs ≤ 1048576
  pub each : (r : Region) → Pops w s u r → In rs r
  pub only : (r : Region) → In rs r → Pops w s u r
  pub once : Once rs
  pub lawful : (r : Region) → In rs r → Lawful (places w) (ceiling w) r

-- for lawful regions
abbrev pub PopLaw : Scope → Region → Region → List Region → Type 0
PopLaw w s u rs = Lawful (places w) (ceiling w) s → Lawful (places w) (ceiling w) u → Popped w s u rs
