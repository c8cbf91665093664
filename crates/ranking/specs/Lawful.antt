use Rattle.std.specs.Prelude.{◌≡◌, ℕ, ◌+◌, ◌-◌, ◌<◌, ◌≤◌, List, length, take, drop, replicate}
use Rattle.ranking.specs.declared.Item.{Item}
use Rattle.ranking.specs.declared.Region.{Region}
use Rattle.ranking.specs.Items.{none, whole_at, rank_at, Holds}
use Rattle.ranking.specs.Ranks.{Gapless}

-- the items in use, of which there are m
abbrev pub front : ℕ → Region → List Item
front m r = take m r.items

-- nine items, and those past the first m empty
pub record Shaped (m : ℕ) (r : Region) : Type 0 where
  pub full : length r.items ≡ 9
  pub rest : drop m r.items ≡ replicate (9 - m) none

-- whole parts up to one above the ceiling, and ranks without a gap
pub record Lawful (m : ℕ) (c : ℕ → ℕ) (r : Region) : Type 0 where
  pub shaped : Shaped m r
  pub wholes : (i : ℕ) → i < m → whole_at (front m r) i ≤ c i + 1
  pub gapless : Gapless m (rank_at (front m r))

-- the m values vs, in parts of 1 / D, lie in the region
pub record Lies (m : ℕ) (c : ℕ → ℕ) (D : ℕ) (r : Region) (vs : List ℕ) : Type 0 where
  pub shaped : Shaped m r
  pub holds : Holds m c D (front m r) vs
