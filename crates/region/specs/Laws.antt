use Rattle.std.specs.Prelude.{◌≡◌, ℕ, suc, ◌+◌, ◌-◌, ◌/◌, ◌%◌, ◌<◌, ◌≤◌, min, true, List, [], ◌∷◌, ◌++◌, length, replicate, ◌≢◌, slice_index_or}
use Rattle.abstraction.specs.Owes.{Small}
use Rattle.abstraction.specs.Bounds.{Inside, Fits}
use Rattle.abstraction.specs.Frames.{Frame, Framed}
use Rattle.abstraction.specs.Lists.{In}
use Rattle.abstraction.specs.declared.interval.Interval.{Interval}
use Rattle.abstraction.specs.declared.scope.Scope.{Scope}
use Rattle.ranking.specs.declared.Item.{Item}
use Rattle.ranking.specs.declared.Region.{Region}
use Rattle.ranking.specs.Items.{none, whole_at, rank_at, places, ceiling, with_items}
use Rattle.ranking.specs.Lawful.{front, Lawful, Lies}
use Rattle.ranking.specs.Close.{shut}
use Rattle.ranking.specs.Insert.{Agrees}
use Rattle.ranking.specs.Rotation.{turned_by}
use Rattle.ranking.specs.Joined.{Once}
use Rattle.merging.specs.Law.{Pops}
use Rattle.region.specs.Asked.{lies_in, lawful as lawful_test}
use Rattle.region.specs.Listed.{time, test, assign, opened, push, pop}

-- the list has what P says and nothing else, each once, and keeps to its room
pub record Exactly (P : Region → Type 0) (xs : List Region) : Type 0 where
  pub few : length xs ≤ 1048576
  pub each : (r : Region) → P r → In xs r
  pub only : (r : Region) → In xs r → P r
  pub once : Once xs

-- t comes after zero or more rotations of r
abbrev pub Rotates : Scope → Region → Region → Type 0
Rotates w r t = (n : ℕ) × (t ≡ turned_by n (places w) (ceiling w) r)

-- t is lawful, has the whole parts, zeros and order of r but at the place p, and lies in the interval there
pub record Owed (w : Scope) (p : ℕ) (i : Interval) (r t : Region) : Type 0 where
  pub lawful : Lawful (places w) (ceiling w) t
  pub wholes : (j : ℕ) → j < places w → (j ≢ p) → whole_at (front (places w) t) j ≡ whole_at (front (places w) r) j
  pub ranks : Agrees (places w) p (rank_at (front (places w) r)) (rank_at (front (places w) t))
  pub inside : lies_in i (slice_index_or (front (places w) t) p none) ≡ true

-- the values of a frame, in the order of the items
abbrev pub values : Frame → List ℕ
values f = f.clocks ++ f.age ∷ (f.kept ++ f.kept_age ∷ f.elapsed ∷ [])

-- the values vs, in parts of 1 / D, as items whose ranks are not closed up yet, the places counted from k
abbrev pub items_of : (ℕ → ℕ) → ℕ → ℕ → List ℕ → List Item
items_of c D k [] = []
items_of c D k (v ∷ vs) = record { whole = min (v / D) (c k + 1); rank = v % D } ∷ items_of c D (suc k) vs

-- the region of a list of values
abbrev pub region_of : (ℕ → ℕ) → ℕ → List ℕ → Region
region_of c D vs = with_items (shut (items_of c D 0 vs) ++ replicate (9 - length vs) none)

-- which frames a region covers
abbrev pub covers : Scope → ℕ → Region → Frame → Type 0
covers w D r f = Lies (places w) (ceiling w) D r (values f)

-- a frame is covered by one region, that of its values, which is lawful
pub record CoveredOnce (w : Scope) (D : ℕ) (f : Frame) : Type 0 where
  pub lawful : Lawful (places w) (ceiling w) (region_of (ceiling w) D (values f))
  pub covered : covers w D (region_of (ceiling w) D (values f)) f
  pub alone : (r : Region) → covers w D r f → r ≡ region_of (ceiling w) D (values f)

abbrev pub FramesOnce : Type 0
FramesOnce = (w : Scope) (D : ℕ) (f : Frame) → Small w → 1 ≤ D → Framed w.clocks f → CoveredOnce w D f

-- x is the item of the value v, in parts of 1 / D
abbrev pub ItemOf : ℕ → ℕ → ℕ → Item → Type 0
ItemOf top D v x = (x.whole ≡ min (v / D) (top + 1)) × ((x.rank ≡ 0 → v % D ≡ 0) × (v % D ≡ 0 → x.rank ≡ 0))

-- what each list holds, for lawful regions, clocks that are there and bounds up to top
pub record ListsHold (w : Scope) : Type 0 where
  pub lawfuls : (r : Region) → (lawful_test w r ≡ true → Lawful (places w) (ceiling w) r) × (Lawful (places w) (ceiling w) r → lawful_test w r ≡ true)
  pub intervals : (i : Interval) → Fits w.top i → (x : Item) (D v : ℕ) → 1 ≤ D → ItemOf w.top D v x → (lies_in i x ≡ true → Inside D i v) × (Inside D i v → lies_in i x ≡ true)
  pub times : (r : Region) → Lawful (places w) (ceiling w) r → Exactly (Rotates w r) (time w r)
  pub tests : (r : Region) → Lawful (places w) (ceiling w) r → (k : ℕ) (i : Interval) → k < w.clocks → Fits w.top i → Exactly (λ t. (t ≡ r) × (lies_in i (slice_index_or r.items k none) ≡ true)) (test w k i r)
  pub assigns : (r : Region) → Lawful (places w) (ceiling w) r → (k : ℕ) (i : Interval) → k < w.clocks → Fits w.top i → Exactly (Owed w k i r) (assign w k i r)
  pub pushes : (r : Region) → Lawful (places w) (ceiling w) r → (i : Interval) → Fits w.top i → Exactly (Owed w w.clocks i (opened w.clocks r)) (push w i r)
  pub pops : (s u : Region) → Lawful (places w) (ceiling w) s → Lawful (places w) (ceiling w) u → (i : Interval) → Fits w.top i → Exactly (λ t. Pops w s u t × (lies_in i (slice_index_or u.items w.clocks none) ≡ true)) (pop w i s u)

abbrev pub ListsExactly : Type 0
ListsExactly = (w : Scope) → Small w → ListsHold w

-- what a question must be about: a scope within the limits, a lawful region, a clock that is there and
-- bounds up to top
abbrev pub Asks : Scope → ℕ → Interval → Region → Type 0
Asks w k i r = Small w × Lawful (places w) (ceiling w) r × (k < w.clocks) × Fits w.top i

-- every other question is answered by the empty list
pub record ListsNothing : Type 0 where
  pub times : (w : Scope) (r : Region) → (Small w × Lawful (places w) (ceiling w) r → ⊥) → time w r ≡ []
  pub tests : (w : Scope) (k : ℕ) (i : Interval) (r : Region) → (Asks w k i r → ⊥) → test w k i r ≡ []
  pub assigns : (w : Scope) (k : ℕ) (i : Interval) (r : Region) → (Asks w k i r → ⊥) → assign w k i r ≡ []
  pub pushes : (w : Scope) (i : Interval) (r : Region) → (Small w × Lawful (places w) (ceiling w) r × Fits w.top i → ⊥) → push w i r ≡ []
  pub pops : (w : Scope) (i : Interval) (s u : Region) → (Small w × Lawful (places w) (ceiling w) s × Lawful (places w) (ceiling w) u × Fits w.top i → ⊥) → pop w i s u ≡ []
