use Rattle.std.specs.Prelude.{◌≡◌, ℕ, ◌+◌, ◌<◌, ◌≤◌, Bool, true, List, length, slice_index}
use Rattle.abstraction.specs.Lists.{In}
use Rattle.abstraction.specs.Frames.{Frame, Framed, plus, zeros, later, assigned, pushed, popped}
use Rattle.abstraction.specs.Bounds.{Inside, Fits}
use Rattle.abstraction.specs.declared.interval.Interval.{Interval}
use Rattle.abstraction.specs.declared.scope.Scope.{Scope}

-- what an abstraction answers; a clock is named by its place
pub record Answers (S : Type 0) : Type 0 where
  pub lawful : Scope → S → Bool
  pub start : Scope → S
  pub time : Scope → S → List S
  pub test : Scope → ℕ → Interval → S → List S
  pub assign : Scope → ℕ → Interval → S → List S
  pub push : Scope → Interval → S → List S
  pub pop : Scope → Interval → S → S → List S
  pub within : Scope → S → S → Bool

-- which frames a shape covers, for a scope and a scale
abbrev pub Meaning : Type 0 → Type 1
Meaning S = Scope → ℕ → S → Frame → Type 0

-- at most 3 clocks, and a top of at most 15
abbrev pub Small : Scope → Type 0
Small w = (w.clocks ≤ 3) × (w.top ≤ 15)

-- at most 1,048,576 shapes, each of them lawful
abbrev pub Lawfully : {S : Type 0} → Answers S → Scope → List S → Type 0
Lawfully {S} a w xs = (length xs ≤ 1048576) × ((s : S) → In xs s → a.lawful w s ≡ true)

-- what every list of an abstraction keeps to, for lawful shapes and bounds up to top
pub record ListingLaws {S : Type 0} (a : Answers S) (w : Scope) : Type 0 where
  pub times : (s : S) → a.lawful w s ≡ true → Lawfully a w (a.time w s)
  pub tests : (s : S) → a.lawful w s ≡ true → (k : ℕ) (i : Interval) → k < w.clocks → Fits w.top i → Lawfully a w (a.test w k i s)
  pub assigns : (s : S) → a.lawful w s ≡ true → (k : ℕ) (i : Interval) → k < w.clocks → Fits w.top i → Lawfully a w (a.assign w k i s)
  pub pushes : (s : S) → a.lawful w s ≡ true → (i : Interval) → Fits w.top i → Lawfully a w (a.push w i s)
  pub pops : (s u : S) → a.lawful w s ≡ true → a.lawful w u ≡ true → (i : Interval) → Fits w.top i → Lawfully a w (a.pop w i s u)

abbrev pub ListsLawfully : {S : Type 0} → Answers S → Type 0
ListsLawfully a = (w : Scope) → Small w → ListingLaws a w

-- what covering asks at one scope and one scale, m being which frames a shape covers there
module _ {S : Type 0} (a : Answers S) (w : Scope) (D : ℕ) (m : S → Frame → Type 0) where
  -- a listed shape covers the frame
  abbrev pub Listed : List S → Frame → Type 0
  Listed xs f = (t : S) × In xs t × m t f

  -- the lawful shape s covers f, a frame of so many clocks
  pub record Covered (s : S) (f : Frame) : Type 0 where
    pub lawful : a.lawful w s ≡ true
    pub framed : Framed w.clocks f
    pub covers : m s f

  abbrev pub CoversStart : Type 0
  CoversStart = (a.lawful w (a.start w) ≡ true) × m (a.start w) (zeros w.clocks)

  abbrev pub CoversTime : Type 0
  CoversTime = (s : S) (f : Frame) → Covered s f → (d : ℕ) → Listed (a.time w s) (later d f)

  abbrev pub CoversTest : Type 0
  CoversTest = (s : S) (f : Frame) → Covered s f → (k : ℕ) (i : Interval) → k < w.clocks → Fits w.top i → Inside D i (slice_index f.clocks k) → Listed (a.test w k i s) f

  abbrev pub CoversAssign : Type 0
  CoversAssign = (s : S) (f : Frame) → Covered s f → (k : ℕ) (i : Interval) → k < w.clocks → Fits w.top i → (v : ℕ) → Inside D i v → Listed (a.assign w k i s) (assigned k v f)

  abbrev pub CoversPush : Type 0
  CoversPush = (s : S) (f : Frame) → Covered s f → (i : Interval) → Fits w.top i → (v : ℕ) → Inside D i v → Listed (a.push w i s) (pushed v f)

  abbrev pub CoversPop : Type 0
  CoversPop = (s u : S) (f g : Frame) → Covered s f → Covered u g → (i : Interval) → Fits w.top i → Inside D i g.age → g.kept ≡ plus g.elapsed f.clocks → g.kept_age ≡ f.age + g.elapsed → Listed (a.pop w i s u) (popped f g)

  abbrev pub CoversWithin : Type 0
  CoversWithin = (s t : S) (f : Frame) → Covered s f → a.lawful w t ≡ true → a.within w s t ≡ true → m t f

  pub record CoversAt : Type 0 where
    pub starts : CoversStart
    pub times : CoversTime
    pub tests : CoversTest
    pub assigns : CoversAssign
    pub pushes : CoversPush
    pub pops : CoversPop
    pub nests : CoversWithin

-- the abstraction covers: no run escapes its lists
abbrev pub Covers : {S : Type 0} → Answers S → Meaning S → Type 0
Covers a m = (w : Scope) (D : ℕ) → Small w → 1 ≤ D → CoversAt a w D (m w D)
