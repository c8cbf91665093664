use Rattle.std.specs.Prelude.{◌≡◌, ℕ, ◌+◌, List, map, length, replicate, slice_set}

-- the values of one stack frame, at one scale: the clocks, the age of the top, the clocks and the
-- age of the frame below at the push, grown with time, and the time since the push
pub record Frame : Type 0 where
  pub clocks : List ℕ
  pub age : ℕ
  pub kept : List ℕ
  pub kept_age : ℕ
  pub elapsed : ℕ

-- a frame of n clocks
abbrev pub Framed : ℕ → Frame → Type 0
Framed n f = (length f.clocks ≡ n) × (length f.kept ≡ n)

abbrev pub plus : ℕ → List ℕ → List ℕ
plus d xs = map (λ x. x + d) xs

-- the frame of zeros
abbrev pub zeros : ℕ → Frame
zeros n = record { clocks = replicate n 0; age = 0; kept = replicate n 0; kept_age = 0; elapsed = 0 }

-- d later
abbrev pub later : ℕ → Frame → Frame
later d f =
    record {
      clocks = plus d f.clocks;
      age = f.age + d;
      kept = plus d f.kept;
      kept_age = f.kept_age + d;
      elapsed = f.elapsed + d;
    }

-- clock k gets the value v
abbrev pub assigned : ℕ → ℕ → Frame → Frame
assigned k v f =
    record {
      clocks = slice_set f.clocks k v;
      age = f.age;
      kept = f.kept;
      kept_age = f.kept_age;
      elapsed = f.elapsed;
    }

-- the frame above f at a push of age v
abbrev pub pushed : ℕ → Frame → Frame
pushed v f =
    record { clocks = f.clocks; age = v; kept = f.clocks; kept_age = f.age; elapsed = 0 }

-- g, the frame above f, is popped
abbrev pub popped : Frame → Frame → Frame
popped f g =
    record {
      clocks = g.clocks;
      age = f.age + g.elapsed;
      kept = plus g.elapsed f.kept;
      kept_age = f.kept_age + g.elapsed;
      elapsed = f.elapsed + g.elapsed;
    }
