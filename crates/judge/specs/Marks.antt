use Rattle.std.specs.Prelude.{◌≡◌, ℕ, ◌<◌, List, length, ◌==◌, slice_index, slice_index_or}
use Rattle.judge.specs.Claims.{Claim}
use Rattle.judge.specs.Judged.{opens}
use Rattle.judge.specs.declared.entry.Entry.{Entry}

-- each of the first n places is marked if e opens the entry there
abbrev pub Marked : {S : Type 0} → Claim S → Entry S → ℕ → List ℕ → Type 0
Marked z e n ms = (k : ℕ) → k < n → (slice_index ms k == 1) ≡ opens z e (slice_index_or z.table k e)

-- the root of each entry is a place of the table
abbrev pub Rooted : {S : Type 0} → List (Entry S) → Type 0
Rooted {S} t = (k : ℕ) (e : Entry S) → k < length t → e ≡ slice_index_or t k e → e.root < length t
