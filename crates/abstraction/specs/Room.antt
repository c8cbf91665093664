use Rattle.std.specs.Prelude.{List, [], ◌∷◌, ◌++◌, take, vec_items}
use Rattle.abstraction.specs.declared.listing.Listing.{Listing}

-- one more at the end, where there is room
abbrev pub added : {S : Type 0} → List S → S → List S
added xs x = take 1048576 (xs ++ x ∷ [])

-- the shapes that are listed
abbrev pub shapes : {S : Type 0} → Listing S → List S
shapes l = vec_items l.shapes
