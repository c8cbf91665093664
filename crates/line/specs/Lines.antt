-- The lines that a program prints.
use Rattle.std.specs.Prelude.{ℕ, cond, List, [], ◌∷◌, ◌++◌, length, drop, Some, None, Ok, Err, codes, decimal, Option, Result, nat_le}
use Rattle.fault.specs.declared.Fault.{Fault}
use Rattle.fault.specs.declared.Layer.{Layer}
use Rattle.fault.specs.declared.Layer.TheVariants.{Text, Record, Case, Evidence}
use Rattle.fault.specs.declared.Place.{Place}
use Rattle.fault.specs.declared.Place.TheVariants.{Byte, Row, Table}
use Rattle.fault.specs.Faults.{number, layer}
use Rattle.case.specs.declared.case.Standing.{Standing}
use Rattle.case.specs.declared.case.Standing.TheVariants.{Undecided, Reachable, Unreachable}

abbrev pub layer_word : Layer → List ℕ
layer_word Text = codes "text"
layer_word Record = codes "record"
layer_word Case = codes "case"
layer_word Evidence = codes "evidence"

-- a number after a space
abbrev pub spaced : ℕ → List ℕ
spaced n = codes " " ++ decimal n

-- one number for a byte or a row; entry, rule and the entry above for a table
abbrev pub places : Place → List ℕ
places (Byte b) = spaced b
places (Row r) = spaced r
places (Table e r u) = spaced e ++ spaced r ++ spaced u

-- `refused`, the number, the layer and the place
abbrev pub refusal_words : Fault → List ℕ
refusal_words f = codes "refused" ++ spaced (number f.refusal) ++ codes " " ++ layer_word (layer f.refusal) ++ places f.place

abbrev pub standing_word : Standing → List ℕ
standing_word Undecided = codes "undecided"
standing_word Reachable = codes "reachable"
standing_word Unreachable = codes "unreachable"

abbrev pub words : Result Standing Fault → List ℕ
words (Ok s) = standing_word s
words (Err f) = refusal_words f

-- the whole line, with the line feed that ends it
abbrev pub rendered : Result Standing Fault → List ℕ
rendered a = words a ++ 10 ∷ []

-- how many bytes are written: all or none
abbrev pub written : List ℕ → List ℕ → Option ℕ
written word line = cond (nat_le (length word) (length line)) (Some (length word)) None

-- the line with word at its front, or as it was where it is too short
abbrev pub overwritten : List ℕ → List ℕ → List ℕ
overwritten word line = cond (nat_le (length word) (length line)) (word ++ drop (length word) line) line
