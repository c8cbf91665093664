use Rattle.std.proofs.Common.{◌≡◌, ◌<◌, List, [], ◌∷◌, ◌++◌, length, sym, ◌∙◌, arith, length-append}
use lib.Seq.{take-append-le}
use Rattle.std.proofs.lemmas.List.{take_all}
use Rattle.abstraction.specs.Room.{added}

-- where there is room, the new shape is kept
pub added_fits : {S : Type 0} (xs ys : List S) (x : S) → length xs < 1048576 → ys ≡ xs ++ x ∷ [] → ys ≡ added xs x
added_fits xs ys x h e = e ∙ sym (take_all 1048576 (xs ++ x ∷ []) (omega (arith, length-append xs (x ∷ []))))

-- a full listing stays as it is
pub added_full : {S : Type 0} (xs : List S) (x : S) → length xs ≡ 1048576 → xs ≡ added xs x
added_full xs x h = sym (take-append-le 1048576 xs (x ∷ []) (omega arith) ∙ take_all 1048576 xs (omega arith))
