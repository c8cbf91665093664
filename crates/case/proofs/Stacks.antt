use Rattle.std.proofs.Common.{◌≡◌, ℕ, ◌<◌, Bool, true, List, [], ◌∷◌, ◌++◌, map, reverse, length, get_or, take, drop, refl, ap, ◌∙◌}
use mathlib.Core.List.{reverse-cons}
use Rattle.std.specs.List.{list_all}
use Rattle.std.proofs.Math.Bool.{and-true, and_comm}
use Rattle.std.proofs.lemmas.List.{map-append}
use Rattle.std.proofs.lemmas.List.Elements.{All-get_or}
use Rattle.std.proofs.lemmas.List.Sums.{AllPass-from_list_all}
use Rattle.std.proofs.lemmas.List.Folds.{list_all-append}
use Rattle.automaton.proofs.InPlace.{map_over_here}

-- what goes through a list in either order

pub all_reverse : {X : Type 0} (p : X → Bool) (xs : List X) → list_all p (reverse xs) ≡ list_all p xs
all_reverse p [] = refl
all_reverse p (x ∷ xs) = rw (reverse-cons x xs, list_all-append, all_reverse p xs, and-true) (and_comm (list_all p xs) (p x))

pub map_reverse : {X Y : Type 0} (f : X → Y) (xs : List X) → reverse (map f xs) ≡ map f (reverse xs)
map_reverse f [] = refl
map_reverse f (x ∷ xs) = rw (reverse-cons (f x) (map f xs), map_reverse f xs, reverse-cons x xs, map-append) refl

-- an element that a map in place has not reached yet passes the test that all passed
pub holds_here : {X : Type 0} (p : X → Bool) (f : X → X) (xs ys : List X) (i : ℕ) (d : X) → i < length xs → ys ≡ map f (take i xs) ++ drop i xs → list_all p xs ≡ true → p (get_or ys i d) ≡ true
holds_here p f xs ys i d h e t =
    ap (λ zs. p (get_or zs i d)) e ∙ ap p (map_over_here f xs i d h) ∙ All-get_or (λ y. p y ≡ true) xs i d h (AllPass-from_list_all p xs t)
