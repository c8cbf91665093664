use Rattle.std.proofs.Common.{◌≡◌, ℕ, suc, ◌+◌, ◌<◌, ◌≤◌, List, ◌∷◌, length, get_or, drop, Some, None, Option, sym, ap, ◌∙◌, add-one}
use Rattle.std.proofs.lemmas.List.{drop_more, drop_all}
use Rattle.abstraction.specs.Lists.{or_else, first}

-- one step of a walk: what is left to look at at i is the element at i and what is left at i + 1
pub left_more : {X : Type 0} (xs : List X) (i : ℕ) (x : X) → i < length xs → x ≡ get_or xs i x → drop i xs ≡ x ∷ drop (i + 1) xs
left_more xs i x h e = drop_more xs i x h ∙ ap (λ y. y ∷ drop (i + 1) xs) (sym e)

pub first_on : {X Y : Type 0} (p : ℕ → X → Option Y) (xs : List X) (i : ℕ) (x : X) → i < length xs → x ≡ get_or xs i x → p i x ≡ None → first p i (drop i xs) ≡ first p (i + 1) (drop (i + 1) xs)
first_on p xs i x h e t = ap (first p i) (left_more xs i x h e) ∙ ap (λ b. or_else b (first p (suc i) (drop (i + 1) xs))) t ∙ ap (λ n. first p n (drop (i + 1) xs)) (sym (add-one i))

pub first_off : {X Y : Type 0} (p : ℕ → X → Option Y) (xs : List X) (i : ℕ) (x : X) (y : Y) → i < length xs → x ≡ get_or xs i x → p i x ≡ Some y → first p i (drop i xs) ≡ Some y
first_off p xs i x y h e t = ap (first p i) (left_more xs i x h e) ∙ ap (λ b. or_else b (first p (suc i) (drop (i + 1) xs))) t

pub first_end : {X Y : Type 0} (p : ℕ → X → Option Y) (xs : List X) (i : ℕ) → length xs ≤ i → first p i (drop i xs) ≡ None
first_end p xs i h = ap (first p i) (drop_all i xs h)
