use Rattle.std.proofs.Common.{◌≡◌, ℕ, zero, suc, ◌+◌, ◌<◌, List, [], ◌∷◌, ◌++◌, length, get_or, take, drop, set, sym, refl, ap, ◌∙◌, add-zero, zero-add, add-one, arith}
use Rattle.ranking.specs.Items.{each}

pub length_each : {X : Type 0} (f : ℕ → X → X) (k : ℕ) (xs : List X) → length (each f k xs) ≡ length xs
length_each f k [] = refl
length_each f k (x ∷ xs) = ap suc (length_each f (suc k) xs)

-- what stands at each place
pub getD_each : {X : Type 0} (f : ℕ → X → X) (k : ℕ) (xs : List X) (i : ℕ) (d : X) → i < length xs → get_or (each f k xs) i d ≡ f (k + i) (get_or xs i d)
getD_each f k [] i d lt = absurd (omega arith)
getD_each f k (x ∷ xs) zero d lt = ap (λ n. f n x) (sym (add-zero k))
getD_each f k (x ∷ xs) (suc i) d lt =
    let e : suc k + i ≡ k + suc i = omega arith in
    getD_each f (suc k) xs i d (omega arith) ∙ ap (λ n. f n (get_or xs i d)) e

more : {X : Type 0} (f : ℕ → X → X) (k i : ℕ) (xs : List X) (d : X) → i < length xs → set (each f k (take i xs) ++ drop i xs) i (f (k + i) (get_or xs i d)) ≡ each f k (take (suc i) xs) ++ drop (suc i) xs
more f k zero [] d lt = absurd (omega arith)
more f k (suc i) [] d lt = absurd (omega arith)
more f k zero (x ∷ xs) d lt = ap (λ n. f n x ∷ xs) (add-zero k)
more f k (suc i) (x ∷ xs) d lt =
    let e : k + suc i ≡ suc k + i = omega arith in
    ap (λ n. f k x ∷ set (each f (suc k) (take i xs) ++ drop i xs) i (f n (get_or xs i d))) e ∙ ap (λ l. f k x ∷ l) (more f (suc k) i xs d (omega arith))

same_there : {X : Type 0} (f : ℕ → X → X) (k i : ℕ) (xs : List X) (d : X) → i < length xs → get_or (each f k (take i xs) ++ drop i xs) i d ≡ get_or xs i d
same_there f k zero [] d lt = refl
same_there f k (suc i) [] d lt = refl
same_there f k zero (x ∷ xs) d lt = refl
same_there f k (suc i) (x ∷ xs) d lt = same_there f (suc k) i xs d (omega arith)

-- a loop that writes f i x over each element x at i
pub each_over_more : {X : Type 0} (f : ℕ → X → X) (xs ys : List X) (i : ℕ) (x : X) → i < length xs → ys ≡ each f 0 (take i xs) ++ drop i xs → x ≡ get_or ys i x → set ys i (f i x) ≡ each f 0 (take (i + 1) xs) ++ drop (i + 1) xs
each_over_more f xs ys i x lt e at =
    let here : x ≡ get_or xs i x = at ∙ ap (λ l. get_or l i x) e ∙ same_there f 0 i xs x lt in
    ap (λ l. set l i (f i x)) e ∙ ap (λ y. set (each f 0 (take i xs) ++ drop i xs) i (f i y)) here
    ∙ ap (λ n. set (each f 0 (take i xs) ++ drop i xs) i (f n (get_or xs i x))) (sym (zero-add i))
    ∙ more f 0 i xs x lt ∙ ap (λ n. each f 0 (take n xs) ++ drop n xs) (sym (add-one i))
