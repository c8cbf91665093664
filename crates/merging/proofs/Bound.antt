use Rattle.std.proofs.Common.{◌≡◌, ℕ, zero, suc, ◌+◌, ◌<◌, ◌≤◌, Bool, true, false, cond, not, eqb, List, [], ◌∷◌, ◌++◌, length, sym, refl, ⊎_elim, arith, length-append}
use Rattle.std.proofs.lemmas.Bool.{cases_lt, cases_Bool, and_parts, false≢true}
use Rattle.std.proofs.lemmas.Bool.Decides.{nat_tests}
use Rattle.merging.specs.declared.Tie.{Tie}
use Rattle.merging.specs.declared.Keys.{Keys}
use Rattle.merging.specs.Grid.{grid}
use Rattle.merging.specs.declared.Side.TheVariants.{Left, Right}
use Rattle.merging.specs.Ways.{alone, together, rank_on, on, when, rights, steps, mergings}

pub most : grid 5 4 ≡ 681
most = refl

least : (a b : ℕ) → 1 ≤ grid a b
least zero b = omega arith
least (suc a) zero = omega arith
least (suc a) (suc b) = omega (arith, least a b)

mono_a : (a b : ℕ) → grid a b ≤ grid (suc a) b
mono_a zero zero = omega arith
mono_a zero (suc b) = omega (arith, least 1 b)
mono_a (suc a) zero = omega arith
mono_a (suc a) (suc b) = omega arith

mono_b : (a b : ℕ) → grid a b ≤ grid a (suc b)
mono_b zero b = omega arith
mono_b (suc a) zero = omega (arith, least a 1)
mono_b (suc a) (suc b) = omega arith

up_b : (a b d : ℕ) → b ≤ d → grid a b ≤ grid a d
up_b a b zero le = let f : b ≡ 0 = omega arith in rw f (omega arith)
up_b a b (suc d) le = ⊎_elim (λ (h : b < suc d). omega (arith, up_b a b d (omega arith), mono_b a d)) (λ (h : suc d ≤ b). let f : b ≡ suc d = omega arith in rw f (omega arith)) (cases_lt b (suc d))

pub mono : (a b c d : ℕ) → a ≤ c → b ≤ d → grid a b ≤ grid c d
mono a b zero d la lb = let e : a ≡ 0 = omega arith in rw e (up_b zero b d lb)
mono a b (suc c) d la lb = ⊎_elim (λ (h : a < suc c). omega (arith, mono a b c d (omega arith) lb, mono_a c d))
    (λ (h : suc c ≤ a). let e : a ≡ suc c = omega arith in rw e (up_b (suc c) b d lb)) (cases_lt a (suc c))

-- how many of a list pass a test
abbrev pub count : (ℕ → Bool) → List ℕ → ℕ
count p [] = 0
count p (r ∷ rs) = cond (p r) (suc (count p rs)) (count p rs)

-- the ranks that are alone
abbrev pub lone : (Tie → ℕ) → List Tie → List ℕ → ℕ
lone f ts rs = count (λ r. alone f r ts) rs

length_when : {X : Type 0} (b : Bool) (xs : List X) → length (when b xs) ≡ cond b (length xs) 0
length_when true xs = refl
length_when false xs = refl

-- a rank that is alone does not meet one that is not
apart_left : (l r : ℕ) (ts : List Tie) → alone (rank_on Left) l ts ≡ true → alone (rank_on Right) r ts ≡ false → together l r ts ≡ false
apart_left l r [] a b = absurd (false≢true (sym b))
apart_left l r (t ∷ ts) a b =
    let rest = apart_left l r ts (and_parts (not (eqb t.left.rank l)) _ a).1 in
    grind (arith, nat_tests)

apart_right : (l r : ℕ) (ts : List Tie) → alone (rank_on Left) l ts ≡ false → alone (rank_on Right) r ts ≡ true → together l r ts ≡ false
apart_right l r [] a b = absurd (false≢true (sym a))
apart_right l r (t ∷ ts) a b =
    let rest : alone (rank_on Left) l ts ≡ false → together l r ts ≡ false = λ z. apart_right l r ts z (and_parts (not (eqb t.right.rank r)) _ b).1 in
    grind (arith, nat_tests)

few_rights : (ts : List Tie) (rs : List ℕ) (p : ℕ) (k : Keys) → length (rights ts rs p k) ≤ 1
few_rights ts [] p k = omega arith
few_rights ts (r ∷ rs) p k =
    let h = few_rights ts rs (p + 1) (on Right r (p + 1) k) in
    let e = length_when (alone (rank_on Right) r ts) (rights ts rs (p + 1) (on Right r (p + 1) k)) in
    ⊎_elim (λ t. grind arith) (λ t. grind arith) (cases_Bool (alone (rank_on Right) r ts))

sum_few : (x y z : Bool) (a b c : ℕ) (s t u : ℕ) → (x ≡ true → a ≤ s) → (y ≡ true → b ≤ t) → (z ≡ true → c ≤ u) → cond x a 0 + (cond y b 0 + cond z c 0) ≤ cond x s 0 + (cond y t 0 + cond z u 0)
sum_few true true true a b c s t u p q r = omega (arith, p refl, q refl, r refl)
sum_few true true false a b c s t u p q r = omega (arith, p refl, q refl)
sum_few true false true a b c s t u p q r = omega (arith, p refl, r refl)
sum_few true false false a b c s t u p q r = omega (arith, p refl)
sum_few false true true a b c s t u p q r = omega (arith, q refl, r refl)
sum_few false true false a b c s t u p q r = omega (arith, q refl)
sum_few false false true a b c s t u p q r = omega (arith, r refl)
sum_few false false false a b c s t u p q r = omega arith

-- the number of mergings at one place of the grid
joint : (x y z : Bool) (a b : ℕ) → (x ≡ true → y ≡ false → z ≡ false) → (x ≡ false → y ≡ true → z ≡ false)
    → cond x (grid a (cond y (suc b) b)) 0 + (cond y (grid (cond x (suc a) a) b) 0 + cond z (grid a b) 0) ≤ grid (cond x (suc a) a) (cond y (suc b) b)
joint true true true a b p q = omega arith
joint true true false a b p q = omega arith
joint true false true a b p q = absurd (false≢true (sym (p refl refl)))
joint true false false a b p q = omega (arith, mono_a a b)
joint false true true a b p q = absurd (false≢true (sym (q refl refl)))
joint false true false a b p q = omega (arith, mono_b a b)
joint false false true a b p q = omega arith
joint false false false a b p q = omega arith

few_steps : (ts : List Tie) (l a : ℕ) (go : List ℕ → ℕ → Keys → List Keys) → ((rs : List ℕ) (p : ℕ) (k : Keys) → length (go rs p k) ≤ grid a (lone (rank_on Right) ts rs))
    → (rs : List ℕ) (p : ℕ) (k : Keys) → length (steps ts l go rs p k) ≤ grid (cond (alone (rank_on Left) l ts) (suc a) a) (lone (rank_on Right) ts rs)
few_steps ts l a go h [] p k =
    let e = length_when (alone (rank_on Left) l ts) (go [] (p + 1) (on Left l (p + 1) k)) in
    let g = h [] (p + 1) (on Left l (p + 1) k) in
    let m = mono_a a 0 in
    ⊎_elim (λ t. grind arith) (λ t. grind arith) (cases_Bool (alone (rank_on Left) l ts))
few_steps ts l a go h (r ∷ rs) p k =
    let A = go (r ∷ rs) (p + 1) (on Left l (p + 1) k) in
    let B = steps ts l go rs (p + 1) (on Right r (p + 1) k) in
    let C = go rs (p + 1) (on Right r (p + 1) (on Left l (p + 1) k)) in
    let n = sum_few (alone (rank_on Left) l ts) (alone (rank_on Right) r ts) (together l r ts) (length A) (length B) (length C) _ _ _
    (λ _. h (r ∷ rs) (p + 1) (on Left l (p + 1) k)) (λ _. few_steps ts l a go h rs (p + 1) (on Right r (p + 1) k)) (λ _. h rs (p + 1) (on Right r (p + 1) (on Left l (p + 1) k))) in
    let j = joint (alone (rank_on Left) l ts) (alone (rank_on Right) r ts) (together l r ts) a (lone (rank_on Right) ts rs) (apart_left l r ts) (apart_right l r ts) in
    let e1 = length-append (when (alone (rank_on Left) l ts) A) (when (alone (rank_on Right) r ts) B ++ when (together l r ts) C) in
    let e2 = length-append (when (alone (rank_on Right) r ts) B) (when (together l r ts) C) in
    omega (arith, n, j, e1, e2, length_when (alone (rank_on Left) l ts) A, length_when (alone (rank_on Right) r ts) B, length_when (together l r ts) C)

-- no more mergings than ways through the ranks that are alone
pub few_mergings : (ts : List Tie) (ls rs : List ℕ) (p : ℕ) (k : Keys) → length (mergings ts ls rs p k) ≤ grid (lone (rank_on Left) ts ls) (lone (rank_on Right) ts rs)
few_mergings ts [] rs p k = few_rights ts rs p k
few_mergings ts (l ∷ ls) rs p k = few_steps ts l (lone (rank_on Left) ts ls) (mergings ts ls) (few_mergings ts ls) rs p k
