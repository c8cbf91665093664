use Rattle.std.proofs.Common.{◌≡◌, ℕ, zero, suc, ◌+◌, ◌<◌, ◌≤◌, min, Bool, true, false, cond, ltb, List, [], ◌∷◌, map, filter, fold, Some, None, Option, sym, refl, ap, ◌∙◌, subst, ⊎_elim, arith}
use Rattle.std.specs.List.{reduce}
use Rattle.std.proofs.lemmas.Bool.{cases_Bool, cases_lt, ltb-true, ltb-false}
use Rattle.std.proofs.lemmas.Bool.Decides.{nat_tests}
use Rattle.ranking.specs.declared.Item.{Item}
use Rattle.ranking.specs.Close.{has_rank, lesser, next_rank, steps}

pub lesser_assoc : (a b c : Option ℕ) → lesser (lesser a b) c ≡ lesser a (lesser b c)
lesser_assoc None b c = refl
lesser_assoc (Some k) None c = refl
lesser_assoc (Some k) (Some l) None = refl
lesser_assoc (Some k) (Some l) (Some n) = let e : min (min k l) n ≡ min k (min l n) = omega arith in ap Some e

least_first : (k : ℕ) (ks : List ℕ) → Some (fold min k ks) ≡ lesser (Some k) (reduce min ks)
least_first k [] = refl
least_first k (l ∷ ks) = least_first (min k l) ks ∙ lesser_assoc (Some k) (Some l) (reduce min ks) ∙ ap (lesser (Some k)) (sym (least_first l ks))

-- the least of the ranks above a
pub least_next : (xs : List Item) (a : ℕ) → reduce min (filter (ltb a) (map (λ x. x.rank) xs)) ≡ next_rank xs a
least_next [] a = refl
least_next (x ∷ xs) a =
    let rest = filter (ltb a) (map (λ x. x.rank) xs) in
    ⊎_elim
    (λ (t : ltb a x.rank ≡ true). rw t (least_first x.rank rest ∙ ap (lesser (Some x.rank)) (least_next xs a)))
    (λ (f : ltb a x.rank ≡ false). rw f (least_next xs a))
    (cases_Bool (ltb a x.rank))

-- what is above a and in use, and nothing between
abbrev Found : List Item → ℕ → Option ℕ → Type 0
Found xs a None = (j : ℕ) → a < j → has_rank xs j ≡ false
Found xs a (Some k) = (a < k) × (has_rank xs k ≡ true) × ((j : ℕ) → a < j → j < k → has_rank xs j ≡ false)

more : (x : Item) (xs : List Item) (a : ℕ) (t : Bool) → ltb a x.rank ≡ t → (o : Option ℕ) → Found xs a o → Found (x ∷ xs) a (lesser (cond t (Some x.rank) None) o)
more x xs a true e None f =
    let lt = ltb-true a x.rank e in
    (lt, grind (arith, nat_tests), λ j l g. let h = f j l in grind (arith, nat_tests))
more x xs a false e None f =
    let le = ltb-false a x.rank e in
    λ j l. let h = f j l in grind (arith, nat_tests)
more x xs a true e (Some k) f =
    let lt = ltb-true a x.rank e in
    let f0 = f.0 in
    let f1 = f.1 in
    ⊎_elim
    (λ (s : k < x.rank). let m : min x.rank k ≡ k = omega arith in
    rw m (f0, grind (arith, nat_tests), λ j l g. let h = f.2 j l g in grind (arith, nat_tests)))
    (λ (s : x.rank ≤ k). let m : min x.rank k ≡ x.rank = omega arith in
    rw m (lt, grind (arith, nat_tests), λ j l g. let h = f.2 j l (omega arith) in grind (arith, nat_tests)))
    (cases_lt k x.rank)
more x xs a false e (Some k) f =
    let le = ltb-false a x.rank e in
    let f1 = f.1 in
    (f.0, grind (arith, nat_tests), λ j l g. let h = f.2 j l g in grind (arith, nat_tests))

-- the next rank is what it should be
pub next_found : (xs : List Item) (a : ℕ) → Found xs a (next_rank xs a)
next_found [] a = λ j lt. refl
next_found (x ∷ xs) a = more x xs a (ltb a x.rank) refl (next_rank xs a) (next_found xs a)

pub found_some : (xs : List Item) (a k : ℕ) → next_rank xs a ≡ Some k → (a < k) × (has_rank xs k ≡ true) × ((j : ℕ) → a < j → j < k → has_rank xs j ≡ false)
found_some xs a k e = subst (Found xs a) e (next_found xs a)

pub found_none : (xs : List Item) (a : ℕ) → next_rank xs a ≡ None → (j : ℕ) → a < j → has_rank xs j ≡ false
found_none xs a e = subst (Found xs a) e (next_found xs a)

-- numbers that are not used do not count
pub steps_flat : (u : ℕ → Bool) (a b : ℕ) → a ≤ b → ((j : ℕ) → a < j → j ≤ b → u j ≡ false) → steps u b ≡ steps u a
steps_flat u a zero le n = let e : a ≡ 0 = omega arith in rw e
steps_flat u a (suc b) le n = ⊎_elim
    (λ (h : b < a). let e : a ≡ suc b = omega arith in rw e)
    (λ (h : a ≤ b). let s = steps_flat u a b h (λ j l g. n j l (omega arith)) in let f = n (suc b) (omega arith) (omega arith) in grind arith)
    (cases_lt b a)

pub steps_next : (xs : List Item) (a k : ℕ) → next_rank xs a ≡ Some k → steps (has_rank xs) k ≡ steps (has_rank xs) a + 1
steps_next xs a zero e = absurd (omega (arith, (found_some xs a 0 e).0))
steps_next xs a (suc k) e =
    let f = found_some xs a (suc k) e in
    let t = f.1 in
    let s = steps_flat (has_rank xs) a k (omega (arith, f.0)) (λ j l g. f.2 j l (omega arith)) in
    grind arith

pub steps_over : (xs : List Item) (a k n : ℕ) → next_rank xs a ≡ Some k → a ≤ n → n < k → steps (has_rank xs) n ≡ steps (has_rank xs) a
steps_over xs a k n e le lt = let f = found_some xs a k e in steps_flat (has_rank xs) a n le (λ j l g. f.2 j l (omega arith))

pub steps_end : (xs : List Item) (a n : ℕ) → next_rank xs a ≡ None → a ≤ n → steps (has_rank xs) n ≡ steps (has_rank xs) a
steps_end xs a n e le = let f = found_none xs a e in steps_flat (has_rank xs) a n le (λ j l g. f j l)
