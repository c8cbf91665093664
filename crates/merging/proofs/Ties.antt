use Rattle.std.proofs.Common.{◌≡◌, ℕ, zero, suc, ◌+◌, ◌*◌, ◌<◌, ◌≤◌, min, Bool, true, false, ◌&&◌, eqb, leb, List, [], ◌∷◌, length, get_or, take, drop, sym, refl, ap, ◌∙◌, subst, ⊎_elim, arith}
use Rattle.std.specs.List.{list_all, range_with_len, AllByRecursion}
use Rattle.std.proofs.lemmas.List.{get_or-take, get_or-drop, get_or_past, length-take, length-drop}
use Rattle.std.proofs.ByRecursion.{All-get_or}
use Rattle.std.proofs.lemmas.Bool.{cases_lt, and_parts, and_from, eqb-true, eq-eqb, leb-true}
use Rattle.std.proofs.lemmas.Bool.Decides.{nat_tests}
use Rattle.ranking.specs.declared.Item.{Item}
use Rattle.ranking.specs.Items.{none}
use Rattle.merging.specs.declared.Tie.{Tie}
use Rattle.merging.specs.Ways.{same_test}
use Rattle.merging.specs.Pop.{blank_tie, tie, ties_of, shared, like, in_order, agrees, upto}

pub all_from : {X : Type 0} (p : X → Bool) (xs : List X) → AllByRecursion (λ x. p x ≡ true) xs → list_all p xs ≡ true
all_from p [] h = refl
all_from p (x ∷ xs) h = and_from (p x) (list_all p xs) h.0 (all_from p xs h.1)

pub all_to : {X : Type 0} (p : X → Bool) (xs : List X) → list_all p xs ≡ true → AllByRecursion (λ x. p x ≡ true) xs
all_to p [] h = tt
all_to p (x ∷ xs) h = let a = and_parts (p x) (list_all p xs) h in (a.0, all_to p xs a.1)

ties_at : (ls rs : List Item) (i : ℕ) → i < 5 → get_or (ties_of ls rs) i blank_tie ≡ tie ls rs i
ties_at ls rs zero lt = refl
ties_at ls rs (suc zero) lt = refl
ties_at ls rs (suc (suc zero)) lt = refl
ties_at ls rs (suc (suc (suc zero))) lt = refl
ties_at ls rs (suc (suc (suc (suc zero)))) lt = refl
ties_at ls rs (suc (suc (suc (suc (suc i))))) lt = absurd (omega arith)

pub ties_get : (P : Tie → Type 0) (ls rs : List Item) → AllByRecursion P (ties_of ls rs) → (i : ℕ) → i < 5 → P (tie ls rs i)
ties_get P ls rs a i lt = subst P (ties_at ls rs i lt) (All-get_or P (ties_of ls rs) i blank_tie lt a)

pub ties_make : (P : Tie → Type 0) (ls rs : List Item) → ((i : ℕ) → P (tie ls rs i)) → AllByRecursion P (ties_of ls rs)
ties_make P ls rs h = (h 0, (h 1, (h 2, (h 3, (h 4, tt)))))

abbrev pub as_tie : Item → Item → Tie
as_tie a b = record { left = a; right = b }

module _ (n : ℕ) (xs us : List Item) (lx : length xs ≡ 2 * n + 4) (lu : length us ≡ 2 * n + 3) where
  pub tie_here : (i : ℕ) → i < n + 2 → tie (take (n + 2) xs) (drop (n + 1) us) i ≡ as_tie (get_or xs i none) (get_or us (n + 1 + i) none)
  tie_here i lt = ap (λ a. as_tie a (get_or (drop (n + 1) us) i none)) (get_or-take (n + 2) xs i none lt) ∙ ap (as_tie (get_or xs i none)) (get_or-drop (n + 1) us i none)

  pub tie_past : (i : ℕ) → n + 2 ≤ i → tie (take (n + 2) xs) (drop (n + 1) us) i ≡ blank_tie
  tie_past i le =
      ap (λ a. as_tie a (get_or (drop (n + 1) us) i none)) (get_or_past (take (n + 2) xs) i none (omega (arith, length-take (n + 2) xs)))
      ∙ ap (as_tie none) (get_or_past (drop (n + 1) us) i none (omega (arith, length-drop (n + 1) us)))

  -- what holds of the items in common and of a blank holds of all ties
  pub ties_by : (P : Tie → Type 0) → ((i : ℕ) → i < n + 2 → P (as_tie (get_or xs i none) (get_or us (n + 1 + i) none))) → P blank_tie → AllByRecursion P (shared n xs us)
  ties_by P h b = ties_make P (take (n + 2) xs) (drop (n + 1) us) (λ i. ⊎_elim (λ (lt : i < n + 2). subst P (sym (tie_here i lt)) (h i lt)) (λ (ge : n + 2 ≤ i). subst P (sym (tie_past i ge)) b) (cases_lt i (n + 2)))

  pub ties_of_all : n ≤ 3 → (P : Tie → Type 0) → AllByRecursion P (shared n xs us) → (i : ℕ) → i < n + 2 → P (as_tie (get_or xs i none) (get_or us (n + 1 + i) none))
  ties_of_all few P a i lt = subst P (tie_here i lt) (ties_get P (take (n + 2) xs) (drop (n + 1) us) a i (omega arith))

-- the ranks up to k
take_counting : (a b i : ℕ) → a ≤ b → take a (range_with_len i b) ≡ range_with_len i a
take_counting zero b i le = refl
take_counting (suc a) zero i le = absurd (omega arith)
take_counting (suc a) (suc b) i le = ap (λ l. i ∷ l) (take_counting a b (i + 1) (omega arith))

pub upto_is : (k : ℕ) → k ≤ 10 → upto k ≡ range_with_len 1 k
upto_is k le = let e : min k 10 ≡ k = omega arith in ap (λ a. take a (range_with_len 1 10)) e ∙ take_counting k 10 1 le

same_true : (a b : Bool) → (a ≡ true → b ≡ true) → (b ≡ true → a ≡ true) → same_test a b ≡ true
same_true true b f g = f refl
same_true false true f g = absurd (let z = g refl in let x : ◌≡◌ {A = ℕ} 0 1 = cc in omega arith)
same_true false false f g = refl

pub like_from : (a b : Item) → a.whole ≡ b.whole → (a.rank ≡ 0 → b.rank ≡ 0) → (b.rank ≡ 0 → a.rank ≡ 0) → like (as_tie a b) ≡ true
like_from a b w f g = and_from (eqb a.whole b.whole) _ (eq-eqb _ _ w) (same_true (eqb a.rank 0) (eqb b.rank 0) (λ e. eq-eqb _ _ (f (eqb-true _ _ e))) (λ e. eq-eqb _ _ (g (eqb-true _ _ e))))

pub like_to : (t : Tie) → like t ≡ true → (t.left.whole ≡ t.right.whole) × (t.left.rank ≡ 0 → t.right.rank ≡ 0) × (t.right.rank ≡ 0 → t.left.rank ≡ 0)
like_to t e = let p = and_parts (eqb t.left.whole t.right.whole) _ e in let q = p.1 in (eqb-true _ _ p.0, (λ z. grind (arith, nat_tests)), (λ z. grind (arith, nat_tests)))

pub in_order_from : (t v : Tie) → (t.left.rank ≤ v.left.rank → t.right.rank ≤ v.right.rank) → (t.right.rank ≤ v.right.rank → t.left.rank ≤ v.left.rank) → in_order t v ≡ true
in_order_from t v f g = same_true (leb t.left.rank v.left.rank) (leb t.right.rank v.right.rank) (λ e. let h = f (leb-true _ _ e) in grind (arith, nat_tests)) (λ e. let h = g (leb-true _ _ e) in grind (arith, nat_tests))

pub likes : (ts : List Tie) → agrees ts ≡ true → AllByRecursion (λ t. like t ≡ true) ts
likes ts e = go ts (all_to (λ t. like t && list_all (in_order t) ts) ts e)
  where
    go : (us : List Tie) → AllByRecursion (λ t. (like t && list_all (in_order t) ts) ≡ true) us → AllByRecursion (λ t. like t ≡ true) us
    go [] a = tt
    go (t ∷ us) a = ((and_parts (like t) (list_all (in_order t) ts) a.0).0, go us a.1)
