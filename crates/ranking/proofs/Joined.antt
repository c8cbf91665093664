use Rattle.std.proofs.Common.{◌≡◌, ℕ, zero, suc, ◌+◌, ◌*◌, ◌<◌, ◌≤◌, true, false, eqb, ◌⊎◌, List, [], ◌∷◌, ◌++◌, length, get_or, Decides, sym, refl, ap, ◌∙◌, subst, inl, inr, ⊎_elim, suc-mul, arith}
use Rattle.std.specs.List.{ContainsAt as Has}
use Rattle.std.proofs.lemmas.List.{length_push, get_or_push, get_or_append_left, get_or_default}
use Rattle.std.proofs.ByRecursion.{has_push, has_push_cases, has_append_left}
use Rattle.std.proofs.lemmas.Bool.{cases_Bool, cases_lt, and_parts, and_from, eqb-true, eq-eqb, cond-true, cond-false}
use Rattle.std.proofs.lemmas.Bool.Decides.{Decides-by_or, not_from_Decides, Decides-like}
use Rattle.std.proofs.lemmas.Slice.Eq.{slice_eq-Decides}
use Rattle.abstraction.specs.Lists.{In}
use Rattle.abstraction.specs.Room.{added}
use Rattle.abstraction.proofs.Room.{added_fits}
use Rattle.ranking.specs.declared.Item.{Item}
use Rattle.ranking.specs.declared.Region.{Region}
use Rattle.ranking.specs.Items.{with_items}
use Rattle.ranking.specs.Joined.{item_eq, same_region, lists, join, repeat, Adds, Below}

made_of : ℕ → ℕ → Item
made_of w r = record { whole = w; rank = r }

pub same_item : (a b : Item) → a.whole ≡ b.whole → a.rank ≡ b.rank → a ≡ b
unfolding made_of
same_item a b p q = ap (λ w. made_of w a.rank) p ∙ ap (λ r. made_of b.whole r) q

pub region_same : (a b : Region) → a.items ≡ b.items → a ≡ b
region_same a b e = ap with_items e

-- the test on two items, and on two regions, decides whether they are equal
pub item_eq_decides : (a b : Item) → Decides (item_eq a b) (a ≡ b)
item_eq_decides a b = (
  (λ h. let p = and_parts (eqb a.whole b.whole) (eqb a.rank b.rank) h in same_item a b (eqb-true _ _ p.0) (eqb-true _ _ p.1)),
  λ e. subst (λ x. item_eq a x ≡ true) e (and_from (eqb a.whole a.whole) (eqb a.rank a.rank) (eq-eqb _ _ refl) (eq-eqb _ _ refl)),
)

pub same_decides : (a b : Region) → Decides (same_region a b) (a ≡ b)
same_decides a b = Decides-like (same_region a b) (region_same a b) (λ e. ap (λ r. r.items) e) (slice_eq-Decides item_eq_decides a.items b.items (same_region a b) refl)

pub lists_decides : (xs : List Region) (r : Region) → Decides (lists xs r) (Has xs r)
lists_decides xs r = Decides-by_or (λ x. same_region x r) (λ x. x ≡ r) (λ ys. lists ys r) (λ x. same_decides x r) refl (λ _ _. refl) xs

place : {X : Type 0} (xs : List X) (x : X) (i : ℕ) (d : X) → i < length (xs ++ x ∷ []) → ((i < length xs) × (get_or (xs ++ x ∷ []) i d ≡ get_or xs i d)) ⊎ ((i ≡ length xs) × (get_or (xs ++ x ∷ []) i d ≡ x))
place xs x i d lt =
    ⊎_elim
    (λ (h : i < length xs). inl (h, get_or_append_left xs (x ∷ []) d i h))
    (λ (h : length xs ≤ i). let e : i ≡ length xs = omega (arith, length_push xs x) in inr (e, get_or_push xs x d i (sym e)))
    (cases_lt i (length xs))

found_at : {X : Type 0} (xs : List X) (x : X) (i : ℕ) (d : X) → i < length xs → get_or xs i d ≡ x → In xs x
found_at xs x i d lt e = (i, (lt, λ d'. get_or_default xs i d' d lt ∙ e))

-- the two words for standing in a list
pub in_from_has : {X : Type 0} (xs : List X) (x : X) → Has xs x → In xs x
in_from_has xs x h = (h.0, (h.1, h.2))

pub has_from_in : {X : Type 0} (xs : List X) (x : X) → In xs x → Has xs x
has_from_in xs x h = (h.0, h.1.0, h.1.1)

adds_old : {X : Type 0} (xs : List X) (y : X) → In xs y → Adds 1 (λ x. x ≡ y) xs xs
adds_old xs y h = record { few = omega arith; keeps = λ x k. k; each = λ x e. rw e h; only = λ x k. inl k; once = λ o. o }

adds_new : {X : Type 0} (xs : List X) (y : X) → (In xs y → ⊥) → Adds 1 (λ x. x ≡ y) xs (xs ++ y ∷ [])
adds_new xs y n = record {
  few = omega (arith, length_push xs y);
  keeps = λ x h. in_from_has _ x (has_append_left xs (y ∷ []) x (has_from_in xs x h));
  each = λ x e. rw e (in_from_has _ y (has_push xs y));
  only = λ x h. ⊎_elim (λ k. inl (in_from_has xs x k)) (λ k. inr (sym k)) (has_push_cases xs y x (has_from_in _ x h));
  once = λ o i j d li lj e.
      ⊎_elim
      (λ a. ⊎_elim
      (λ b. o i j d a.0 b.0 (sym a.1 ∙ e ∙ b.1))
      (λ b. absurd (n (found_at xs y i d a.0 (sym a.1 ∙ e ∙ b.1))))
      (place xs y j d lj))
      (λ a. ⊎_elim
      (λ b. absurd (n (found_at xs y j d b.0 (sym b.1 ∙ sym e ∙ a.1))))
      (λ b. a.0 ∙ sym b.0)
      (place xs y j d lj))
      (place xs y i d li);
}

-- where there is room, joining adds the region, once
pub join_adds : (xs : List Region) (r : Region) → length xs < 1048576 → Adds 1 (λ x. x ≡ r) xs (join xs r)
join_adds xs r room = ⊎_elim
    (λ (t : lists xs r ≡ true). rw (cond-true (lists xs r) xs (added xs r) t) (adds_old xs r (in_from_has xs r ((lists_decides xs r).0 t))))
    (λ (t : lists xs r ≡ false).
    let n : In xs r → ⊥ = λ h. not_from_Decides (lists xs r) (lists_decides xs r) t (has_from_in xs r h) in
    let e : join xs r ≡ xs ++ r ∷ [] = cond-false (lists xs r) xs (added xs r) t ∙ sym (added_fits xs (xs ++ r ∷ []) r room refl) in
    rw e (adds_new xs r n))
    (cases_Bool (lists xs r))

module _ {X : Type 0} where
  pub adds_none : (n : ℕ) (P : X → Type 0) (a : List X) → ((x : X) → P x → ⊥) → Adds n P a a
  adds_none n P a nil = record { few = omega arith; keeps = λ x h. h; each = λ x p. absurd (nil x p); only = λ x h. inl h; once = λ o. o }

  -- the same additions in other words
  pub adds_like : (n : ℕ) (P Q : X → Type 0) (a b : List X) → ((x : X) → P x → Q x) → ((x : X) → Q x → P x) → Adds n P a b → Adds n Q a b
  adds_like n P Q a b f g p = record { few = p.few; keeps = p.keeps; each = λ x q. p.each x (g x q); only = λ x h. ⊎_elim (λ k. inl k) (λ k. inr (f x k)) (p.only x h); once = p.once }

  -- one after the other
  pub adds_then : (n m : ℕ) (P Q : X → Type 0) (a b c : List X) → Adds n P a b → Adds m Q b c → Adds (n + m) (λ x. P x ⊎ Q x) a c
  adds_then n m P Q a b c p q = record {
    few = omega (arith, p.few, q.few);
    keeps = λ x h. q.keeps x (p.keeps x h);
    each = λ x h. ⊎_elim (λ k. q.keeps x (p.each x k)) (λ k. q.each x k) h;
    only = λ x h. ⊎_elim (λ k. ⊎_elim (λ j. inl j) (λ j. inr (inl j)) (p.only x k)) (λ k. inr (inr k)) (q.only x h);
    once = λ o. q.once (p.once o);
  }

  adds_more : (Q : ℕ → X → Type 0) (n c s : ℕ) (a b d : List X) → Adds s (Below Q n) a b → Adds c (Q n) b d → Adds (c + s) (Below Q (suc n)) a d
  adds_more Q n c s a b d p q = record {
    few = omega (arith, p.few, q.few);
    keeps = λ x h. q.keeps x (p.keeps x h);
    each = λ x h. ⊎_elim (λ (l : h.0 < n). q.keeps x (p.each x (h.0, l, h.2))) (λ (g : n ≤ h.0). let e : h.0 ≡ n = omega (arith, h.1) in q.each x (subst (λ k. Q k x) e h.2)) (cases_lt h.0 n);
    only = λ x h. ⊎_elim (λ k. ⊎_elim (λ j. inl j) (λ j. inr (j.0, omega (arith, j.1), j.2)) (p.only x k)) (λ k. inr (n, omega arith, k)) (q.only x h);
    once = λ o. q.once (p.once o);
  }

  -- n additions in turn, of at most c elements each
  pub repeat_adds : (Q : ℕ → X → Type 0) (f : ℕ → List X → List X) (room c : ℕ) → ((k : ℕ) (b : List X) → length b + c ≤ room → Adds c (Q k) b (f k b))
      → (n : ℕ) (a : List X) → length a + n * c ≤ room → Adds (n * c) (Below Q n) a (repeat n f a)
  repeat_adds Q f room c step zero a le = adds_none (0 * c) _ a (λ x h. omega (arith, h.1))
  repeat_adds Q f room c step (suc n) a le =
      let e : suc n * c ≡ c + n * c = omega (arith, suc-mul n c) in
      let p = repeat_adds Q f room c step n a (omega arith) in
      let q = step n (repeat n f a) (omega (arith, p.few)) in
      rw e (adds_more Q n c (n * c) a _ _ p q)
