use Rattle.std.proofs.Common.{◌≡◌, ℕ, ◌+◌, Bool, true, false, ◌||◌, List, [], ◌∷◌, length, Some, None, Option, Iter, Bor, sym, ap, ◌∙◌, subst, arith, add-zero}
use Rattle.std.proofs.lemmas.Bool.{cond-true, cond-false, or_left}
use Rattle.std.proofs.lemmas.List.{nil_from_length}
use Rattle.std.proofs.iter.Yields.{fronts}
use Rattle.std.proofs.lemmas.Iterator.Adapters.{position_from-zero}
use Rattle.std.specs.Fn.{Called}
use Rattle.std.specs.Iterator.{Yields, YieldsThen}
use Rattle.std.specs.List.{FoldsTo, list_any, position, position_from}
use Rattle.std.specs.Option.{MatchOption}
use denote.Param.Members.{Mut}

-- searches over a slice by a closure that changes what it captures, and answers by what it keeps

module _ {A F : Type 0} {g : Mut F (Bor A × Unit {0}) Bool} (test : A → Bool) (keeps : F → Type 0)
    (call : (f : F) (x : Bor A) (b : Bool) (q : F) → keeps f → Called g f (x, tt) b q → (b ≡ test x.now) × keeps q) where
  any_end : (u t : Iter A) (o : Option (Bor A)) (j : F) (r : Bool) → keeps j → fronts t o u → MatchOption o (r ≡ false) (λ x. (r ≡ true) × ((h : F) × Called g j (x, tt) true h)) → r ≡ list_any test t.rest.now
  any_end u t None j r i n m = m ∙ ap (list_any test) (sym (nil_from_length _ n.0))
  any_end u t (Some x) j r i n m =
      m.0 ∙ sym (ap (list_any test) n ∙ or_left (test x.now) _ (sym (call j x true m.1.0 i m.1.1).0))

  any_runs : (u s t : Iter A) (xs : List (Bor A)) (o : Option (Bor A)) (f j : F) (r : Bool) → keeps f → Yields fronts s xs t → fronts t o u → FoldsTo (λ p x q. Called g p (x, tt) false q) f xs j → MatchOption o (r ≡ false) (λ x. (r ≡ true) × ((h : F) × Called g j (x, tt) true h)) → r ≡ list_any test s.rest.now
  any_runs u s t [] o f j r i y n c m =
      any_end u t o j r (subst keeps c i) n m ∙ ap (λ (w : Iter A). list_any test w.rest.now) (sym y)
  any_runs u s t (x ∷ xs) o f j r i y n c m =
      let k = call f x false c.0 i c.1 in
      any_runs u y.0 t xs o c.0 j r k.1 y.2 n c.2 m ∙ sym (ap (list_any test) y.1 ∙ ap (λ b. b || list_any test y.0.rest.now) (sym k.0))

  -- the clause `ran` of `any`
  pub any_kept : {s u : Iter A} {f : F} {r : Bool} (ys : List A) → s.rest.now ≡ ys → keeps f → (xs : List (Bor A)) × (o : Option (Bor A)) × (j : F) × YieldsThen fronts s xs o u × FoldsTo (λ p x q. Called g p (x, tt) false q) f xs j × MatchOption o (r ≡ false) (λ x. (r ≡ true) × ((h : F) × Called g j (x, tt) true h)) → r ≡ list_any test ys
  any_kept {s} {u} {f} {r} ys e i (xs, o, j, y, c, m) =
      any_runs u s y.0 xs o f j r i y.1 y.2 c m ∙ ap (list_any test) e

  position_end : (n m : ℕ) (u t : Iter A) (o : Option (Bor A)) (j : F) (r : Option ℕ) → m ≡ n → keeps j → fronts t o u → MatchOption o (r ≡ None) (λ x. (r ≡ Some m) × ((h : F) × Called g j (x, tt) true h)) → r ≡ position_from test n t.rest.now
  position_end n m u t None j r l i y a = a ∙ ap (position_from test n) (sym (nil_from_length _ y.0))
  position_end n m u t (Some x) j r l i y a =
      a.0 ∙ ap Some l ∙ sym (ap (position_from test n) y ∙ cond-true _ _ _ (sym (call j x true a.1.0 i a.1.1).0))

  position_runs : (n m : ℕ) (u s t : Iter A) (xs : List (Bor A)) (o : Option (Bor A)) (f j : F) (r : Option ℕ) → m ≡ n + length xs → keeps f → Yields fronts s xs t → fronts t o u → FoldsTo (λ p x q. Called g p (x, tt) false q) f xs j → MatchOption o (r ≡ None) (λ x. (r ≡ Some m) × ((h : F) × Called g j (x, tt) true h)) → r ≡ position_from test n s.rest.now
  position_runs n m u s t [] o f j r l i y c d a =
      position_end n m u t o j r (l ∙ add-zero n) (subst keeps d i) c a ∙ ap (λ (w : Iter A). position_from test n w.rest.now) (sym y)
  position_runs n m u s t (x ∷ xs) o f j r l i y c d a =
      let k = call f x false d.0 i d.1 in
      position_runs (n + 1) m u y.0 t xs o d.0 j r (omega arith) k.1 y.2 c d.2 a ∙ sym (ap (position_from test n) y.1 ∙ cond-false _ _ _ (sym k.0))

  -- the clause `ran` of `position`
  pub position_kept : {s u : Iter A} {f : F} {r : Option ℕ} (ys : List A) → s.rest.now ≡ ys → keeps f → (xs : List (Bor A)) × (o : Option (Bor A)) × (j : F) × YieldsThen fronts s xs o u × FoldsTo (λ p x q. Called g p (x, tt) false q) f xs j × MatchOption o (r ≡ None) (λ x. (r ≡ Some (length xs)) × ((h : F) × Called g j (x, tt) true h)) → r ≡ position test ys
  position_kept {s} {u} {f} {r} ys e i (xs, o, j, y, c, m) =
      position_runs 0 (length xs) u s y.0 xs o f j r (omega arith) i y.1 y.2 c m ∙ ap (position_from test 0) e ∙ sym (position_from-zero test ys)
