use Rattle.std.proofs.Common.{◌≡◌, ℕ, suc, ◌+◌, ◌<◌, ◌≤◌, Bool, true, false, not, eqb, ◌&&◌, ◌||◌, List, [], ◌∷◌, length, get_or, drop, Some, None, Option, cond, refl, ap, ◌∙◌, add-one}
use Rattle.std.specs.List.{list_all, list_any, enumerate_from, position, position_from}
use Rattle.std.proofs.lemmas.Iterator.Adapters.{position_from-zero}
use Rattle.std.proofs.lemmas.List.{drop_more, drop_all}
use Rattle.abstraction.specs.Lists.{any}
use Rattle.automaton.specs.declared.rule.Rule.{Rule}
use Rattle.automaton.specs.declared.rule.Action.TheVariants.{Push}
use Rattle.judge.specs.Claims.{Claim, scope}
use Rattle.judge.specs.Judged.{opens_by}
use Rattle.judge.specs.declared.entry.Entry.{Entry}

-- the words of the specs are those that std's searches answer by

module _ {X : Type 0} where
  all_list : (p : X → Bool) (xs : List X) → list_all p xs ≡ list_all p xs
  all_list p [] = refl
  all_list p (x ∷ xs) = ap (λ b. p x && b) (all_list p xs)

  any_list : (p : X → Bool) (k : ℕ) (xs : List X) → list_any p xs ≡ any (λ _ x. p x) k xs
  any_list p k [] = refl
  any_list p k (x ∷ xs) = ap (λ b. p x || b) (any_list p (suc k) xs)

  any_counted : (p : ℕ → X → Bool) (k : ℕ) (xs : List X) → list_any (λ i. p i.0 i.1) (enumerate_from k xs) ≡ any p k xs
  any_counted p k [] = refl
  any_counted p k (x ∷ xs) =
      ap (λ b. p k x || b) (ap (λ n. list_any (λ i. p i.0 i.1) (enumerate_from n xs)) (add-one k) ∙ any_counted p (suc k) xs)

  pub all_from_list : (p : X → Bool) (xs : List X) (r : Bool) → r ≡ list_all p xs → r ≡ list_all p xs
  all_from_list p xs r h = h ∙ all_list p xs

  pub any_from_list : (p : X → Bool) (k : ℕ) (xs : List X) (r : Bool) → r ≡ list_any p xs → r ≡ any (λ _ x. p x) k xs
  any_from_list p k xs r h = h ∙ any_list p k xs

  pub any_from_counted : (p : ℕ → X → Bool) (k : ℕ) (xs : List X) (r : Bool) → r ≡ list_any (λ i. p i.0 i.1) (enumerate_from k xs) → r ≡ any p k xs
  any_from_counted p k xs r h = h ∙ any_counted p k xs

-- the place, counted from k, of the first element of which p does not hold
abbrev pub first_not : {X : Type 0} → (X → Bool) → ℕ → List X → Option ℕ
first_not p k xs = position_from (λ x. not (p x)) k xs

-- a loop over the elements: at its begin, past one, at one, and at its end
pub not_yet : {X : Type 0} (p : X → Bool) (xs : List X) → position (λ x. not (p x)) xs ≡ first_not p 0 xs
not_yet p xs = position_from-zero (λ x. not (p x)) xs

pub not_here : {X : Type 0} (p : X → Bool) (xs : List X) (i : ℕ) (d : X) → i < length xs → p (get_or xs i d) ≡ true → first_not p i (drop i xs) ≡ first_not p (i + 1) (drop (i + 1) xs)
not_here p xs i d h t = ap (first_not p i) (drop_more xs i d h) ∙ ap (λ b. cond (not b) (Some i) (first_not p (i + 1) (drop (i + 1) xs))) t

pub here : {X : Type 0} (p : X → Bool) (xs : List X) (i : ℕ) (d : X) → i < length xs → p (get_or xs i d) ≡ false → first_not p i (drop i xs) ≡ Some i
here p xs i d h t = ap (first_not p i) (drop_more xs i d h) ∙ ap (λ b. cond (not b) (Some i) (first_not p (i + 1) (drop (i + 1) xs))) t

pub nowhere : {X : Type 0} (p : X → Bool) (xs : List X) (i : ℕ) → length xs ≤ i → first_not p i (drop i xs) ≡ None
nowhere p xs i h = ap (first_not p i) (drop_all i xs h)

-- a push from e by the rule r comes to o as its list says
pub pushed_by : {S : Type 0} (z : Claim S) (e o : Entry S) (r : Rule) (l : ℕ) (b : Bool) → r.action ≡ Push l → eqb r.from e.state ≡ true → eqb r.to o.state ≡ true → eqb l o.label ≡ true → b ≡ list_any (λ s. z.answers.within (scope z) s o.shape) (z.answers.push (scope z) r.interval e.shape) → b ≡ opens_by z e o r
pushed_by z e o r l b is from to label h =
    rw (from, is, to, label) (any_from_list (λ s. z.answers.within (scope z) s o.shape) 0 _ b h)
