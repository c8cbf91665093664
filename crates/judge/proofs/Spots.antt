use Rattle.std.proofs.Common.{◌≡◌, ℕ, suc, Bool, true, false, cond, not, eqb, List, [], ◌∷◌, get_or, Some, None, Option, sym, refl, ap, ◌∙◌, add-one, ◌⊎◌, inl, inr}
use Rattle.std.proofs.Math.Bool.{not-not}
use Rattle.std.specs.List.{position, position_from}
use Rattle.std.specs.Option.{option_map}
use Rattle.std.proofs.lemmas.Bool.{cases_Bool, cond-true, cond-false}
use Rattle.std.proofs.lemmas.Iterator.Adapters.{position_from-zero}
use Rattle.fault.specs.Faults.Outcome.{accepted}
use Rattle.fault.specs.declared.Place.{Place}
use Rattle.abstraction.specs.Lists.{or_else, unless, fault}
use Rattle.judge.specs.Claims.{Claim}
use Rattle.judge.specs.Judged.{at_entry, at_rule, at_return, time_closed, rule_closed, opens, return_closed, return_fault, returns_fault, entry_fault, closure_fault, sizes_fit, entry_lawful, lawful_fault, table_begins, target_fault, unless_failed, unless_found, judged}
use Rattle.judge.specs.declared.entry.Entry.{Entry}

-- the place at fault, by the positions that the searches of a judgment come to

module _ {X Y : Type 0} (p q : X → Bool) (fails : (x : X) → not (p x) ≡ q x) (y : ℕ → Y) where
  turn : (b c : Bool) (k : ℕ) (r : Option Y) (o : Option ℕ) → not b ≡ c → r ≡ option_map y o → or_else (unless b (y k)) r ≡ option_map y (cond c (Some k) o)
  turn true c k r o e h = h ∙ ap (λ d. option_map y (cond d (Some k) o)) e
  turn false c k r o e h = ap (λ d. option_map y (cond d (Some k) o)) e

  fault_from : (k : ℕ) (xs : List X) → fault p y k xs ≡ option_map y (position_from q k xs)
  fault_from k [] = refl
  fault_from k (x ∷ xs) =
      turn (p x) (q x) k _ _ (fails x) (fault_from (suc k) xs ∙ ap (λ n. option_map y (position_from q n xs)) (sym (add-one k)))

  fault_by : (xs : List X) (o : Option ℕ) → o ≡ position q xs → fault p y 0 xs ≡ option_map y o
  fault_by xs o h = fault_from 0 xs ∙ ap (option_map y) (sym (h ∙ position_from-zero q xs))

fault_at : {X Y : Type 0} (p : X → Bool) (y : ℕ → Y) (xs : List X) (o : Option ℕ) → o ≡ position (λ x. not (p x)) xs → fault p y 0 xs ≡ option_map y o
fault_at p y = fault_by p (λ x. not (p x)) (λ x. refl) y

-- a claim by what is found of it
module _ {S : Type 0} (z : Claim S) where
  pub target_at : (o w : Option ℕ) → o ≡ position (λ e. eqb e.state z.automaton.target) z.table → o ≡ w → target_fault z ≡ option_map at_entry w
  target_at o w h e =
      fault_by (λ e. not (eqb e.state z.automaton.target)) (λ e. eqb e.state z.automaton.target) (λ e. not-not (eqb e.state z.automaton.target)) at_entry z.table o h ∙ ap (option_map at_entry) e

  pub lawful_at : (o w : Option ℕ) → o ≡ position (λ e. not (entry_lawful z e)) z.table → o ≡ w → lawful_fault z ≡ option_map at_entry w
  lawful_at o w h e = fault_at (entry_lawful z) at_entry z.table o h ∙ ap (option_map at_entry) e

  pub judged_by : (n : ℕ) (l t c : Option Place) (b : Bool) → sizes_fit z n ≡ true → lawful_fault z ≡ l → table_begins z z.table ≡ b → target_fault z ≡ t → closure_fault z ≡ c → judged z n ≡ unless_found l 19 (unless_failed b 20 (at_entry 0) (unless_found t 21 (unless_found c 22 (accepted tt))))
  judged_by n l t c b s h k m f = rw (s, h, k, m, f) refl

module _ {S : Type 0} (z : Claim S) (k : ℕ) (e : Entry S) where
  pub past_rules : (o : Option ℕ) → time_closed z e ≡ true → o ≡ position (λ r. not (rule_closed z e r)) z.automaton.rules → o ≡ None → entry_fault z k e ≡ returns_fault z k e
  past_rules o t h n = rw (t, fault_at (rule_closed z e) (at_rule k) z.automaton.rules o h, n) refl

  pub at_a_rule : (o : Option ℕ) (n : ℕ) → time_closed z e ≡ true → o ≡ position (λ r. not (rule_closed z e r)) z.automaton.rules → o ≡ Some n → entry_fault z k e ≡ Some (at_rule k n)
  at_a_rule o n t h s = rw (t, fault_at (rule_closed z e) (at_rule k) z.automaton.rules o h, s) refl

  module _ (j : ℕ) (u : Entry S) (o : Option ℕ) where
    pub at_a_pop : (n : ℕ) → opens z e (get_or z.table u.root e) ≡ true → o ≡ position (λ r. not (return_closed z e u r)) z.automaton.rules → o ≡ Some n → return_fault z k e j u ≡ Some (at_return k j n)
    at_a_pop n t h s =
        cond-true _ _ _ t ∙ fault_at (return_closed z e u) (at_return k j) z.automaton.rules o h ∙ ap (option_map (at_return k j)) s

    pub no_pop : (opens z e (get_or z.table u.root e) ≡ false) ⊎ ((o ≡ position (λ r. not (return_closed z e u r)) z.automaton.rules) × (o ≡ None)) → return_fault z k e j u ≡ None
    no_pop (inl f) = cond-false _ _ _ f
    no_pop (inr (h, n)) = elim (cases_Bool (opens z e (get_or z.table u.root e))) [
      | inl t ↦
          cond-true _ _ _ t ∙ fault_at (return_closed z e u) (at_return k j) z.automaton.rules o h ∙ ap (option_map (at_return k j)) n
      | inr t ↦ cond-false _ _ _ t
    ]
