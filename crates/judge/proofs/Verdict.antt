use Rattle.std.proofs.Common.{◌≡◌, ℕ, Bool, true, false, not, eqb, Some, None, Option, sym, refl, ◌∙◌, subst, arith}
use Rattle.std.proofs.lemmas.List.{get_or_default}
use Rattle.std.proofs.lemmas.Bool.Decides.{Decides-eqb, Decides-not, not_from_Decides}
use Rattle.fault.specs.Faults.Outcome.{accepted, refused}
use Rattle.fault.specs.declared.Layer.TheVariants.{Evidence}
use Rattle.fault.specs.declared.Place.{Place}
use Rattle.fault.specs.declared.Place.TheVariants.{Table}
use Rattle.abstraction.specs.Lists.{In}
use Rattle.judge.specs.Claims.{Claim}
use Rattle.judge.specs.Judged.{at_entry, sizes_fit, entry_lawful, lawful_fault, table_begins, target_fault, closure_fault, unless_failed, unless_found, judged}
use Rattle.judge.specs.Closed.{Closed, Fit, LawfulEntry, Begins, Avoids, Lawful}
use Rattle.judge.specs.Law.{Refused, Law}
use Rattle.judge.specs.Law.Refused.{unfit, unlawful, elsewhere, in_target, not_closed}
use Rattle.judge.specs.Marks.{Rooted}
use Rattle.judge.specs.declared.entry.Entry.{Entry}
use Rattle.judge.proofs.Reflect.{fitting, allowing, starting}
use Rattle.judge.proofs.Firsts.{first_without, none_without, closed_none, first_open, open_not_closed}

-- what is judged is what the law says

-- the root of each entry is a place of the table, once no entry is at fault
pub rooted_from : {S : Type 0} (z : Claim S) → lawful_fault z ≡ None → Rooted z.table
rooted_from z h k e l i =
    (none_without z (entry_lawful z) (LawfulEntry z) (allowing z) h e (k, (l, λ d. get_or_default z.table k d e l ∙ sym i))).rooted.0.0

module _ {S : Type 0} (z : Claim S) (n : ℕ) where
  Entries : Type 0
  Entries = (e : Entry S) → In z.table e → LawfulEntry z e

  refusal : (f : ℕ) (p : Place) → (Lawful z n → Closed z → ⊥) → Refused z n f p → Law z n (refused f Evidence p)
  refusal f p never w =
      record {
        accepts = λ h. absurd (let x : ◌≡◌ {A = ℕ} 0 1 = cc in omega arith);
        only = λ l c. absurd (never l c);
        refuses = λ g l q h.
            let a : f ≡ g = cc in
            let b : p ≡ q = cc in
            (cc, subst (λ x. Refused z n x q) a (subst (λ y. Refused z n f y) b w));
      }

  by_closure : Fit z n → Entries → Begins z → Avoids z → (o : Option Place) → closure_fault z ≡ o → Law z n (unless_found o 22 (accepted tt))
  unfolding Entries
  by_closure f l b a None h =
      record {
        accepts = λ _. (record { fit = f; entries = l; begins = b; avoids = a }, closed_none z l h);
        only = λ _ _. refl;
        refuses = λ g y q e. absurd (let x : ◌≡◌ {A = ℕ} 0 1 = cc in omega arith);
      }
  by_closure f l b a (Some p) h =
      let w = first_open z l p h in
      refusal 22 p (λ _ c. open_not_closed z l p w c) (not_closed refl (record { fit = f; entries = l; begins = b; avoids = a }) w)

  by_target : Fit z n → Entries → Begins z → (o : Option Place) → target_fault z ≡ o → Law z n (unless_found o 21 (unless_found (closure_fault z) 22 (accepted tt)))
  unfolding Entries
  by_target f l b None h =
      by_closure f l b (none_without z (λ e. not (eqb e.state z.automaton.target)) (λ e. e.state ≡ z.automaton.target → ⊥) (λ e. Decides-not (eqb e.state z.automaton.target) (Decides-eqb e.state z.automaton.target)) h) (closure_fault z) refl
  by_target f l b (Some p) h =
      let w = first_without z (λ e. not (eqb e.state z.automaton.target)) (λ e. e.state ≡ z.automaton.target → ⊥) (λ e. Decides-not (eqb e.state z.automaton.target) (Decides-eqb e.state z.automaton.target)) p h in
      refusal 21 p (λ k _. w.fails (k.avoids w.entry (w.place, w.sits))) (in_target refl f l b w)

  by_start : Fit z n → Entries → (t : Bool) → table_begins z z.table ≡ t → Law z n (unless_failed t 20 (at_entry 0) (unless_found (target_fault z) 21 (unless_found (closure_fault z) 22 (accepted tt))))
  unfolding Entries
  by_start f l true h = by_target f l ((starting z).0 h) (target_fault z) refl
  by_start f l false h =
      refusal 20 (at_entry 0) (λ k _. not_from_Decides _ (starting z) h k.begins) (elsewhere refl refl f l (not_from_Decides _ (starting z) h))

  by_entries : Fit z n → (o : Option Place) → lawful_fault z ≡ o → Law z n (unless_found o 19 (unless_failed (table_begins z z.table) 20 (at_entry 0) (unless_found (target_fault z) 21 (unless_found (closure_fault z) 22 (accepted tt)))))
  unfolding Entries
  by_entries f None h = by_start f (none_without z (entry_lawful z) (LawfulEntry z) (allowing z) h) (table_begins z z.table) refl
  by_entries f (Some p) h =
      let w = first_without z (entry_lawful z) (LawfulEntry z) (allowing z) p h in
      refusal 19 p (λ k _. w.fails (k.entries w.entry (w.place, w.sits))) (unlawful refl f w)

  by_sizes : (t : Bool) → sizes_fit z n ≡ t → Law z n (unless_failed t 18 (Table 2048 64 2048) (unless_found (lawful_fault z) 19 (unless_failed (table_begins z z.table) 20 (at_entry 0) (unless_found (target_fault z) 21 (unless_found (closure_fault z) 22 (accepted tt))))))
  by_sizes true h = by_entries ((fitting z n).0 h) (lawful_fault z) refl
  by_sizes false h =
      refusal 18 (Table 2048 64 2048) (λ k _. not_from_Decides _ (fitting z n) h k.fit) (unfit refl refl (not_from_Decides _ (fitting z n) h))

  pub lawful_verdict : Law z n (judged z n)
  lawful_verdict = by_sizes (sizes_fit z n) refl
