use Rattle.std.proofs.Common.{◌≡◌, ℕ, ◌+◌, Bool, true, cond, get_or, Some, None, Decides, sym, ap, ◌∙◌, inl, inr, zero-add, arith}
use Rattle.std.proofs.lemmas.Bool.{cases_Bool, cond-true, cond-false, both_ways}
use Rattle.std.proofs.lemmas.Bool.Decides.{not_from_Decides}
use Rattle.fault.specs.declared.Place.{Place}
use Rattle.abstraction.specs.Lists.{or_else, unless, fault, Sits, In}
use Rattle.abstraction.proofs.Found.{or_none, unless_none, first_none}
use Rattle.automaton.specs.declared.rule.Rule.{Rule}
use Rattle.judge.specs.Claims.{Claim}
use Rattle.judge.specs.Judged.{at_entry, at_rule, at_return, time_closed, rule_closed, opens, return_closed, rules_fault, pops_fault, return_fault, returns_fault, entry_fault, closure_fault}
use Rattle.judge.specs.Closed.{ClosedTime, Closed, LawfulEntry}
use Rattle.judge.specs.Law.{Spot, Earlier, named, ClosedAt, FirstOpen, FirstWithout}
use Rattle.judge.specs.Law.Spot.{by_time, by_rule, by_return}
use Rattle.judge.specs.declared.entry.Entry.{Entry}
use Rattle.judge.proofs.Deciding.{unless_some, or_some, Firstly, first_some}
use Rattle.judge.proofs.Reflect.{timing, ruling, returning}

-- the first place that a search finds is the first at fault

nothing_before : (s : Spot) → Earlier s by_time → ⊥
nothing_before by_time h = h
nothing_before (by_rule m) h = h
nothing_before (by_return i m) h = h

-- the first entry of which a test does not hold
pub first_without : {S : Type 0} (z : Claim S) (t : Entry S → Bool) (P : Entry S → Type 0) → ((e : Entry S) → Decides (t e) (P e)) → (p : Place) → fault t at_entry 0 z.table ≡ Some p → FirstWithout z P p
first_without z t P d p h =
    let f = first_some (λ n e. unless (t e) (at_entry n)) 0 z.table p h in
    let u = unless_some (t f.item) (at_entry (0 + f.place)) p f.hit in
    record {
      place = f.place;
      entry = f.item;
      sits = f.sits;
      names = u.1 ∙ ap at_entry (zero-add f.place);
      fails = not_from_Decides _ (d f.item) u.0;
      earlier = λ j e l s. (d e).0 (unless_none (t e) _ (f.before j e l s).1);
    }

pub none_without : {S : Type 0} (z : Claim S) (t : Entry S → Bool) (P : Entry S → Type 0) → ((e : Entry S) → Decides (t e) (P e)) → fault t at_entry 0 z.table ≡ None → (e : Entry S) → In z.table e → P e
none_without z t P d h e i =
    (d e).0 (unless_none (t e) _ (first_none (λ n e. unless (t e) (at_entry n)) 0 z.table i.0 e i.1 h).1)

module _ {S : Type 0} (z : Claim S) (lawful : (e : Entry S) → In z.table e → LawfulEntry z e) where
  -- no pop of u is at fault
  return_none : (k : ℕ) (e : Entry S) (n : ℕ) (u : Entry S) → return_fault z k e n u ≡ None → (r : Rule) → In z.automaton.rules r → cond (opens z e (get_or z.table u.root e)) (return_closed z e u r) true ≡ true
  return_none k e n u h r i = elim (cases_Bool (opens z e (get_or z.table u.root e))) [
    | inl t ↦
        cond-true _ _ _ t ∙ unless_none (return_closed z e u r) _ (first_none _ 0 z.automaton.rules i.0 r i.1 (sym (cond-true _ _ _ t) ∙ h)).1
    | inr t ↦ cond-false _ _ _ t
  ]

  time_none : (k : ℕ) (e : Entry S) → unless (time_closed z e) (at_entry k) ≡ None → ClosedTime z e
  time_none k e h = (timing z e).0 (unless_none _ _ h)

  rules_none : (k : ℕ) (e : Entry S) → rules_fault z k e ≡ None → (n : ℕ) → ClosedAt z e (by_rule n)
  rules_none k e h n r s = (ruling z e r).0 (unless_none (rule_closed z e r) _ (first_none _ 0 z.automaton.rules n r s h).1)

  returns_none : (k : ℕ) (e : Entry S) → returns_fault z k e ≡ None → (j n : ℕ) → ClosedAt z e (by_return j n)
  returns_none k e h j n u su r sr =
      let (m, f) = first_none (return_fault z k e) 0 z.table j u su h in
      (returning z e u r (lawful u (j, su))).0 (return_none k e m u f r (n, sr))

  -- an entry at which no fault is found is closed
  entry_none : (k : ℕ) (e : Entry S) → entry_fault z k e ≡ None → (s : Spot) → ClosedAt z e s
  entry_none k e h by_time = time_none k e (or_none _ _ h).0
  entry_none k e h (by_rule n) = rules_none k e (or_none (rules_fault z k e) _ (or_none (unless (time_closed z e) (at_entry k)) _ h).1).0 n
  entry_none k e h (by_return j n) =
      returns_none k e (or_none (rules_fault z k e) _ (or_none (unless (time_closed z e) (at_entry k)) _ h).1).1 j n

  -- the first spot at which the entry at k is not closed
  record Spotted (k : ℕ) (e : Entry S) (p : Place) : Type 0 where
    spot : Spot
    names : p ≡ named k spot
    fails : ClosedAt z e spot → ⊥
    earlier : (s : Spot) → Earlier s spot → ClosedAt z e s

  at_time : (k : ℕ) (e : Entry S) (p : Place) → unless (time_closed z e) (at_entry k) ≡ Some p → Spotted k e p
  at_time k e p h =
      let u = unless_some (time_closed z e) (at_entry k) p h in
      record {
        spot = by_time;
        names = u.1;
        fails = not_from_Decides _ (timing z e) u.0;
        earlier = λ s l. absurd (nothing_before s l);
      }

  before_rule : (k : ℕ) (e : Entry S) (p : Place) → ClosedTime z e → (f : Firstly (λ n r. unless (rule_closed z e r) (at_rule k n)) 0 z.automaton.rules p) → (s : Spot) → Earlier s (by_rule f.place) → ClosedAt z e s
  before_rule k e p t f by_time l = t
  before_rule k e p t f (by_rule m) l = λ r s. (ruling z e r).0 (unless_none (rule_closed z e r) _ (f.before m r l s).1)
  before_rule k e p t f (by_return i m) l = absurd l

  at_a_rule : (k : ℕ) (e : Entry S) (p : Place) → ClosedTime z e → rules_fault z k e ≡ Some p → Spotted k e p
  at_a_rule k e p t h =
      let f = first_some (λ n r. unless (rule_closed z e r) (at_rule k n)) 0 z.automaton.rules p h in
      let u = unless_some (rule_closed z e f.item) (at_rule k (0 + f.place)) p f.hit in
      record {
        spot = by_rule f.place;
        names = u.1 ∙ ap (at_rule k) (zero-add f.place);
        fails = λ c. not_from_Decides _ (ruling z e f.item) u.0 (c f.item f.sits);
        earlier = before_rule k e p t f;
      }

  return_some : (k : ℕ) (e : Entry S) (n : ℕ) (u : Entry S) (p : Place) → return_fault z k e n u ≡ Some p → (opens z e (get_or z.table u.root e) ≡ true) × (pops_fault z k e n u ≡ Some p)
  return_some k e n u p h = elim (cases_Bool (opens z e (get_or z.table u.root e))) [
    | inl t ↦ (t, sym (cond-true _ _ _ t) ∙ h)
    | inr t ↦ absurd (let o = sym (cond-false _ (pops_fault z k e n u) None t) ∙ h in let x : ◌≡◌ {A = ℕ} 0 1 = cc in omega arith)
  ]

  same_item : (i j : ℕ) (u v : Entry S) → i ≡ j → Sits z.table i u → Sits z.table j v → v ≡ u
  same_item i j u v e s t = sym (t.1 u) ∙ ap (λ n. get_or z.table n u) (sym e) ∙ s.1 u

  before_return : (k : ℕ) (e : Entry S) (p : Place) → ClosedTime z e → rules_fault z k e ≡ None → (f : Firstly (return_fault z k e) 0 z.table p) → (w : Firstly (λ n r. unless (return_closed z e f.item r) (at_return k (0 + f.place) n)) 0 z.automaton.rules p) → (s : Spot) → Earlier s (by_return f.place w.place) → ClosedAt z e s
  before_return k e p t h f w by_time l = t
  before_return k e p t h f w (by_rule m) l = rules_none k e h m
  before_return k e p t h f w (by_return i m) (inl l) =
      λ u su r sr. let (n, o) = f.before i u l su in (returning z e u r (lawful u (i, su))).0 (return_none k e n u o r (m, sr))
  before_return k e p t h f w (by_return i m) (inr (q, l)) =
      λ u su r sr. let x : return_closed z e u r ≡ true = ap (λ v. return_closed z e v r) (sym (same_item i f.place u f.item q su f.sits)) ∙ unless_none (return_closed z e f.item r) _ (w.before m r l sr).1 in
      (returning z e u r (lawful u (i, su))).0 (elim (cases_Bool (opens z e (get_or z.table u.root e))) [
        | inl t' ↦ cond-true _ _ _ t' ∙ x
        | inr t' ↦ cond-false _ _ _ t'
      ])

  at_a_return : (k : ℕ) (e : Entry S) (p : Place) → ClosedTime z e → rules_fault z k e ≡ None → returns_fault z k e ≡ Some p → Spotted k e p
  at_a_return k e p t h g =
      let f = first_some (return_fault z k e) 0 z.table p g in
      let (o, a) = return_some k e (0 + f.place) f.item p f.hit in
      let w = first_some (λ n r. unless (return_closed z e f.item r) (at_return k (0 + f.place) n)) 0 z.automaton.rules p a in
      let u = unless_some (return_closed z e f.item w.item) (at_return k (0 + f.place) (0 + w.place)) p w.hit in
      record {
        spot = by_return f.place w.place;
        names = u.1 ∙ ap (λ j. at_return k j (0 + w.place)) (zero-add f.place) ∙ ap (at_return k f.place) (zero-add w.place);
        fails = λ c. both_ways _ u.0 (sym (cond-true _ _ _ o) ∙ (returning z e f.item w.item (lawful f.item (f.place, f.sits))).1 (c f.item f.sits w.item w.sits));
        earlier = before_return k e p t h f w;
      }

  spotted : (k : ℕ) (e : Entry S) (p : Place) → entry_fault z k e ≡ Some p → Spotted k e p
  spotted k e p h = elim (or_some (unless (time_closed z e) (at_entry k)) (or_else (rules_fault z k e) (returns_fault z k e)) p h) [
    | inl a ↦ at_time k e p a
    | inr a ↦ elim (or_some (rules_fault z k e) (returns_fault z k e) p a.1) [
      | inl b ↦ at_a_rule k e p (time_none k e a.0) b
      | inr b ↦ at_a_return k e p (time_none k e a.0) b.0 b.1
    ]
  ]

  -- a table at which no fault is found is closed
  pub closed_none : closure_fault z ≡ None → Closed z
  closed_none h =
      record {
        time = λ e i. at e i by_time;
        rules = λ e i r o. at e i (by_rule o.0) r o.1;
        returns = λ e u i j r o. at e i (by_return j.0 o.0) u j.1 r o.1;
      }
    where
      at : (e : Entry S) → In z.table e → (s : Spot) → ClosedAt z e s
      at e i = let (k, f) = first_none (entry_fault z) 0 z.table i.0 e i.1 h in entry_none k e f

  closed_spots : Closed z → (e : Entry S) → In z.table e → (s : Spot) → ClosedAt z e s
  closed_spots c e i by_time = c.time e i
  closed_spots c e i (by_rule n) = λ r s. c.rules e i r (n, s)
  closed_spots c e i (by_return j n) = λ u su r sr. c.returns e u i (j, su) r (n, sr)

  -- a place that is found is the first at which the table is not closed
  pub first_open : (p : Place) → closure_fault z ≡ Some p → FirstOpen z p
  first_open p h =
      let f = first_some (entry_fault z) 0 z.table p h in
      let s = spotted f.place f.item p (ap (λ k. entry_fault z k f.item) (sym (zero-add f.place)) ∙ f.hit) in
      record {
        place = f.place;
        entry = f.item;
        sits = f.sits;
        spot = s.spot;
        names = s.names;
        open_there = s.fails;
        earlier_spots = s.earlier;
        earlier_entries = λ j e l i. let (n, o) = f.before j e l i in entry_none n e o;
      }

  pub open_not_closed : (p : Place) → FirstOpen z p → Closed z → ⊥
  open_not_closed p f c = f.open_there (closed_spots c f.entry (f.place, f.sits) f.spot)
