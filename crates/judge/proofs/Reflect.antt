use Rattle.std.proofs.Common.{◌≡◌, ℕ, ◌+◌, Bool, true, cond, ◌&&◌, eqb, List, [], ◌∷◌, length, get_or, Decides, sym, refl, ap, ◌∙◌, inl, inr, arith}
use Rattle.std.proofs.lemmas.List.{get_or_default}
use Rattle.std.proofs.lemmas.Bool.{and_parts, and_from, cases_Bool, cond-true, cond-false, eqb-true, eq-eqb, false≢true}
use Rattle.std.proofs.lemmas.Bool.Decides.{Decides-and, Decides-eqb, Decides-like, Decides-ltb}
use Rattle.abstraction.specs.Lists.{Sits, In}
use Rattle.abstraction.specs.declared.interval.Interval.{Interval}
use Rattle.abstraction.proofs.Found.{any_true}
use Rattle.abstraction.proofs.Tests.{fits_true, fits_from}
use Rattle.automaton.specs.declared.rule.Rule.{Rule}
use Rattle.automaton.specs.declared.rule.Action.{Action}
use Rattle.automaton.specs.declared.rule.Action.TheVariants.{Move, Test, Assign, Push, Pop}
use Rattle.judge.specs.Claims.{Claim, scope}
use Rattle.judge.specs.Judged.{beside, roots, wanted, takes, taken, all_taken, time_closed, action_closed, rule_closed, pushes, opens_by, opens, pop_closed, return_closed, action_fits, sizes_fit, entry_lawful, begins, table_begins}
use Rattle.judge.specs.Closed.{Within, RootAt, Taken, TakenByRoot, Opens, ClosedTime, ClosedAction, ClosedRule, ClosedReturn, Bounded, Fit, LawfulEntry, Begins}
use Rattle.judge.specs.declared.entry.Entry.{Entry}
use Rattle.judge.proofs.Deciding.{at_most, where_same, each, any_at}

-- the tests of a judgment decide the statements on tables

module _ {S : Type 0} (z : Claim S) where
  taken_true : (e : Entry S) (q : ℕ) (s : S) → taken z (beside e q) s ≡ true → Taken z e q s
  taken_true e q s h =
      let (k, n, v, _, i, g) = any_true (takes z (beside e q) s) 0 z.table h in
      let a = and_parts (wanted (beside e q) n v) _ g in
      let b = and_parts (eqb v.root e.root) _ a.0 in
      let c = and_parts (eqb v.state q) _ b.1 in
      record {
        taker = v;
        listed = (k, i);
        root = eqb-true _ _ b.0;
        state = eqb-true _ _ c.0;
        label = eqb-true _ _ c.1;
        within = a.1;
      }

  taken_from : (e : Entry S) (q : ℕ) (s : S) → Taken z e q s → taken z (beside e q) s ≡ true
  taken_from e q s t =
      any_at (takes z (beside e q) s) 0 z.table t.listed.0 t.taker t.listed.1 (and_from _ _ (and_from _ _ (eq-eqb _ _ t.root) (and_from _ _ (eq-eqb _ _ t.state) (eq-eqb _ _ t.label))) t.within)

  pub taking : (e : Entry S) (q : ℕ) (s : S) → Decides (taken z (beside e q) s) (Taken z e q s)
  taking e q s = (taken_true e q s, taken_from e q s)

  root_true : (q l : ℕ) (s : S) → taken z (roots q l) s ≡ true → TakenByRoot z q l s
  root_true q l s h =
      let (k, n, v, p, i, g) = any_true (takes z (roots q l) s) 0 z.table h in
      let a = and_parts (wanted (roots q l) n v) _ g in
      let b = and_parts (eqb v.root n) _ a.0 in
      let c = and_parts (eqb v.state q) _ b.1 in
      let r = eqb-true v.root n b.0 in
      record {
        place = k;
        taker = v;
        roots = (i, omega (arith, p, r));
        state = eqb-true _ _ c.0;
        label = eqb-true _ _ c.1;
        within = a.1;
      }

  root_from : (q l : ℕ) (s : S) → TakenByRoot z q l s → taken z (roots q l) s ≡ true
  root_from q l s t =
      let r : t.taker.root ≡ 0 + t.place = omega (arith, t.roots.1) in
      any_at (takes z (roots q l) s) 0 z.table t.place t.taker t.roots.0 (and_from _ _ (and_from _ _ (eq-eqb _ _ r) (and_from _ _ (eq-eqb _ _ t.state) (eq-eqb _ _ t.label))) t.within)

  rooting : (q l : ℕ) (s : S) → Decides (taken z (roots q l) s) (TakenByRoot z q l s)
  rooting q l s = (root_true q l s, root_from q l s)

  all_beside : (e : Entry S) (q : ℕ) (ss : List S) → Decides (all_taken z (beside e q) ss) ((s : S) → In ss s → Taken z e q s)
  all_beside e q ss = each (taken z (beside e q)) (Taken z e q) ss (taking e q)

  pub timing : (e : Entry S) → Decides (time_closed z e) (ClosedTime z e)
  timing e = all_beside e e.state _

  acting : (e : Entry S) (q : ℕ) (i : Interval) (a : Action) → Decides (action_closed z e q i a) (ClosedAction z e q i a)
  acting e q i Move = taking e q e.shape
  acting e q i (Test k) = all_beside e q _
  acting e q i (Assign k) = all_beside e q _
  acting e q i (Push l) = each (taken z (roots q l)) (TakenByRoot z q l) _ (rooting q l)
  acting e q i (Pop l) = (λ _. tt, λ _. refl)

  pub ruling : (e : Entry S) (r : Rule) → Decides (rule_closed z e r) (ClosedRule z e r)
  ruling e r = where_same r.from e.state _ (acting e r.to r.interval r.action)

  -- what a push to o comes from
  Pushes : Entry S → Entry S → ℕ → Interval → Action → Type 0
  Pushes e o q i a = (q ≡ o.state) × (a ≡ Push o.label) × (s : S) × In (z.answers.push (scope z) i e.shape) s × Within z s o.shape

  pushes_true : (e o : Entry S) (q : ℕ) (i : Interval) (a : Action) → pushes z e o q i a ≡ true → Pushes e o q i a
  unfolding Pushes
  pushes_true e o q i Move h = absurd (false≢true h)
  pushes_true e o q i (Test k) h = absurd (false≢true h)
  pushes_true e o q i (Assign k) h = absurd (false≢true h)
  pushes_true e o q i (Push l) h =
      let a = and_parts (eqb q o.state && eqb l o.label) _ h in
      let b = and_parts (eqb q o.state) _ a.0 in
      let (k, _, s, _, i', g) = any_true (λ _ x. z.answers.within (scope z) x o.shape) 0 (z.answers.push (scope z) i e.shape) a.1 in
      (eqb-true _ _ b.0, ap Push (eqb-true l o.label b.1), s, (k, i'), g)
  pushes_true e o q i (Pop l) h = absurd (false≢true h)

  pushes_from : (e o : Entry S) (q : ℕ) (i : Interval) (a : Action) → Pushes e o q i a → pushes z e o q i a ≡ true
  unfolding Pushes
  pushes_from e o q i a (p, b, s, l, w) =
      ap (pushes z e o q i) b ∙ and_from _ _ (and_from _ _ (eq-eqb _ _ p) (eq-eqb o.label _ refl)) (any_at (λ _ x. z.answers.within (scope z) x o.shape) 0 _ l.0 s l.1 w)

  opens_true : (e o : Entry S) → opens z e o ≡ true → Opens z e o
  unfolding Pushes
  opens_true e o h =
      let (k, _, r, _, i, g) = any_true (λ _ r. opens_by z e o r) 0 z.automaton.rules h in
      let a = and_parts (eqb r.from e.state) _ g in
      let (q, b, s, l, w) = pushes_true e o r.to r.interval r.action a.1 in
      record {
        rule = r;
        ruled = (k, i);
        from = eqb-true _ _ a.0;
        to = q;
        pushes = b;
        shape = s;
        listed = l;
        within = w;
      }

  opens_from : (e o : Entry S) → Opens z e o → opens z e o ≡ true
  unfolding Pushes
  opens_from e o p =
      any_at (λ _ r. opens_by z e o r) 0 z.automaton.rules p.ruled.0 p.rule p.ruled.1 (and_from _ _ (eq-eqb _ _ p.from) (pushes_from e o p.rule.to p.rule.interval p.rule.action (p.to, p.pushes, p.shape, p.listed, p.within)))

  pub opening : (e o : Entry S) → Decides (opens z e o) (Opens z e o)
  opening e o = (opens_true e o, opens_from e o)

  -- what a pop from u, which stands on e, asks
  Pops : Entry S → Entry S → ℕ → Interval → Action → Type 0
  Pops e u q i a = a ≡ Pop u.label → (s : S) → In (z.answers.pop (scope z) i e.shape u.shape) s → Taken z e q s

  pops_true : (e u : Entry S) (q : ℕ) (i : Interval) (a : Action) → pop_closed z e u q i a ≡ true → Pops e u q i a
  unfolding Pops
  pops_true e u q i a h b =
      (all_beside e q _).0 (sym (cond-true _ _ _ (eq-eqb u.label _ refl)) ∙ sym (ap (pop_closed z e u q i) b) ∙ h)

  pops_from : (e u : Entry S) (q : ℕ) (i : Interval) (a : Action) → Pops e u q i a → pop_closed z e u q i a ≡ true
  unfolding Pops
  pops_from e u q i Move f = refl
  pops_from e u q i (Test k) f = refl
  pops_from e u q i (Assign k) f = refl
  pops_from e u q i (Push l) f = refl
  pops_from e u q i (Pop l) f =
      (where_same l u.label _ (all_beside e q (z.answers.pop (scope z) i e.shape u.shape))).1 (λ h. f (ap Pop h))

  -- the entry at u's root
  root_of : (e u : Entry S) → LawfulEntry z u → (o : Entry S) × RootAt z u.root o × (get_or z.table u.root e ≡ o)
  root_of e u l = (l.owner, l.rooted, l.rooted.0.1 e)

  -- what the test on a pop from u asks, where e opens u's root
  return_test : Entry S → Entry S → Rule → Bool
  return_test e u r = cond (opens z e (get_or z.table u.root e)) (return_closed z e u r) true

  returns_true : (e u : Entry S) (r : Rule) → return_test e u r ≡ true → ClosedReturn z e u r
  unfolding Pops return_test
  returns_true e u r h j o (s, k') op k f b =
      let w : get_or z.table u.root e ≡ o = ap (λ n. get_or z.table n e) k ∙ s.1 e in
      let t : opens z e (get_or z.table u.root e) ≡ true = ap (opens z e) w ∙ opens_from e o op in
      pops_true e u r.to r.interval r.action (sym (cond-true _ _ _ (eq-eqb r.from u.state f)) ∙ sym (cond-true _ _ _ t) ∙ h) b

  returns_from : (e u : Entry S) (r : Rule) → LawfulEntry z u → ClosedReturn z e u r → return_test e u r ≡ true
  unfolding Pops return_test
  returns_from e u r l f = elim (cases_Bool (opens z e (get_or z.table u.root e))) [
    | inl t ↦
        let (o, ro, w) = root_of e u l in
        let op = opens_true e o (sym (ap (opens z e) w) ∙ t) in
        cond-true _ _ _ t ∙ (where_same r.from u.state (pop_closed z e u r.to r.interval r.action) (pops_true e u r.to r.interval r.action, pops_from e u r.to r.interval r.action)).1 (λ h. f u.root o ro op refl h)
    | inr t ↦ cond-false _ _ _ t
  ]

  pub returning : (e u : Entry S) (r : Rule) → LawfulEntry z u → Decides (cond (opens z e (get_or z.table u.root e)) (return_closed z e u r) true) (ClosedReturn z e u r)
  unfolding return_test
  returning e u r l = (returns_true e u r, returns_from e u r l)

  bounding : (i : Interval) (a : Action) → Decides (action_fits z i a) (Bounded z i a)
  bounding i Move = (λ _. tt, λ _. refl)
  bounding i (Test k) = (fits_true z.top i, fits_from z.top i)
  bounding i (Assign k) = (fits_true z.top i, fits_from z.top i)
  bounding i (Push l) = (fits_true z.top i, fits_from z.top i)
  bounding i (Pop l) = (fits_true z.top i, fits_from z.top i)

  pub fitting : (n : ℕ) → Decides (sizes_fit z n) (Fit z n)
  fitting n =
      Decides-like _
      (λ x. record { some = x.0.0.0; few = x.0.0.1; room = x.0.1; small = x.1.0; bounded = x.1.1 })
      (λ f. (((f.some, f.few), f.room), (f.small, f.bounded)))
      (Decides-and _ _ (Decides-and _ _ (Decides-and _ _ (at_most 1 (length z.table)) (at_most (length z.table) 2048)) (at_most (length z.table) n)) (Decides-and _ _ (at_most z.top 15) (each (λ r. action_fits z r.interval r.action) (λ r. Bounded z r.interval r.action) z.automaton.rules (λ r. bounding r.interval r.action))))

  pub allowing : (e : Entry S) → Decides (entry_lawful z e) (LawfulEntry z e)
  allowing e =
      Decides-like _
      (λ x. record {
        owner = get_or z.table e.root e;
        rooted = ((x.0, λ d. get_or_default z.table e.root d e x.0), x.1.0.0);
        label = x.1.0.1;
        state = x.1.1.0.0;
        labels = x.1.1.0.1;
        shape = x.1.1.1;
      })
      (λ l. let o = l.rooted.0.1 e in (l.rooted.0.0, ((ap (λ v. v.root) o ∙ l.rooted.1, ap (λ v. v.label) o ∙ l.label), ((l.state, l.labels), l.shape))))
      (Decides-and _ _ (Decides-ltb e.root (length z.table)) (Decides-and _ _ (Decides-and _ _ (Decides-eqb (get_or z.table e.root e).root e.root) (Decides-eqb (get_or z.table e.root e).label e.label)) (Decides-and _ _ (Decides-and _ _ (Decides-ltb e.state z.automaton.states) (at_most e.label z.automaton.labels)) (λ h. h, λ h. h))))

  begin_true : (es : List (Entry S)) → table_begins z es ≡ true → (e : Entry S) × Sits es 0 e × (begins z e ≡ true)
  begin_true [] h = absurd (false≢true h)
  begin_true (e ∷ es) h = (e, (omega arith, λ d. refl), h)

  begin_from : (es : List (Entry S)) (e : Entry S) → Sits es 0 e → begins z e ≡ true → table_begins z es ≡ true
  begin_from [] e s h = absurd (let n = s.0 in omega arith)
  begin_from (x ∷ es) e s h = ap (begins z) (s.1 x) ∙ h

  beginning : (e : Entry S) → Decides (begins z e) (((e.root ≡ 0) × ((e.state ≡ z.automaton.start) × (e.label ≡ 0))) × Within z (z.answers.start (scope z)) e.shape)
  beginning e =
      Decides-and _ _ (Decides-and _ _ (Decides-eqb e.root 0) (Decides-and _ _ (Decides-eqb e.state z.automaton.start) (Decides-eqb e.label 0))) (λ h. h, λ h. h)

  pub starting : Decides (table_begins z z.table) (Begins z)
  starting = (
    λ h. let (e, s, b) = begin_true z.table h in
        let x = (beginning e).0 b in
        record {
          entry = e;
          zeroth = s;
          root = x.0.0;
          state = x.0.1.0;
          label = x.0.1.1;
          within = x.1;
        },
    λ b. begin_from z.table b.entry b.zeroth ((beginning b.entry).1 ((b.root, (b.state, b.label)), b.within)),
  )
