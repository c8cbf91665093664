use Rattle.std.proofs.Common.{◌≡◌, ℕ, ◌+◌, ◌<◌, ◌≤◌, Bool, true, false, cond, ◌&&◌, eqb, leb, List, [], ◌∷◌, ◌++◌, map, length, get_or, take, set, Some, None, Option, sym, refl, ap, ◌∙◌, subst, add-one}
use Rattle.std.specs.List.{slice_get}
use Rattle.std.proofs.lemmas.Bool.{and_parts, eqb-true, leb-true}
use Rattle.fault.specs.Faults.{Outcome}
use Rattle.fault.specs.Faults.Outcome.{accepted, refused}
use Rattle.automaton.specs.Runs.{Automaton, Configuration, Run, Reaches}
use Rattle.automaton.specs.Runs.Step.{waits, fires}
use Rattle.automaton.specs.Runs.Run.{begun, stepped}
use Rattle.automaton.specs.Insert.{SameReach}
use Rattle.automaton.specs.Edits.{settle, done, fresh, open_outcome, open_after, add_outcome, add_after, remove_outcome, remove_after, retarget_outcome, retarget_after, insert_outcome, insert_after}
use Rattle.automaton.specs.declared.rule.Rule.{Rule}
use Rattle.automaton.proofs.Writing.{passed}
use Rattle.case.specs.Views.{View, Running, arrived}
use Rattle.case.specs.Views.Running.{idle, at}
use Rattle.case.specs.Steps.{delay_check, waited, fire_check, fired}
use Rattle.case.specs.Calls.{new_case, judge_view, edited, moved, void, answered, begin_check, start_of, begin_after, delay_run, delayed, fire_run, fired_run, fire_rule, fired_rule}
use Rattle.case.specs.History.{heard, finish, state, Event, event, Told, Noted, noted, notes_of, calls, events, Carries, AllCarry, answer, after, edit, present_from, answers_from, finishes, settles, settled_from, Promised, Makes, Played, OverCalls}
use Rattle.case.specs.History.Event.{opens, adds, removes, retargets, inserts, begins, delays, fires as fires', judges, asks}
use Rattle.case.specs.declared.case.Standing.{Standing}
use Rattle.case.specs.declared.case.Standing.TheVariants.{Undecided, Reachable, Unreachable}
use Rattle.case.specs.declared.history.Turn.{Turn}
use Rattle.abstraction.specs.Lists.{Sits}
use Rattle.abstraction.specs.Owes.{Answers, Meaning}
use Rattle.automaton.proofs.Simulate.{in_map}
use lib.Seq.{take-suc-set}
use Rattle.std.proofs.lemmas.List.{get_or_default, map-append}
use Rattle.case.proofs.Transitions.{checked, nth_sits, fired_state}

-- lists of turns

pub played_more : (C : Type 0) (w u v : View) (ts : List Noted) (t : Noted) → Played C w ts u → Makes C t u v → Played C w (ts ++ t ∷ []) v
played_more C w u v [] t p m = (v, subst (λ (x : View). Makes C t x v) p m, refl)
played_more C w u v (s ∷ ts) t (x, m', p) m = (x, m', played_more C x u v ts t p m)

pub played_join : (C : Type 0) (w u v : View) (ts us : List Noted) → Played C w ts u → Played C u us v → Played C w (ts ++ us) v
played_join C w u v [] us p q = subst (λ (x : View). Played C x us v) p q
played_join C w u v (t ∷ ts) us (x, m, p) q = (x, m, played_join C x u v ts us p q)

-- under a stronger premise the promises stand
promised_under : (C E : Type 0) → (E → C) → (c : Event) (r : Told) (m n : Automaton) → Promised C c r m n → Promised E c r m n
promised_under C E f (opens o) r m n h = tt
promised_under C E f (adds x) r m n h = tt
promised_under C E f (removes k) r m n h = tt
promised_under C E f (retargets q) r m n h = tt
promised_under C E f (inserts p) r m n h = h
promised_under C E f (begins D) r m n h = tt
promised_under C E f (delays d) r m n h = tt
promised_under C E f (fires' k v) r m n h = tt
promised_under C E f (judges g) r m n h = λ e. h (f e)
promised_under C E f asks r m n h = tt

pub makes_under : (C E : Type 0) → (E → C) → (t : Noted) (w v : View) → Makes C t w v → Makes E t w v
makes_under C E f t w v m = record { says = m.says; holds = m.holds; promise = promised_under C E f t.event t.reply w.model v.model m.promise }

pub played_under : (C E : Type 0) → (E → C) → (w : View) (ts : List Noted) (v : View) → Played C w ts v → Played E w ts v
played_under C E f w [] v p = p
played_under C E f w (t ∷ ts) v (u, m, p) = (u, makes_under C E f t w u m, played_under C E f u ts v p)

-- one more call is made and noted
pub notes_more : {X : Type 0} (C : Type 0) (f : X → Noted) (w u v : View) (xs : List X) (i : ℕ) (x : X) → i < length xs → Played C w (map f (take i xs)) u → Makes C (f x) u v → Played C w (map f (take (i + 1) (set xs i x))) v
notes_more C f w u v xs i x h p m =
    subst (λ ys. Played C w ys v) (sym (ap (map f) (ap (λ k. take k (set xs i x)) (add-one i) ∙ take-suc-set xs i x h) ∙ map-append f (take i xs) (x ∷ []))) (played_more C w u v (map f (take i xs)) (f x) p m)

-- one more turn of a segment
pub plays_more : {A S : Type 0} (ans : A → Answers S) (mean : A → Meaning S) (es ts : List (Turn A S)) (w u v : View) (i n k : ℕ) (d : Turn A S) (r : Told) → i < length ts → calls ts ≡ calls es → k ≡ n → Played (AllCarry ans mean (calls es)) w (map (noted ans n) (take i ts)) u → Makes (Carries ans mean (get_or ts i d).call) (record { event = event ans k (get_or ts i d).call; reply = r }) u v → Played (AllCarry ans mean (calls es)) w (map (noted ans n) (take (i + 1) (set ts i (record { call = (get_or ts i d).call; reply = r })))) v
plays_more {A} {S} ans mean es ts w u v i n k d r h same e p m =
    let c = (get_or ts i d).call in
    let x : Turn A S = record { call = c; reply = r } in
    let sits = subst (λ cs. Sits cs i c) same (in_map (λ (t : Turn A S). t.call) ts i (get_or ts i d) (h, λ y. get_or_default ts i y d h)) in
    notes_more (AllCarry ans mean (calls es)) (noted ans n) w u v ts i x h p
    (makes_under (Carries ans mean c) (AllCarry ans mean (calls es)) (λ all. all i c sits) (noted ans n x) u v (subst (λ j. Makes (Carries ans mean c) (record { event = event ans j c; reply = r }) u v) e m))

-- a segment and the rest

events_join : (xs ys : List Noted) → events (xs ++ ys) ≡ events xs ++ events ys
events_join [] ys = refl
events_join (x ∷ xs) ys = ap (λ t. x.event ∷ t) (events_join xs ys)

events_notes : {A S : Type 0} (ans : A → Answers S) (n : ℕ) (ts : List (Turn A S)) → events (notes_of ans n ts) ≡ map (event ans n) (calls ts)
events_notes ans n [] = refl
events_notes ans n (t ∷ ts) = ap (λ xs. event ans n t.call ∷ xs) (events_notes ans n ts)

pub segment_same : {A S : Type 0} (ans : A → Answers S) (n k : ℕ) (ts us : List (Turn A S)) (xs ys : List Noted) → k ≡ n → calls us ≡ calls ts → events xs ≡ events ys → events (notes_of ans k us ++ xs) ≡ events (notes_of ans n ts ++ ys)
segment_same ans n k ts us xs ys e same h =
    events_join (notes_of ans k us) xs
    ∙ ap (λ zs. zs ++ events xs) (events_notes ans k us ∙ ap (λ j. map (event ans j) (calls us)) e ∙ ap (map (event ans n)) same ∙ sym (events_notes ans n ts))
    ∙ ap (λ zs. events (notes_of ans n ts) ++ zs) h
    ∙ sym (events_join (notes_of ans n ts) ys)

pub segment_played : {A S : Type 0} (ans : A → Answers S) (X Y : Type 0) (n k : ℕ) (us : List (Turn A S)) (xs : List Noted) (w u v : View) → k ≡ n → Played X w (notes_of ans n us) u → Played Y u xs v → Played (X × Y) w (notes_of ans k us ++ xs) v
segment_played ans X Y n k us xs w u v e p q =
    played_join (X × Y) w u v (notes_of ans k us) xs
    (played_under X (X × Y) (λ b. b.0) w (notes_of ans k us) u (subst (λ j. Played X w (notes_of ans j us) u) (sym e) p))
    (played_under Y (X × Y) (λ b. b.1) u xs v q)

-- what is settled is true, and a run in progress is a run

pub record Good (C : Type 0) (w : View) : Type 0 where
  pub unreachable : C → w.standing ≡ Unreachable → Reaches w.model w.model.target → ⊥
  pub reachable : w.standing ≡ Reachable → Reaches w.model w.model.target
  pub runs : (D : ℕ) (c : Configuration) → w.run ≡ at D c → (1 ≤ D) × Run w.model D c

good_edited : (C : Type 0) (m : Automaton) → Good C (edited m)
good_edited C m =
    record {
      unreachable = λ _ h. absurd (cc);
      reachable = λ h. absurd (cc);
      runs = λ D c h. absurd (cc);
    }

good_edit : (C : Type 0) {X : Type 0} (o : Outcome X) (m : Automaton) (w : View) → Good C w → Good C (settle o (edited m) w)
good_edit C (accepted x) m w g = good_edited C m
good_edit C (refused n l p) m w g = g

-- a run that came to the target makes the standing true
arrived_unreachable : (m : Automaton) (q : ℕ) (s : Standing) (b : Bool) → cond b Reachable s ≡ Unreachable → s ≡ Unreachable
arrived_unreachable m q s true h = absurd (cc)
arrived_unreachable m q s false h = h

arrived_reachable : (P : Type 0) (s : Standing) (b : Bool) → (b ≡ true → P) → (s ≡ Reachable → P) → cond b Reachable s ≡ Reachable → P
arrived_reachable P s true f g h = f refl
arrived_reachable P s false f g h = g h

good_moved : (C : Type 0) (w : View) (D : ℕ) (c : Configuration) → Good C w → 1 ≤ D → Run w.model D c → Good C (moved w D c)
good_moved C w D c g one r =
    record {
      unreachable = λ e h. g.unreachable e (arrived_unreachable w.model c.state w.standing (eqb c.state w.model.target) h);
      reachable = λ h. arrived_reachable (Reaches w.model w.model.target) w.standing (eqb c.state w.model.target) (λ e. (D, one, c, r, eqb-true _ _ e)) g.reachable h;
      runs = λ E x h. let d : D ≡ E = cc in let p : c ≡ x = cc in (subst (λ k. 1 ≤ k) d one, subst (λ k. Run w.model k x) d (subst (Run w.model D) p r));
    }

good_move : (C : Type 0) (o : Outcome (Unit {0})) (w : View) (D : ℕ) (c : Configuration) → Good C w → (o ≡ done → (1 ≤ D) × Run w.model D c) → Good C (settle o (moved w D c) w)
good_move C (accepted u) w D c g f = let (one, r) = f refl in good_moved C w D c g one r
good_move C (refused n l p) w D c g f = g

good_delay : (C : Type 0) (d : ℕ) (w : View) → Good C w → (u : Running) → w.run ≡ u → Good C (delayed d w u)
good_delay C d w g idle e = g
good_delay C d w g (at D b) e =
    let (one, r) = g.runs D b e in
    good_move C (delay_check d b) w D (waited d b) g (λ h. (one, stepped r (waits d (refl, refl, refl))))

good_fire : (C : Type 0) (v : ℕ) (w : View) (k : ℕ) (r : Rule) → slice_get w.model.rules k ≡ Some r → Good C w → (u : Running) → w.run ≡ u → Good C (fired_run r v w u)
good_fire C v w k r i g idle e = g
good_fire C v w k r i g (at D b) e =
    let (one, x) = g.runs D b e in
    good_move C (fire_check D b r v) w D (fired r.action r.to v b) g (λ h. (one, stepped x (fires r (k, nth_sits w.model.rules k r i) v (checked D v b r h).0)))

good_rule : (C : Type 0) (v : ℕ) (w : View) (k : ℕ) (m : Option Rule) → slice_get w.model.rules k ≡ m → Good C w → Good C (fired_rule m v w)
good_rule C v w k None i g = g
good_rule C v w k (Some r) i g = good_fire C v w k r i g w.run refl

good_begin : (C : Type 0) (D : ℕ) (w : View) → Good C w → Good C (begin_after D w)
good_begin C D w g =
    good_move C (begin_check D) w D (start_of w.model) g
    (λ h. (leb-true 1 D (and_parts (leb 1 D) _ (passed (leb 1 D && leb D 1000000) 11 done tt h).0).0, begun (refl, refl, refl)))

good_judged : (C : Type 0) (o : Outcome (Unit {0})) (w : View) → Good C w → (o ≡ done → C → Reaches w.model w.model.target → ⊥) → Good C (judge_view o w)
good_judged C (accepted u) w g k =
    record {
      unreachable = λ c h. k refl c;
      reachable = λ h. absurd (cc);
      runs = g.runs;
    }
good_judged C (refused n l p) w g k = g

good_after : (C : Type 0) (c : Event) (r : Told) (w : View) (n : Automaton) → heard r ≡ answer c w → Promised C c r w.model n → Good C w → Good C (after c w)
good_after C (opens o) r w n s p g = good_edit C (open_outcome o) (open_after o w.model) w g
good_after C (adds x) r w n s p g = good_edit C (add_outcome x w.model) (add_after x w.model) w g
good_after C (removes k) r w n s p g = good_edit C (remove_outcome k w.model) (remove_after k w.model) w g
good_after C (retargets q) r w n s p g = good_edit C (retarget_outcome q w.model) (retarget_after q w.model) w g
good_after C (inserts i) r w n s p g = good_edit C (insert_outcome i w.model) (insert_after i w.model) w g
good_after C (begins D) r w n s p g = good_begin C D w g
good_after C (delays d) r w n s p g = good_delay C d w g w.run refl
good_after C (fires' k v) r w n s p g = good_rule C v w k (slice_get w.model.rules k) refl g
good_after C (judges f) r w n s p g = good_judged C (f w.model) w g (λ e c. p c (s ∙ ap finish e))
good_after C asks r w n s p g = g

-- the present model

edited_model : {X : Type 0} (o : Outcome X) (m : Automaton) (w : View) → (settle o (edited (settle o m w.model)) w).model ≡ settle o m w.model
edited_model (accepted x) m w = refl
edited_model (refused n l p) m w = refl

moved_model : (o : Outcome (Unit {0})) (w : View) (D : ℕ) (c : Configuration) → (settle o (moved w D c) w).model ≡ w.model
moved_model (accepted u) w D c = refl
moved_model (refused n l p) w D c = refl

delayed_model : (d : ℕ) (w : View) (u : Running) → (delayed d w u).model ≡ w.model
delayed_model d w idle = refl
delayed_model d w (at D b) = moved_model (delay_check d b) w D (waited d b)

fired_run_model : (r : Rule) (v : ℕ) (w : View) (u : Running) → (fired_run r v w u).model ≡ w.model
fired_run_model r v w idle = refl
fired_run_model r v w (at D b) = moved_model (fire_check D b r v) w D (fired r.action r.to v b)

fired_model : (m : Option Rule) (v : ℕ) (w : View) → (fired_rule m v w).model ≡ w.model
fired_model None v w = refl
fired_model (Some r) v w = fired_run_model r v w w.run

judged_model : (o : Outcome (Unit {0})) (w : View) → (judge_view o w).model ≡ w.model
judged_model (accepted u) w = refl
judged_model (refused n l p) w = refl

after_model : (c : Event) (w : View) → (after c w).model ≡ edit c w.model
after_model (opens o) w = edited_model (open_outcome o) _ w
after_model (adds n) w = edited_model (add_outcome n w.model) _ w
after_model (removes k) w = edited_model (remove_outcome k w.model) _ w
after_model (retargets q) w = edited_model (retarget_outcome q w.model) _ w
after_model (inserts p) w = edited_model (insert_outcome p w.model) _ w
after_model (begins D) w = moved_model (begin_check D) w D (start_of w.model)
after_model (delays d) w = delayed_model d w w.run
after_model (fires' k v) w = fired_model (slice_get w.model.rules k) v w
after_model (judges f) w = judged_model (f w.model) w
after_model asks w = refl

-- the standing

edited_standing : {X : Type 0} (o : Outcome X) (m x : Automaton) (w : View) (c : Event) → finishes c w.standing ≡ Undecided → (settle o (edited m) w).standing ≡ settles x c (finish (void o)) w.standing
edited_standing (accepted y) m x w c f = sym f
edited_standing (refused n l p) m x w c f = refl

finish_void : (o : Outcome (Unit {0})) → finish (void o) ≡ finish o
finish_void (accepted u) = refl
finish_void (refused n l p) = refl

edit_standing : (o : Outcome (Unit {0})) (m x : Automaton) (w : View) (c : Event) → finishes c w.standing ≡ Undecided → (settle o (edited m) w).standing ≡ settles x c (finish o) w.standing
edit_standing o m x w c f = edited_standing o m x w c f ∙ ap (λ a. settles x c a w.standing) (finish_void o)

moved_standing : (o : Outcome (Unit {0})) (w : View) (D q : ℕ) (b : Configuration) (c : Event) → b.state ≡ q → (settle o (moved w D b) w).standing ≡ settles w.model c (state (answered o q)) w.standing
moved_standing (accepted u) w D q b c e = ap (λ k. arrived w.model k w.standing) e
moved_standing (refused n l p) w D q b c e = refl

delayed_standing : (d : ℕ) (w : View) (u : Running) (c : Event) → (delayed d w u).standing ≡ settles w.model c (state (delay_run d u)) w.standing
delayed_standing d w idle c = refl
delayed_standing d w (at D b) c = moved_standing (delay_check d b) w D b.state (waited d b) c refl

fired_run_standing : (r : Rule) (v : ℕ) (w : View) (u : Running) (c : Event) → (fired_run r v w u).standing ≡ settles w.model c (state (fire_run r v u)) w.standing
fired_run_standing r v w idle c = refl
fired_run_standing r v w (at D b) c = moved_standing (fire_check D b r v) w D r.to (fired r.action r.to v b) c (fired_state r.action r.to v b)

fired_standing : (m : Option Rule) (v : ℕ) (w : View) (c : Event) → (fired_rule m v w).standing ≡ settles w.model c (state (fire_rule m v w.run)) w.standing
fired_standing None v w c = refl
fired_standing (Some r) v w c = fired_run_standing r v w w.run c

judged_standing : (o : Outcome (Unit {0})) (w : View) (f : Automaton → Outcome (Unit {0})) → (judge_view o w).standing ≡ settles w.model (judges f) (finish o) w.standing
judged_standing (accepted u) w f = refl
judged_standing (refused n l p) w f = refl

after_standing : (c : Event) (w : View) → (after c w).standing ≡ settles (edit c w.model) c (answer c w) w.standing
after_standing (opens o) w = edit_standing (open_outcome o) (open_after o w.model) (open_after o w.model) w (opens o) refl
after_standing (adds n) w = edited_standing (add_outcome n w.model) (add_after n w.model) (add_after n w.model) w (adds n) refl
after_standing (removes k) w = edit_standing (remove_outcome k w.model) (remove_after k w.model) (remove_after k w.model) w (removes k) refl
after_standing (retargets q) w = edit_standing (retarget_outcome q w.model) (retarget_after q w.model) (retarget_after q w.model) w (retargets q) refl
after_standing (inserts p) w = edit_standing (insert_outcome p w.model) (insert_after p w.model) (insert_after p w.model) w (inserts p) refl
after_standing (begins D) w = moved_standing (begin_check D) w D w.model.start (start_of w.model) (begins D) refl
after_standing (delays d) w = delayed_standing d w w.run (delays d)
after_standing (fires' k v) w = fired_standing (slice_get w.model.rules k) v w (fires' k v)
after_standing (judges f) w = judged_standing (f w.model) w f
after_standing asks w = refl

-- the law

made_model : (C : Type 0) (t : Noted) (w u : View) → Makes C t w u → u.model ≡ edit t.event w.model
made_model C t w u m = ap (λ (x : View). x.model) m.holds ∙ after_model t.event w

made_standing : (C : Type 0) (t : Noted) (w u : View) → Makes C t w u → u.standing ≡ settles (edit t.event w.model) t.event (heard t.reply) w.standing
made_standing C t w u m =
    ap (λ (x : View). x.standing) m.holds ∙ after_standing t.event w
    ∙ ap (λ a. settles (edit t.event w.model) t.event a w.standing) (sym m.says)

played_replies : (C : Type 0) (w : View) (ts : List Noted) (v : View) → Played C w ts v → map (λ t. heard t.reply) ts ≡ answers_from w (events ts)
played_replies C w [] v p = refl
played_replies C w (t ∷ ts) v (u, m, p) =
    ap (λ a. a ∷ map (λ t. heard t.reply) ts) m.says
    ∙ ap (λ xs. answer t.event w ∷ xs) (played_replies C u ts v p ∙ ap (λ x. answers_from x (events ts)) m.holds)

played_model : (C : Type 0) (w : View) (ts : List Noted) (v : View) → Played C w ts v → v.model ≡ present_from w.model (events ts)
played_model C w [] v p = ap (λ (x : View). x.model) p
played_model C w (t ∷ ts) v (u, m, p) = played_model C u ts v p ∙ ap (λ x. present_from x (events ts)) (made_model C t w u m)

played_standing : (C : Type 0) (w : View) (ts : List Noted) (v : View) → Played C w ts v → v.standing ≡ settled_from w.model w.standing ts
played_standing C w [] v p = ap (λ (x : View). x.standing) p
played_standing C w (t ∷ ts) v (u, m, p) =
    played_standing C u ts v p ∙ ap (λ x. settled_from x u.standing ts) (made_model C t w u m) ∙ ap (λ s. settled_from (edit t.event w.model) s ts) (made_standing C t w u m)

played_good : (C : Type 0) (w : View) (ts : List Noted) (v : View) → Good C w → Played C w ts v → Good C v
played_good C w [] v g p = subst (Good C) (sym p) g
played_good C w (t ∷ ts) v g (u, m, p) =
    played_good C u ts v (subst (Good C) (sym m.holds) (good_after C t.event t.reply w u.model m.says m.promise g)) p

played_last : (C : Type 0) (w : View) (ts : List Noted) (t : Noted) (v : View) → Played C w (ts ++ t ∷ []) v → (u : View) × Played C w ts u × Makes C t u v
played_last C w [] t v (u, m, p) = (w, refl, subst (λ (x : View). Makes C t w x) (sym p) m)
played_last C w (s ∷ ts) t v (u, m, p) = let (x, q, n) = played_last C u ts t v p in (x, (u, m, q), n)

pub over_calls : (C : Type 0) (ts : List Noted) (w v : View) → w ≡ new_case → Played C w ts v → OverCalls C ts v
over_calls C ts w v e p' =
    let p = subst (λ (x : View). Played C x ts v) e p' in
    let g = played_good C new_case ts v (good_edited C fresh) p in
    record {
      replies = played_replies C new_case ts v p;
      model = played_model C new_case ts v p;
      standing = played_standing C new_case ts v p;
      unreachable = g.unreachable;
      reachable = g.reachable;
      inserted = λ us k r h f.
          let (u, q, m) = played_last C new_case us (record { event = inserts k; reply = r }) v (subst (λ xs. Played C new_case xs v) h p) in
          subst (λ (x : Automaton). SameReach x v.model) (played_model C new_case us u q) (m.promise f);
    }
