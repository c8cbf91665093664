use Rattle.std.specs.Prelude.{◌≡◌, ℕ, List, [], ◌∷◌, ◌++◌, map, Some, None, Option, Ok, Err, Result}
use Rattle.fault.specs.Faults.{Outcome, number, layer}
use Rattle.fault.specs.Faults.Outcome.{accepted, refused}
use Rattle.fault.specs.declared.Fault.{Fault}
use Rattle.fault.specs.declared.Layer.{Layer}
use Rattle.fault.specs.declared.Place.{Place}
use Rattle.abstraction.specs.Lists.{Sits}
use Rattle.abstraction.specs.Owes.{Answers, Meaning, Covers}
use Rattle.automaton.specs.Runs.{Automaton, Reaches}
use Rattle.automaton.specs.Insert.{SameReach}
use Rattle.automaton.specs.Edits.{fresh, open_outcome, open_after, add_outcome, add_after, remove_outcome, remove_after, retarget_outcome, retarget_after, insert_outcome, insert_after}
use Rattle.automaton.specs.declared.model.Opening.{Opening}
use Rattle.automaton.specs.declared.rule.RuleNumbers.{RuleNumbers}
use Rattle.judge.specs.Claims.{claim}
use Rattle.judge.specs.Judged.{judged}
use Rattle.case.specs.Views.{View, arrived}
use Rattle.case.specs.Calls.{new_case, judge_view, open_view, add_view, remove_view, retarget_view, insert_view, void, begin_outcome, begin_after, delay_outcome, delay_after, fire_outcome, fire_after}
use Rattle.case.specs.declared.case.Standing.{Standing}
use Rattle.case.specs.declared.case.Standing.TheVariants.{Undecided, Reachable, Unreachable}
use Rattle.case.specs.declared.history.Call.{Call}
use Rattle.case.specs.declared.history.Call.TheVariants.{Open, Add, Remove, Retarget, Insert, Begin, Delay, Fire, Judge, Ask}
use Rattle.case.specs.declared.history.Reply.{Reply}
use Rattle.case.specs.declared.history.Reply.TheVariants.{Done, InState, Stands}
use Rattle.case.specs.declared.history.Turn.{Turn}

-- a call as the law sees it; a judgment by the answer that it gives on a model
pub data Event : Type 0 where
  opens : Opening → Event
  adds : RuleNumbers → Event
  removes : ℕ → Event
  retargets : ℕ → Event
  inserts : ℕ → Event
  begins : ℕ → Event
  delays : ℕ → Event
  fires : ℕ → ℕ → Event
  judges : (Automaton → Outcome (Unit {0})) → Event
  asks : Event

-- with a scratch of n bytes
abbrev pub event : {A S : Type 0} → (A → Answers S) → ℕ → Call A S → Event
event ans n (Open o) = opens o
event ans n (Add x) = adds x
event ans n (Remove k) = removes k
event ans n (Retarget q) = retargets q
event ans n (Insert p) = inserts p
event ans n (Begin D) = begins D
event ans n (Delay d) = delays d
event ans n (Fire k v) = fires k v
event ans n (Judge a t top) = judges (λ m. judged (claim (ans a.now) m top t.now) n)
event ans n Ask = asks

-- what a call answered, once it is made
abbrev pub Told : Type 0
Told = Option (Result Reply Fault)

-- a call and its reply
pub record Noted : Type 0 where
  pub event : Event
  pub reply : Told

abbrev pub noted : {A S : Type 0} → (A → Answers S) → ℕ → Turn A S → Noted
noted ans n t = record { event = event ans n t.call; reply = t.reply }

abbrev pub notes_of : {A S : Type 0} → (A → Answers S) → ℕ → List (Turn A S) → List Noted
notes_of ans n ts = map (noted ans n) ts

abbrev pub calls : {A S : Type 0} → List (Turn A S) → List (Call A S)
calls ts = map (λ t. t.call) ts

abbrev pub events : List Noted → List Event
events ts = map (λ t. t.event) ts

-- the abstraction that a call brings covers
abbrev pub Carries : {A S : Type 0} → (A → Answers S) → (A → Meaning S) → Call A S → Type 0
Carries ans mean (Open o) = Unit {0}
Carries ans mean (Add x) = Unit {0}
Carries ans mean (Remove k) = Unit {0}
Carries ans mean (Retarget q) = Unit {0}
Carries ans mean (Insert p) = Unit {0}
Carries ans mean (Begin D) = Unit {0}
Carries ans mean (Delay d) = Unit {0}
Carries ans mean (Fire k v) = Unit {0}
Carries ans mean (Judge a t top) = Covers (ans a.now) (mean a.now)
Carries ans mean Ask = Unit {0}

abbrev pub AllCarry : {A S : Type 0} → (A → Answers S) → (A → Meaning S) → List (Call A S) → Type 0
AllCarry {A} {S} ans mean cs = (k : ℕ) (c : Call A S) → Sits cs k c → Carries ans mean c

-- an answer as its reader sees it
pub data Answer : Type 0 where
  none : Answer
  finished : Answer
  in_state : ℕ → Answer
  stands : Standing → Answer
  denied : ℕ → Layer → Place → Answer

abbrev pub heard : Told → Answer
heard None = none
heard (Some (Ok Done)) = finished
heard (Some (Ok (InState q))) = in_state q
heard (Some (Ok (Stands s))) = stands s
heard (Some (Err f)) = denied (number f.refusal) (layer f.refusal) f.place

abbrev pub finish : Outcome (Unit {0}) → Answer
finish (accepted u) = finished
finish (refused n l p) = denied n l p

abbrev pub state : Outcome ℕ → Answer
state (accepted q) = in_state q
state (refused n l p) = denied n l p

-- what a call answers on a case, and what the case holds then
abbrev pub answer : Event → View → Answer
answer (opens o) w = finish (open_outcome o)
answer (adds n) w = finish (void (add_outcome n w.model))
answer (removes k) w = finish (remove_outcome k w.model)
answer (retargets q) w = finish (retarget_outcome q w.model)
answer (inserts p) w = finish (insert_outcome p w.model)
answer (begins D) w = state (begin_outcome D w)
answer (delays d) w = state (delay_outcome d w)
answer (fires k v) w = state (fire_outcome k v w)
answer (judges f) w = finish (f w.model)
answer asks w = stands w.standing

abbrev pub after : Event → View → View
after (opens o) w = open_view o w
after (adds n) w = add_view n w
after (removes k) w = remove_view k w
after (retargets q) w = retarget_view q w
after (inserts p) w = insert_view p w
after (begins D) w = begin_after D w
after (delays d) w = delay_after d w
after (fires k v) w = fire_after k v w
after (judges f) w = judge_view (f w.model) w
after asks w = w

-- the present model follows from the calls alone: an edit that is not refused changes it, all else leaves it

abbrev pub edit : Event → Automaton → Automaton
edit (opens o) m = open_after o m
edit (adds n) m = add_after n m
edit (removes k) m = remove_after k m
edit (retargets q) m = retarget_after q m
edit (inserts p) m = insert_after p m
edit (begins D) m = m
edit (delays d) m = m
edit (fires k v) m = m
edit (judges f) m = m
edit asks m = m

abbrev pub present_from : Automaton → List Event → Automaton
present_from m [] = m
present_from m (c ∷ cs) = present_from (edit c m) cs

abbrev pub present : List Event → Automaton
present cs = present_from fresh cs

-- the answers to a list of calls
abbrev pub answers_from : View → List Event → List Answer
answers_from w [] = []
answers_from w (c ∷ cs) = answer c w ∷ answers_from (after c w) cs

-- the standing follows from the calls with their answers

-- a finished edit leaves the case undecided, an accepted table makes it unreachable
abbrev pub finishes : Event → Standing → Standing
finishes (opens o) s = Undecided
finishes (adds n) s = Undecided
finishes (removes k) s = Undecided
finishes (retargets q) s = Undecided
finishes (inserts p) s = Undecided
finishes (begins D) s = s
finishes (delays d) s = s
finishes (fires k v) s = s
finishes (judges f) s = Unreachable
finishes asks s = s

-- a run that came to the target makes it reachable
abbrev pub settles : Automaton → Event → Answer → Standing → Standing
settles m c none s = s
settles m c finished s = finishes c s
settles m c (in_state q) s = arrived m q s
settles m c (stands t) s = s
settles m c (denied n l p) s = s

abbrev pub settled_from : Automaton → Standing → List Noted → Standing
settled_from m s [] = s
settled_from m s (t ∷ ts) = settled_from (edit t.event m) (settles (edit t.event m) t.event (heard t.reply) s) ts

abbrev pub settled : List Noted → Standing
settled ts = settled_from fresh Undecided ts

-- what a call promises of the models before and after it, if C: an accepted insertion changes no
-- state's reachability, and an accepted table keeps the target from every run
abbrev pub Promised : Type 0 → Event → Told → Automaton → Automaton → Type 0
Promised C (opens o) r m n = Unit {0}
Promised C (adds x) r m n = Unit {0}
Promised C (removes k) r m n = Unit {0}
Promised C (retargets q) r m n = Unit {0}
Promised C (inserts p) r m n = heard r ≡ finished → SameReach m n
Promised C (begins D) r m n = Unit {0}
Promised C (delays d) r m n = Unit {0}
Promised C (fires k v) r m n = Unit {0}
Promised C (judges f) r m n = C → heard r ≡ finished → Reaches m m.target → ⊥
Promised C asks r m n = Unit {0}

-- one call leads from the view w to the view v
pub record Makes (C : Type 0) (t : Noted) (w v : View) : Type 0 where
  pub says : heard t.reply ≡ answer t.event w
  pub holds : v ≡ after t.event w
  pub promise : Promised C t.event t.reply w.model v.model

-- the calls lead from the view w to the view v
abbrev pub Played : Type 0 → View → List Noted → View → Type 0
Played C w [] v = v ≡ w
Played C w (t ∷ ts) v = (u : View) × Makes C t w u × Played C u ts v

-- the law over any list of calls on a new case, v being what the case holds then and C that every
-- abstraction brought covers
pub record OverCalls (C : Type 0) (ts : List Noted) (v : View) : Type 0 where
  pub replies : map (λ t. heard t.reply) ts ≡ answers_from new_case (events ts)
  pub model : v.model ≡ present (events ts)
  pub standing : v.standing ≡ settled ts
  pub unreachable : C → v.standing ≡ Unreachable → Reaches v.model v.model.target → ⊥
  pub reachable : v.standing ≡ Reachable → Reaches v.model v.model.target
  pub inserted : (us : List Noted) (p : ℕ) (r : Told) → ts ≡ us ++ (record { event = inserts p; reply = r }) ∷ [] → heard r ≡ finished → SameReach (present (events us)) v.model
