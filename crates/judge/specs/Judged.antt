use Rattle.std.specs.Prelude.{ℕ, Bool, true, false, cond, not, ◌&&◌, List, [], ◌∷◌, length, Some, None, Option, ◌==◌, nat_le, nat_lt, slice_index_or}
use Rattle.std.specs.Option.{unwrap_or}
use Rattle.fault.specs.Faults.{Outcome}
use Rattle.fault.specs.Faults.Outcome.{accepted, refused}
use Rattle.fault.specs.declared.Layer.TheVariants.{Evidence}
use Rattle.fault.specs.declared.Place.{Place}
use Rattle.fault.specs.declared.Place.TheVariants.{Table}
use Rattle.std.specs.List.{list_all}
use Rattle.abstraction.specs.Lists.{any, or_else, first, unless, fault}
use Rattle.abstraction.specs.Bounds.{fits}
use Rattle.abstraction.specs.declared.interval.Interval.{Interval}
use Rattle.automaton.specs.declared.rule.Rule.{Rule}
use Rattle.automaton.specs.declared.rule.Action.{Action}
use Rattle.automaton.specs.declared.rule.Action.TheVariants.{Move, Test, Assign, Push, Pop}
use Rattle.judge.specs.Claims.{Claim, scope}
use Rattle.judge.specs.declared.entry.Entry.{Entry}
use Rattle.judge.specs.declared.want.Want.{Want}

-- which answer a claim gets, and at which place it is refused

-- the entry e at the place k is one of those that are wanted
abbrev pub wanted : {S : Type 0} → Want → ℕ → Entry S → Bool
wanted w k e = e.root == unwrap_or w.root k && (e.state == w.state && e.label == w.label)

-- entries in the state q, with the label and the root of e
abbrev pub beside : {S : Type 0} → Entry S → ℕ → Want
beside e q = record { root = Some e.root; state = q; label = e.label }

-- roots in the state q with the label l
abbrev pub roots : ℕ → ℕ → Want
roots q l = record { root = None; state = q; label = l }

-- the place of an entry, of a rule at it and of an entry above it, each as far as there is one
abbrev pub place : Option ℕ → Option ℕ → Option ℕ → Place
place e r a = Table (unwrap_or e 2048) (unwrap_or r 64) (unwrap_or a 2048)

-- places: an entry by itself, a rule at an entry, and a pop rule at an entry and one above it
abbrev pub at_entry : ℕ → Place
at_entry k = Table k 64 2048

abbrev pub at_rule : ℕ → ℕ → Place
at_rule k n = Table k n 2048

abbrev pub at_return : ℕ → ℕ → ℕ → Place
at_return k j n = Table k n j

module _ {S : Type 0} (z : Claim S) where
  -- the entry e at the place k is wanted, and takes the shape
  abbrev pub takes : Want → S → ℕ → Entry S → Bool
  takes w s k e = wanted w k e && z.answers.within (scope z) s e.shape

  -- some wanted entry takes the shape
  abbrev pub taken : Want → S → Bool
  taken w s = any (takes w s) 0 z.table

  abbrev pub all_taken : Want → List S → Bool
  all_taken w ss = list_all (taken w) ss

  abbrev pub time_closed : Entry S → Bool
  time_closed e = all_taken (beside e e.state) (z.answers.time (scope z) e.shape)

  -- an action of an entry; pops are closed apart, over two entries
  abbrev pub action_closed : Entry S → ℕ → Interval → Action → Bool
  action_closed e q i Move = taken (beside e q) e.shape
  action_closed e q i (Test k) = all_taken (beside e q) (z.answers.test (scope z) k i e.shape)
  action_closed e q i (Assign k) = all_taken (beside e q) (z.answers.assign (scope z) k i e.shape)
  action_closed e q i (Push l) = all_taken (roots q l) (z.answers.push (scope z) i e.shape)
  action_closed e q i (Pop l) = true

  abbrev pub rule_closed : Entry S → Rule → Bool
  rule_closed e r = cond (r.from == e.state) (action_closed e r.to r.interval r.action) true

  abbrev pub any_within : S → List S → Bool
  any_within o ss = any (λ _ s. z.answers.within (scope z) s o) 0 ss

  -- a push from e comes to o
  abbrev pub pushes : Entry S → Entry S → ℕ → Interval → Action → Bool
  pushes e o q i Move = false
  pushes e o q i (Test k) = false
  pushes e o q i (Assign k) = false
  pushes e o q i (Push l) = (q == o.state && l == o.label) && any_within o.shape (z.answers.push (scope z) i e.shape)
  pushes e o q i (Pop l) = false

  abbrev pub opens_by : Entry S → Entry S → Rule → Bool
  opens_by e o r = r.from == e.state && pushes e o r.to r.interval r.action

  -- e opens the root o
  abbrev pub opens : Entry S → Entry S → Bool
  opens e o = any (λ _ r. opens_by e o r) 0 z.automaton.rules

  -- a pop from u, which stands on e
  abbrev pub pop_closed : Entry S → Entry S → ℕ → Interval → Action → Bool
  pop_closed e u q i Move = true
  pop_closed e u q i (Test k) = true
  pop_closed e u q i (Assign k) = true
  pop_closed e u q i (Push l) = true
  pop_closed e u q i (Pop l) = cond (l == u.label) (all_taken (beside e q) (z.answers.pop (scope z) i e.shape u.shape)) true

  abbrev pub return_closed : Entry S → Entry S → Rule → Bool
  return_closed e u r = cond (r.from == u.state) (pop_closed e u r.to r.interval r.action) true

  -- the first rule by which the entry e at the place k is not closed
  abbrev pub rules_fault : ℕ → Entry S → Option Place
  rules_fault k e = fault (rule_closed e) (at_rule k) 0 z.automaton.rules

  abbrev pub pops_fault : ℕ → Entry S → ℕ → Entry S → Option Place
  pops_fault k e j u = fault (return_closed e u) (at_return k j) 0 z.automaton.rules

  -- the first pop rule of the entry u at the place j, if its root is one that e opens
  abbrev pub return_fault : ℕ → Entry S → ℕ → Entry S → Option Place
  return_fault k e j u = cond (opens e (slice_index_or z.table u.root e)) (pops_fault k e j u) None

  abbrev pub returns_fault : ℕ → Entry S → Option Place
  returns_fault k e = first (return_fault k e) 0 z.table

  abbrev pub entry_fault : ℕ → Entry S → Option Place
  entry_fault k e = or_else (unless (time_closed e) (at_entry k)) (or_else (rules_fault k e) (returns_fault k e))

  -- the first place at which the table is not closed
  abbrev pub closure_fault : Option Place
  closure_fault = first entry_fault 0 z.table

  abbrev pub action_fits : Interval → Action → Bool
  action_fits i Move = true
  action_fits i (Test k) = fits z.top i
  action_fits i (Assign k) = fits z.top i
  action_fits i (Push l) = fits z.top i
  action_fits i (Pop l) = fits z.top i

  abbrev pub rules_fit : Bool
  rules_fit = list_all (λ r. action_fits r.interval r.action) z.automaton.rules

  -- the lengths of the table and of the scratch, and the top
  abbrev pub sizes_fit : ℕ → Bool
  sizes_fit n =
      ((nat_le 1 (length z.table) && nat_le (length z.table) 2048) && nat_le (length z.table) n) && (nat_le z.top 15 && rules_fit)

  -- o is a root for e, which names it by the place k
  abbrev pub root_fits : Entry S → ℕ → Entry S → Bool
  root_fits e k o = o.root == k && o.label == e.label

  abbrev pub entry_lawful : Entry S → Bool
  entry_lawful e =
      nat_lt e.root (length z.table) && (root_fits e e.root (slice_index_or z.table e.root e) && ((nat_lt e.state z.automaton.states && nat_le e.label z.automaton.labels) && z.answers.lawful (scope z) e.shape))

  abbrev pub lawful_fault : Option Place
  lawful_fault = fault entry_lawful at_entry 0 z.table

  abbrev pub begins : Entry S → Bool
  begins e =
      (e.root == 0 && (e.state == z.automaton.start && e.label == 0)) && z.answers.within (scope z) (z.answers.start (scope z)) e.shape

  abbrev pub table_begins : List (Entry S) → Bool
  table_begins [] = false
  table_begins (e ∷ es) = begins e

  abbrev pub target_fault : Option Place
  target_fault = fault (λ e. not (e.state == z.automaton.target)) at_entry 0 z.table

-- refused by n at the place unless the test holds
abbrev pub unless_failed : Bool → ℕ → Place → Outcome (Unit {0}) → Outcome (Unit {0})
unless_failed true n p o = o
unless_failed false n p o = refused n Evidence p

-- refused by n at the place that was found
abbrev pub unless_found : Option Place → ℕ → Outcome (Unit {0}) → Outcome (Unit {0})
unless_found None n o = o
unless_found (Some p) n o = refused n Evidence p

-- what comes of a claim, with a scratch of so many bytes
abbrev pub judged : {S : Type 0} → Claim S → ℕ → Outcome (Unit {0})
judged z n =
    unless_failed (sizes_fit z n) 18 (Table 2048 64 2048)
    (unless_found (lawful_fault z) 19
    (unless_failed (table_begins z z.table) 20 (at_entry 0)
    (unless_found (target_fault z) 21
    (unless_found (closure_fault z) 22
    (accepted tt)))))
