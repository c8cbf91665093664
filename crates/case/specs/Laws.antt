use Rattle.std.specs.Prelude.{◌≡◌, ℕ, ◌<◌, ◌≤◌, length}
use Rattle.fault.specs.Faults.{Outcome}
use Rattle.fault.specs.Faults.Outcome.{accepted}
use Rattle.abstraction.specs.Lists.{Sits, In}
use Rattle.automaton.specs.Runs.{Configuration, Starts, Waits, Fires}
use Rattle.automaton.specs.declared.rule.Rule.{Rule}
use Rattle.automaton.specs.declared.rule.Symbol.{Symbol}
use Rattle.automaton.specs.declared.rule.Action.{Action}
use Rattle.automaton.specs.declared.rule.Action.TheVariants.{Move, Test, Assign, Push, Pop}
use Rattle.case.specs.Views.{View}
use Rattle.case.specs.Views.Running.{at}
use Rattle.case.specs.Steps.{limit}

-- the calls on a run in the words of the automaton's transitions

-- a begun run stands at a start configuration
pub record Begins (D : ℕ) (w : View) (o : Outcome ℕ) (after : View) : Type 0 where
  pub holds : (q : ℕ) → o ≡ accepted q → (1 ≤ D) × (D ≤ 1000000) × (c : Configuration) × Starts w.model c × (after.run ≡ at D c) × (q ≡ c.state)
  pub only : 1 ≤ D → D ≤ 1000000 → o ≡ accepted w.model.start

-- every clock and every age keeps to the limit
abbrev pub Limited : Configuration → Type 0
Limited c = ((x : ℕ) → In c.clocks x → x ≤ limit) × ((s : Symbol) → In c.stack s → s.age ≤ limit)

-- a delay is accepted exactly when the step of time stays within the limits, and the run is then there
pub record Delays (d : ℕ) (w : View) (o : Outcome ℕ) (after : View) : Type 0 where
  pub holds : (q : ℕ) → o ≡ accepted q → (D : ℕ) × (b : Configuration) × (c : Configuration) × (w.run ≡ at D b) × Waits d b c × (d ≤ limit) × Limited c × (after.run ≡ at D c) × (q ≡ c.state)
  pub only : (D : ℕ) (b c : Configuration) → w.run ≡ at D b → Waits d b c → d ≤ limit → Limited c → (o ≡ accepted c.state) × (after.run ≡ at D c)

-- a used value keeps to the limit, and at most 128 symbols are on the stack
abbrev pub Allows : Action → ℕ → Configuration → Type 0
Allows Move v b = Unit {0}
Allows (Test k) v b = Unit {0}
Allows (Assign k) v b = v ≤ limit
Allows (Push l) v b = (v ≤ limit) × (length b.stack < 128)
Allows (Pop l) v b = Unit {0}

-- a rule is fired exactly when it is a transition of the model within the limits, and the run is then there
pub record FiresSo (k v : ℕ) (w : View) (o : Outcome ℕ) (after : View) : Type 0 where
  pub holds : (q : ℕ) → o ≡ accepted q → (D : ℕ) × (r : Rule) × (b : Configuration) × (c : Configuration) × (w.run ≡ at D b) × Sits w.model.rules k r × Fires D r v b c × Allows r.action v b × (after.run ≡ at D c) × (q ≡ c.state)
  pub only : (D : ℕ) (r : Rule) (b c : Configuration) → w.run ≡ at D b → Sits w.model.rules k r → Fires D r v b c → Allows r.action v b → (o ≡ accepted c.state) × (after.run ≡ at D c)
