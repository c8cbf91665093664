use Rattle.std.specs.Prelude.{◌≡◌, ℕ, ◌+◌, ◌≤◌, List, [], ◌∷◌, map, replicate, slice_index, slice_set}
use Rattle.abstraction.specs.Lists.{In}
use Rattle.abstraction.specs.Frames.{plus}
use Rattle.abstraction.specs.Bounds.{Inside}
use Rattle.abstraction.specs.declared.interval.Interval.{Interval}
use Rattle.automaton.specs.declared.rule.Symbol.{Symbol}
use Rattle.automaton.specs.declared.rule.Rule.{Rule}
use Rattle.automaton.specs.declared.rule.Action.{Action}
use Rattle.automaton.specs.declared.rule.Action.TheVariants.{Move, Test, Assign, Push, Pop}

-- a dense-timed pushdown automaton: so many states, labels and clocks, a start and a target state
-- and rules, known by their places
pub record Automaton : Type 0 where
  pub states : ℕ
  pub labels : ℕ
  pub clocks : ℕ
  pub start : ℕ
  pub target : ℕ
  pub rules : List Rule

-- where a run stands: a state, the values of the clocks and the stack, its top first; all times are
-- whole numbers of parts of 1 / D at a scale D, without limit
pub record Configuration : Type 0 where
  pub state : ℕ
  pub clocks : List ℕ
  pub stack : List Symbol

abbrev pub older : ℕ → Symbol → Symbol
older d s = record { label = s.label; age = s.age + d }

-- what an action does to the clocks and the stack, with the value v, which assignments and pushes use
abbrev pub Does : ℕ → Interval → Action → ℕ → List ℕ → List Symbol → List ℕ → List Symbol → Type 0
Does D i Move v xs ss ys rs = (ys ≡ xs) × (rs ≡ ss)
Does D i (Test k) v xs ss ys rs = Inside D i (slice_index xs k) × (ys ≡ xs) × (rs ≡ ss)
Does D i (Assign k) v xs ss ys rs = Inside D i v × (ys ≡ slice_set xs k v) × (rs ≡ ss)
Does D i (Push l) v xs ss ys rs = Inside D i v × (ys ≡ xs) × (rs ≡ (record { label = l; age = v }) ∷ ss)
Does D i (Pop l) v xs ss ys rs = (a : ℕ) × Inside D i a × (ys ≡ xs) × (ss ≡ (record { label = l; age = a }) ∷ rs)

-- every run starts in the start state, all clocks 0, on an empty stack
abbrev pub Starts : Automaton → Configuration → Type 0
Starts m c = (c.state ≡ m.start) × (c.clocks ≡ replicate m.clocks 0) × (c.stack ≡ [])

-- a step of time adds d to every clock and every age
abbrev pub Waits : ℕ → Configuration → Configuration → Type 0
Waits d b c = (c.state ≡ b.state) × (c.clocks ≡ plus d b.clocks) × (c.stack ≡ map (older d) b.stack)

-- a step by a rule with a value
abbrev pub Fires : ℕ → Rule → ℕ → Configuration → Configuration → Type 0
Fires D r v b c = (b.state ≡ r.from) × (c.state ≡ r.to) × Does D r.interval r.action v b.clocks b.stack c.clocks c.stack

-- the transitions of the automaton at scale D
pub data Step (m : Automaton) (D : ℕ) (b c : Configuration) : Type 0 where
  waits : (d : ℕ) → Waits d b c → Step m D b c
  fires : (r : Rule) → In m.rules r → (v : ℕ) → Fires D r v b c → Step m D b c

-- the configurations to which the runs at scale D come
pub data Run (m : Automaton) (D : ℕ) : Configuration → Type 0 where
  begun : {c : Configuration} → Starts m c → Run m D c
  stepped : {b c : Configuration} → Run m D b → Step m D b c → Run m D c

-- some run at some scale comes to the state q
abbrev pub Reaches : Automaton → ℕ → Type 0
Reaches m q = (D : ℕ) × (1 ≤ D) × (c : Configuration) × Run m D c × (c.state ≡ q)
