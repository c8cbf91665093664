use Rattle.std.specs.Prelude.{◌≡◌, ℕ, ◌<◌, Bool, true, ◌&&◌, List, length, nat_le, nat_lt, slice_index_or}
use Rattle.fault.specs.Faults.{Outcome}
use Rattle.fault.specs.Faults.Outcome.{accepted}
use Rattle.std.specs.List.{list_all}
use Rattle.abstraction.specs.Bounds.{fits}
use Rattle.automaton.specs.Rules.{written}
use Rattle.automaton.specs.declared.rule.Rule.{Rule}
use Rattle.automaton.specs.declared.rule.RuleNumbers.{RuleNumbers}
use Rattle.automaton.specs.declared.rule.Sizes.{Sizes}
use Rattle.automaton.specs.declared.rule.Action.{Action}
use Rattle.automaton.specs.declared.rule.Action.TheVariants.{Move, Test, Assign, Push, Pop}

-- the clock or label that an action names is there
abbrev pub names : Sizes → Action → Bool
names z Move = true
names z (Test k) = nat_lt k z.clocks
names z (Assign k) = nat_lt k z.clocks
names z (Push l) = nat_le 1 l && nat_le l z.labels
names z (Pop l) = nat_le 1 l && nat_le l z.labels

-- the rule speaks of states, clocks and labels that are there, with bounds up to 15
abbrev pub lawful : Sizes → Rule → Bool
lawful z r = (nat_lt r.from z.states && nat_lt r.to z.states) && (names z r.action && fits 15 r.interval)

abbrev pub all_lawful : Sizes → List Rule → Bool
all_lawful z rs = list_all (lawful z) rs

-- what a read rule is: eight numbers are accepted exactly when they write a lawful rule, and as that
pub record Reads (z : Sizes) (n : RuleNumbers) (o : Outcome Rule) : Type 0 where
  pub holds : (r : Rule) → o ≡ accepted r → (written r ≡ n) × (lawful z r ≡ true)
  pub only : (r : Rule) → written r ≡ n → lawful z r ≡ true → o ≡ accepted r

-- the clock that an action names is among the first n
abbrev pub Clocked : ℕ → Action → Type 0
Clocked n Move = Unit {0}
Clocked n (Test k) = k < n
Clocked n (Assign k) = k < n
Clocked n (Push l) = Unit {0}
Clocked n (Pop l) = Unit {0}

abbrev pub AllClocked : ℕ → List Rule → Type 0
AllClocked n rs = (k : ℕ) (r : Rule) → k < length rs → r ≡ slice_index_or rs k r → Clocked n r.action
