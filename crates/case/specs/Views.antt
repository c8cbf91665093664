use Rattle.std.specs.Prelude.{ℕ, cond, List, reverse, take, vec_items, Some, None, Option, ◌==◌}
use Rattle.automaton.specs.Runs.{Automaton, Configuration}
use Rattle.automaton.specs.Models.{automaton}
use Rattle.automaton.specs.declared.rule.Symbol.{Symbol}
use Rattle.case.specs.declared.run.Progress.{Progress}
use Rattle.case.specs.declared.stack.Stack.{Stack}
use Rattle.case.specs.declared.case.Standing.{Standing}
use Rattle.case.specs.declared.case.Standing.TheVariants.{Reachable}
use Rattle.case.specs.declared.case.Case.{Case}

-- no run, or one at a scale that stands at a configuration
pub data Running : Type 0 where
  idle : Running
  at : ℕ → Configuration → Running

-- what a case holds: the present model, the run and the standing
pub record View : Type 0 where
  pub model : Automaton
  pub run : Running
  pub standing : Standing

-- the symbols of a stack, its top first; its last symbol is its top
abbrev pub stacked : Stack → List Symbol
stacked s = reverse (vec_items s.symbols)

-- the configuration of a run in progress with n clocks, over the symbols of its stack
abbrev pub configuration : ℕ → Progress → List Symbol → Configuration
configuration n p ss = record { state = p.state; clocks = take n p.clocks; stack = ss }

abbrev pub running : Option Progress → ℕ → List Symbol → Running
running None n ss = idle
running (Some p) n ss = at p.scale (configuration n p ss)

abbrev pub view : Case → View
view c =
    record {
      model = automaton c.model;
      run = running c.run (automaton c.model).clocks (stacked c.stack);
      standing = c.standing;
    }

-- a run in progress, over the stack and the clocks of a case
abbrev pub now_at : Progress → Case → Running
now_at p c = running (Some p) (automaton c.model).clocks (stacked c.stack)

-- a run that stands in the target makes the case reachable
abbrev pub arrived : Automaton → ℕ → Standing → Standing
arrived m q s = cond (q == m.target) Reachable s

abbrev pub stood : Progress → Case → Case
stood p c =
    record {
      model = c.model;
      run = Some p;
      stack = c.stack;
      standing = arrived (automaton c.model) p.state c.standing;
    }
