use Rattle.std.specs.Prelude.{ℕ, List}
use Rattle.abstraction.specs.Owes.{Answers}
use Rattle.abstraction.specs.declared.scope.Scope.{Scope}
use Rattle.automaton.specs.Runs.{Automaton}
use Rattle.judge.specs.declared.entry.Entry.{Entry}

-- what is judged: that the table, by the answers of an abstraction asked up to the bound top, keeps
-- the automaton's target from all of its runs
pub record Claim (S : Type 0) : Type 0 where
  pub answers : Answers S
  pub automaton : Automaton
  pub top : ℕ
  pub table : List (Entry S)

abbrev pub claim : {S : Type 0} → Answers S → Automaton → ℕ → List (Entry S) → Claim S
claim a m top t = record { answers = a; automaton = m; top = top; table = t }

-- what the abstraction is asked for
abbrev pub scope : {S : Type 0} → Claim S → Scope
scope z = record { clocks = z.automaton.clocks; top = z.top }
