use Rattle.std.specs.Prelude.{ℕ, false, List, [], ◌∷◌}
use Rattle.abstraction.specs.declared.interval.Interval.{Interval}
use Rattle.abstraction.specs.declared.interval.Lower.TheVariants.{From}
use Rattle.abstraction.specs.declared.interval.Upper.TheVariants.{Upto}
use Rattle.abstraction.specs.declared.scope.Scope.{Scope}
use Rattle.automaton.specs.Runs.{Automaton}
use Rattle.automaton.specs.Edits.{open_after, fresh}
use Rattle.ranking.specs.declared.Item.{Item}
use Rattle.ranking.specs.declared.Region.{Region}
use Rattle.ranking.specs.Items.{none, with_items}
use Rattle.judge.specs.declared.entry.Entry.{Entry}

-- an item by its whole part and its rank
abbrev pub it : ℕ → ℕ → Item
it w r = record { whole = w; rank = r }

-- a region without clocks, all of whose items are the same
abbrev pub alike : Item → Region
alike x = with_items (x ∷ x ∷ x ∷ none ∷ none ∷ none ∷ none ∷ none ∷ none ∷ [])

-- two states, 0 the start and 1 the target, no labels, clocks or rules
abbrev pub apart : Automaton
apart = open_after (record { states = 2; start = 0; target = 1; labels = 0; clocks = 0 }) fresh

abbrev pub row : Item → Entry Region
row x = record { root = 0; state = 0; label = 0; shape = alike x }

-- at 0, past it, at 1 and past that
abbrev pub closed_rows : List (Entry Region)
closed_rows = row (it 0 0) ∷ row (it 0 1) ∷ row (it 1 0) ∷ row (it 1 1) ∷ []

-- the last is missing
abbrev pub open_rows : List (Entry Region)
open_rows = row (it 0 0) ∷ row (it 0 1) ∷ row (it 1 0) ∷ []

-- a region of one clock: the clock, the age, the kept clock, the kept age, the time elapsed
abbrev pub five : Item → Item → Item → Item → Item → Region
five a b c d e = with_items (a ∷ b ∷ c ∷ d ∷ e ∷ none ∷ none ∷ none ∷ none ∷ [])

-- one clock, top 1
abbrev pub one : Scope
one = record { clocks = 1; top = 1 }

-- exactly 0
abbrev pub at_zero : Interval
at_zero = record { lower = From 0; upper = Upto 0 }
