-- What the calls of an object come to.
use Rattle.std.specs.Prelude.{ℕ, ◌+◌, List, [], ◌∷◌}
use Rattle.fault.specs.declared.Place.TheVariants.{Row}
use Rattle.fault.specs.Faults.{Outcome}
use Rattle.fault.specs.Faults.Outcome.{accepted, refused}
use Rattle.automaton.specs.Edits.{open_outcome, add_outcome}
use Rattle.case.specs.declared.case.Standing.{Standing}
use Rattle.case.specs.Views.{View}
use Rattle.case.specs.Calls.{void, open_view, add_view, begin_outcome, begin_after, delay_outcome, delay_after, fire_outcome, fire_after}
use Rattle.text.specs.declared.asks.Ask.{Ask}
use Rattle.text.specs.declared.asks.Ask.TheVariants.{Open, Add, Begin, Delay, Fire}

-- what is said of an object: the standing, or the number, the layer and the place of a refusal
abbrev pub Said : Type 0
Said = Outcome Standing

-- whether a call is accepted by a case, and what the case holds after it
abbrev pub asked : Ask → View → Outcome (Unit {0})
asked (Open o) w = open_outcome o
asked (Add n) w = void (add_outcome n w.model)
asked (Begin D) w = void (begin_outcome D w)
asked (Delay d) w = void (delay_outcome d w)
asked (Fire k v) w = void (fire_outcome k v w)

abbrev pub after : Ask → View → View
after (Open o) w = open_view o w
after (Add n) w = add_view n w
after (Begin D) w = begin_after D w
after (Delay d) w = delay_after d w
after (Fire k v) w = fire_after k v w

-- the calls go on after one that is accepted; a refusal is said with its row
abbrev pub unless_refused : Outcome (Unit {0}) → ℕ → Said → Said
unless_refused (accepted u) k s = s
unless_refused (refused n l p) k s = refused n l (Row k)

-- what is said of an object whose calls these are, the first of them being row k
abbrev pub said_from : ℕ → List Ask → View → Said
said_from k [] w = accepted w.standing
said_from k (c ∷ cs) w = unless_refused (asked c w) k (said_from (k + 1) cs (after c w))

-- the case goes on from later, or is left as now by a refusal
abbrev pub goes_on : Outcome (Unit {0}) → View → View → View
goes_on (accepted u) later now = later
goes_on (refused n l p) later now = now

-- what the case holds after those calls
abbrev pub case_from : List Ask → View → View
case_from [] w = w
case_from (c ∷ cs) w = goes_on (asked c w) (case_from cs (after c w)) (after c w)
