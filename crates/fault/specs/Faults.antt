use Rattle.std.specs.Prelude.{ℕ, Ok, Err, Result}
use Rattle.fault.specs.declared.Fault.{Fault}
use Rattle.fault.specs.declared.Place.{Place}
use Rattle.fault.specs.declared.Layer.{Layer}
use Rattle.fault.specs.declared.Layer.TheVariants.{Text, Record, Case, Evidence}
use Rattle.fault.specs.declared.Refusal.{Refusal}
use Rattle.fault.specs.declared.Refusal.TheVariants.{SizeOutOfRange, NoSuchState, RuleTableFull, RuleStateUnknown, KindUnknown, ArgumentUnfit, BoundUnfit, NoSuchRule, ClocksFull, NoSuchPlace, ScaleOutOfRange, NoRun, ValueTooLarge, OtherState, OtherTop, StackFull, OutsideInterval, TableUnfit, EntryUnlawful, FirstEntryUnfit, EntryInTarget, NotClosed, NoToken, OtherTokenDue, NumberUnfit}

-- the number of each refusal
abbrev pub number : Refusal → ℕ
number SizeOutOfRange = 1
number NoSuchState = 2
number RuleTableFull = 3
number RuleStateUnknown = 4
number KindUnknown = 5
number ArgumentUnfit = 6
number BoundUnfit = 7
number NoSuchRule = 8
number ClocksFull = 9
number NoSuchPlace = 10
number ScaleOutOfRange = 11
number NoRun = 12
number ValueTooLarge = 13
number OtherState = 14
number OtherTop = 15
number StackFull = 16
number OutsideInterval = 17
number TableUnfit = 18
number EntryUnlawful = 19
number FirstEntryUnfit = 20
number EntryInTarget = 21
number NotClosed = 22
number NoToken = 23
number OtherTokenDue = 24
number NumberUnfit = 25

-- the layer of each refusal
abbrev pub layer : Refusal → Layer
layer SizeOutOfRange = Case
layer NoSuchState = Case
layer RuleTableFull = Case
layer RuleStateUnknown = Case
layer KindUnknown = Case
layer ArgumentUnfit = Case
layer BoundUnfit = Case
layer NoSuchRule = Case
layer ClocksFull = Case
layer NoSuchPlace = Case
layer ScaleOutOfRange = Case
layer NoRun = Case
layer ValueTooLarge = Case
layer OtherState = Case
layer OtherTop = Case
layer StackFull = Case
layer OutsideInterval = Case
layer TableUnfit = Evidence
layer EntryUnlawful = Evidence
layer FirstEntryUnfit = Evidence
layer EntryInTarget = Evidence
layer NotClosed = Evidence
layer NoToken = Text
layer OtherTokenDue = Record
layer NumberUnfit = Record

-- what came of a call: its result, or the number, the layer and the place of its refusal
pub data Outcome (X : Type 0) : Type 0 where
  accepted : X → Outcome X
  refused : ℕ → Layer → Place → Outcome X

-- a fault as its reader sees it
abbrev pub told : {X : Type 0} → Fault → Outcome X
told f = refused (number f.refusal) (layer f.refusal) f.place

abbrev pub outcome : {X : Type 0} → Result X Fault → Outcome X
outcome (Ok x) = accepted x
outcome (Err f) = told f
