use Rattle.std.specs.Prelude.{◌≡◌, [], ◌∷◌}
use Rattle.fault.specs.Faults.Outcome.{accepted, refused}
use Rattle.fault.specs.declared.Layer.TheVariants.{Case, Evidence}
use Rattle.fault.specs.declared.Place.TheVariants.{Row, Table}
use Rattle.automaton.specs.Edits.{insert_outcome}
use Rattle.ranking.specs.Items.{places, ceiling}
use Rattle.ranking.specs.Rotation.{turned}
use Rattle.judge.specs.Claims.{claim}
use Rattle.judge.specs.Judged.{judged}
use Rattle.case.specs.Calls.{begin_outcome, begin_after, delay_outcome, fire_outcome, insert_view}
use Rattle.case.specs.declared.case.Standing.TheVariants.{Undecided, Reachable}
use Rattle.region.specs.declared.Regions.{Regions}
use Rattle.region.specs.Regions.{regions}
use Rattle.figures.specs.Drawn.{drawn, pushed, aged, popped, rules}
use Rattle.figures.specs.Tables.{it, apart, closed_rows, open_rows, five, one, at_zero}

-- ten units after the push the symbol is popped, and the target is reached
pub record PoppedAtOne : Type 0 where
  pub draws : drawn.model.rules ≡ rules 0
  pub undecided : drawn.standing ≡ Undecided
  pub begins : begin_outcome 10 drawn ≡ accepted 0
  pub pushes : fire_outcome 0 0 (begin_after 10 drawn) ≡ accepted 1
  pub waits : delay_outcome 10 pushed ≡ accepted 1
  pub pops : fire_outcome 1 0 (aged 10) ≡ accepted 2
  pub reachable : (popped 10).standing ≡ Reachable

-- nine units are too few, and the refusal changes nothing
pub record TooYoung : Type 0 where
  pub waits : delay_outcome 9 pushed ≡ accepted 1
  pub pops : fire_outcome 1 0 (aged 9) ≡ refused 17 Case (Row 0)
  pub kept : popped 9 ≡ aged 9
  pub undecided : (popped 9).standing ≡ Undecided

-- twenty units are not too many, twenty-one are
pub record AtMostTwo : Type 0 where
  pub taken : fire_outcome 1 0 (aged 20) ≡ accepted 2
  pub reachable : (popped 20).standing ≡ Reachable
  pub too_old : fire_outcome 1 0 (aged 21) ≡ refused 17 Case (Row 0)
  pub kept : popped 21 ≡ aged 21

-- a clock put at place 0 moves the tested clock up, and no label
pub record ClockBefore : Type 0 where
  pub inserts : insert_outcome 0 drawn.model ≡ accepted tt
  pub clocks : (insert_view 0 drawn).model.clocks ≡ 2
  pub raises : (insert_view 0 drawn).model.rules ≡ rules 1

-- over regions with top 0, four rows close under time, and three do not
pub record FourRows (a : Regions) : Type 0 where
  pub closed : judged (claim (regions a) apart 0 closed_rows) 4 ≡ accepted tt
  pub gap : judged (claim (regions a) apart 0 open_rows) 4 ≡ refused 22 Evidence (Table 0 64 2048)

-- two rotations, of one clock with top 1
pub record Rotations : Type 0 where
  pub once : turned (places one) (ceiling one) (five (it 1 1) (it 0 2) (it 0 0) (it 0 0) (it 0 0)) ≡ five (it 1 2) (it 0 3) (it 0 1) (it 0 1) (it 0 1)
  pub again : turned (places one) (ceiling one) (five (it 1 2) (it 0 3) (it 0 1) (it 0 1) (it 0 1)) ≡ five (it 1 2) (it 1 0) (it 0 1) (it 0 1) (it 0 1)

-- the clock above and the kept values below have fractions, and nothing says which is larger
pub record ThreeMergings (a : Regions) : Type 0 where
  pub lists : (regions a).pop one at_zero (five (it 0 0) (it 0 0) (it 0 1) (it 0 1) (it 0 1)) (five (it 0 1) (it 0 0) (it 0 0) (it 0 0) (it 0 0))
      ≡ (five (it 0 2) (it 0 0) (it 0 1) (it 0 1) (it 0 1) ∷ five (it 0 1) (it 0 0) (it 0 2) (it 0 2) (it 0 2) ∷ five (it 0 1) (it 0 0) (it 0 1) (it 0 1) (it 0 1) ∷ [])

-- the worked figures
pub record Figures : Type 0 where
  pub reached : PoppedAtOne
  pub too_young : TooYoung
  pub at_most_two : AtMostTwo
  pub too_late : fire_outcome 2 0 (popped 10) ≡ refused 17 Case (Row 0)
  pub clock_before : ClockBefore
  pub four_rows : (a : Regions) → FourRows a
  pub rotations : Rotations
  pub three_mergings : (a : Regions) → ThreeMergings a
