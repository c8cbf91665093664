use Rattle.automaton.specs.Runs.{Configuration}
use Rattle.case.specs.Views.{stacked}
use Rattle.case.specs.declared.position.Position.{Position}

-- the configuration at which a run stands
abbrev pub seen : Position → Configuration
seen p = record { state = p.state; clocks = p.clocks.now; stack = stacked p.stack.now }
