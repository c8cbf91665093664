use Rattle.std.specs.Prelude.{vec_items}
use Rattle.automaton.specs.Runs.{Automaton}
use Rattle.automaton.specs.declared.model.Model.{Model}

-- the automaton that a model holds
abbrev pub automaton : Model → Automaton
automaton m =
    record {
      states = m.sizes.states;
      labels = m.sizes.labels;
      clocks = m.sizes.clocks;
      start = m.start;
      target = m.target;
      rules = vec_items m.rules.items;
    }
