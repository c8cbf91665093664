use Rattle.std.specs.Prelude.{true, [], ◌∷◌}
use Rattle.abstraction.specs.Owes.{Answers, Meaning}
use Rattle.abstraction.specs.declared.Anything.{Anything}
use Rattle.abstraction.specs.declared.Untimed.{Untimed}

-- every list holds the one shape
abbrev pub untimed : Untimed → Answers Anything
untimed u =
    record {
      lawful = λ w s. true;
      start = λ w. record {};
      time = λ w s. s ∷ [];
      test = λ w k i s. s ∷ [];
      assign = λ w k i s. s ∷ [];
      push = λ w i s. s ∷ [];
      pop = λ w i s t. s ∷ [];
      within = λ w s t. true;
    }

-- and it covers every frame
abbrev pub everything : Untimed → Meaning Anything
everything u w D s f = Unit {0}
