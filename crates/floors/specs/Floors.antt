use Rattle.std.specs.Prelude.{◌*◌, ◌≤◌, cond, List, [], ◌∷◌, nat_le}
use Rattle.abstraction.specs.Owes.{Answers, Meaning}
use Rattle.abstraction.specs.declared.interval.Interval.{Interval}
use Rattle.abstraction.specs.Bounds.{bound, at_most}
use Rattle.floors.specs.declared.Floor.{Floor}
use Rattle.floors.specs.declared.Floors.{Floors}

-- what a pop of u leaves: something at least so old may still keep to the upper bound, and the frame
-- below only gets older
abbrev pub popped_list : Interval → Floor → Floor → List Floor
popped_list i s u = cond (at_most 1 i.upper u.age) (s ∷ []) []

abbrev pub floors : Floors → Answers Floor
floors a =
    record {
      lawful = λ w s. nat_le s.age w.top;
      start = λ w. record { age = 0 };
      time = λ w s. s ∷ [];
      test = λ w k i s. s ∷ [];
      assign = λ w k i s. s ∷ [];
      push = λ w i s. (record { age = bound i.lower }) ∷ [];
      pop = λ w i s u. popped_list i s u;
      within = λ w s t. nat_le t.age s.age;
    }

-- a shape covers the frames whose top is at least so old
abbrev pub at_least_so_old : Floors → Meaning Floor
at_least_so_old a w D s f = s.age * D ≤ f.age
