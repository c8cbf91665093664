use Rattle.abstraction.specs.Owes.{Answers, Meaning}
use Rattle.ranking.specs.declared.Region.{Region}
use Rattle.ranking.specs.Joined.{same_region}
use Rattle.region.specs.declared.Regions.{Regions}
use Rattle.region.specs.Asked.{lawful}
use Rattle.region.specs.Listed.{start, time, test, assign, push, pop}
use Rattle.region.specs.Laws.{covers}

-- what the regions answer
abbrev pub regions : Regions → Answers Region
regions a =
    record {
      lawful = lawful;
      start = start;
      time = time;
      test = test;
      assign = assign;
      push = push;
      pop = pop;
      within = λ w s t. same_region s t;
    }

-- and which frames they cover
abbrev pub covering : Regions → Meaning Region
covering a w D r f = covers w D r f
