use Rattle.abstraction.specs.Owes.{Answers}
use Rattle.abstraction.specs.declared.Abstraction.{Ghosts}
use Rattle.automaton.specs.Models.{automaton}
use Rattle.judge.specs.Claims.{Claim, claim}
use Rattle.judge.specs.declared.judging.Judging.{Judging}

-- what a judging looks at, by the answers of its abstraction
abbrev pub claim_of : {A S : Type 0} {G : Ghosts A S} → (A → Answers S) → Judging A S G → Claim S
claim_of answers j = claim (answers j.abstraction.now) (automaton j.model.now) j.top j.table.now
