use Rattle.std.proofs.Common.{◌≡◌, ℕ, ◌≤◌, true, ◌&&◌, ltb}
use Rattle.std.proofs.lemmas.Bool.{and_parts, ltb-true}
use Rattle.abstraction.specs.Owes.{Meaning, Small, ListsLawfully}
use Rattle.abstraction.proofs.Found.{all_true}
use Rattle.automaton.specs.Edits.{sizes}
use Rattle.automaton.specs.Lawful.{names, lawful, all_lawful, Clocked}
use Rattle.automaton.specs.declared.rule.Sizes.{Sizes}
use Rattle.automaton.specs.declared.rule.Rule.{Rule}
use Rattle.automaton.specs.declared.rule.Action.{Action}
use Rattle.automaton.specs.declared.rule.Action.TheVariants.{Move, Test, Assign, Push, Pop}
use Rattle.judge.specs.Claims.{Claim, scope}
use Rattle.judge.specs.Judged.{judged}
use Rattle.judge.specs.Law.{Sound}
use Rattle.judge.proofs.Verdict.{lawful_verdict}
use Rattle.judge.proofs.Sound.{never_in_target}

-- an accepted table keeps every run from the target

clocked : (n : Sizes) (a : Action) → names n a ≡ true → Clocked n.clocks a
clocked n Move h = tt
clocked n (Test k) h = ltb-true k n.clocks h
clocked n (Assign k) h = ltb-true k n.clocks h
clocked n (Push l) h = tt
clocked n (Pop l) h = tt

rule_clocked : (n : Sizes) (r : Rule) → lawful n r ≡ true → Clocked n.clocks r.action
rule_clocked n r h =
    clocked n r.action (and_parts (names n r.action) _ (and_parts (ltb r.from n.states && ltb r.to n.states) _ h).1).0

pub settled : {S : Type 0} (z : Claim S) (m : Meaning S) (n : ℕ) → z.automaton.clocks ≤ 3 → all_lawful (sizes z.automaton) z.automaton.rules ≡ true → ListsLawfully z.answers → Sound z m (judged z n)
settled z m n few rules lists h cov (D, one, c, r, q) =
    let (l, cl) = (lawful_verdict z n).accepts h in
    let small : Small (scope z) = (few, l.fit.small) in
    never_in_target z D (m (scope z) D) (cov (scope z) D small one) (lists (scope z) small) l.entries (λ u i. (rule_clocked (sizes z.automaton) u (all_true (lawful (sizes z.automaton)) z.automaton.rules i.0 u i.1 rules), l.fit.bounded u i)) cl l.begins l.avoids c r q
