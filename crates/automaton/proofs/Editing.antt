use Rattle.std.proofs.Common.{◌≡◌, ◌<◌, List, [], ◌∷◌, ◌++◌, length, sym, ap, ◌∙◌}
use Rattle.std.proofs.lemmas.Bool.{lt-ltb}
use Rattle.fault.specs.Faults.{Outcome}
use Rattle.fault.specs.Faults.Outcome.{accepted}
use Rattle.automaton.specs.Runs.{Automaton}
use Rattle.automaton.specs.Rules.{unless, read_rule}
use Rattle.automaton.specs.Lawful.{Reads}
use Rattle.automaton.specs.Edits.{settle, sizes, with_rules, add_outcome, add_after}
use Rattle.automaton.specs.declared.rule.Rule.{Rule}
use Rattle.automaton.specs.declared.rule.RuleNumbers.{RuleNumbers}
use Rattle.automaton.proofs.Writing.{rule_read}

pub settle_accepted : {X Y : Type 0} (o : Outcome X) (x : X) (a b : Y) → accepted x ≡ o → settle o a b ≡ a
settle_accepted o x a b h = ap (λ p. settle p a b) (sym h)

-- a rule that is read where there is room comes last
pub added : (n : RuleNumbers) (m : Automaton) (r : Rule) (rs : List Rule) → length m.rules < 64 → accepted r ≡ read_rule (sizes m) n → Reads (sizes m) n (accepted r) → rs ≡ m.rules ++ r ∷ [] → with_rules rs m ≡ add_after n m
added n m r rs h e l p =
    let a : accepted r ≡ add_outcome n m = e ∙ sym (ap (λ b. unless b 3 (read_rule (sizes m) n)) (lt-ltb (length m.rules) 64 h)) in
    ap (λ xs. with_rules xs m) p ∙ ap (λ x. with_rules (m.rules ++ x ∷ []) m) (rule_read (sizes m) n r l) ∙ sym (settle_accepted (add_outcome n m) r _ m a)
