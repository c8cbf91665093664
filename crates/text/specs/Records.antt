-- The objects of a text, read as the calls that they ask for.
use Rattle.std.specs.Prelude.{ℕ, zero, suc, cond, List, [], ◌∷◌, ◌++◌, codes}
use Rattle.automaton.specs.declared.model.Opening.{Opening}
use Rattle.automaton.specs.declared.rule.RuleNumbers.{RuleNumbers}
use Rattle.token.specs.Tokens.{Ahead, Out, gives, other_due}
use Rattle.token.specs.Grammar.{then, mark_due, number_due, comma_due, member_due, mark_next, past_mark, size}
use Rattle.text.specs.declared.asks.Ask.{Ask}
use Rattle.text.specs.declared.asks.Ask.TheVariants.{Open, Add, Begin, Delay, Fire}

-- `"w": number`
abbrev pub field_due : List ℕ → Ahead → Out ℕ
field_due w a = then (member_due w a) (λ _ b. number_due b)

abbrev pub next_field_due : List ℕ → Ahead → Out ℕ
next_field_due w a = then (mark_due 44 a) (λ _ b. field_due w b)

abbrev pub next_number_due : Ahead → Out ℕ
next_number_due a = then (mark_due 44 a) (λ _ b. number_due b)

-- a brace and the members of a model before its rules
abbrev pub opening_due : Ahead → Out Opening
opening_due a =
    then (mark_due 123 a) (λ _ a. then (field_due (codes "states") a) (λ s a. then (next_field_due (codes "start") a) (λ t a. then (next_field_due (codes "target") a) (λ u a.
    then (next_field_due (codes "labels") a) (λ l a. then (next_field_due (codes "clocks") a) (λ c a.
    gives (record { states = s; start = t; target = u; labels = l; clocks = c }) a))))))

-- a row of exactly eight numbers
abbrev pub rule_due : Ahead → Out RuleNumbers
rule_due a =
    then (mark_due 91 a) (λ _ a. then (number_due a) (λ n a. then (next_number_due a) (λ o a. then (next_number_due a) (λ p a. then (next_number_due a) (λ q a.
    then (next_number_due a) (λ r a. then (next_number_due a) (λ s a. then (next_number_due a) (λ t a. then (next_number_due a) (λ u a. then (mark_due 93 a) (λ _ a.
    gives (record { from = n; to = o; kind = p; argument = q; lower = r; lower_flag = s; upper = t; upper_flag = u }) a))))))))))

-- the same, as what it asks for
abbrev pub added_due : Ahead → Out Ask
added_due a = then (rule_due a) (λ n b. gives (Add n) b)

-- a row of a delay, or of a rule and a value
abbrev pub step_due : Ahead → Out Ask
step_due a = then (mark_due 91 a) (λ _ a. then (number_due a) (λ n a. then (comma_due 93 a) (λ more a. cond more (then (number_due a) (λ v a. then (mark_due 93 a) (λ _ a. gives (Fire n v) a))) (gives (Delay n) a))))

-- items, each followed by a comma or by the bracket that ends the list, after those that are got. Each takes
-- a token, so k items are enough for k tokens
unfoldable pub items : {A : Type 0} → (Ahead → Out A) → ℕ → List A → Ahead → Out (List A)
items f zero got a = other_due 0 a
items f (suc k) got a = then (f a) (λ x b. then (comma_due 93 b) (λ more d. cond more (items f k (got ++ x ∷ []) d) (gives (got ++ x ∷ []) d)))

abbrev pub list_due : {A : Type 0} → (Ahead → Out A) → List A → Ahead → Out (List A)
list_due f got a = items f (suc (size a)) got a

-- a list of rows in brackets, which may be empty
abbrev pub rows_due : (Ahead → Out Ask) → List Ask → Ahead → Out (List Ask)
rows_due row got a = then (mark_due 91 a) (λ _ b. cond (mark_next 93 b) (gives got (past_mark 93 b)) (list_due row got b))

-- the rest of an object after its head: the member w with its rows, and a brace
abbrev pub object_due : Ask → List ℕ → (Ahead → Out Ask) → Ahead → Out (List Ask)
object_due head w row a = then (mark_due 44 a) (λ _ a. then (member_due w a) (λ _ a. then (rows_due row (head ∷ []) a) (λ asks a. then (mark_due 125 a) (λ _ a. gives asks a))))

-- the first object: a model and its rules
abbrev pub model_due : Ahead → Out (List Ask)
model_due a = then (opening_due a) (λ o b. object_due (Open o) (codes "rules") added_due b)

-- a brace and the scale
abbrev pub scale_due : Ahead → Out ℕ
scale_due a = then (mark_due 123 a) (λ _ b. field_due (codes "scale") b)

-- a later object: a run and its steps
abbrev pub run_due : Ahead → Out (List Ask)
run_due a = then (scale_due a) (λ n b. object_due (Begin n) (codes "run") step_due b)
