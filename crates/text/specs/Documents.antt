-- What is answered to a text: tokens, objects and the calls that they ask for.
use Rattle.std.specs.Prelude.{ℕ, zero, suc, cond, List, [], ◌∷◌, ◌++◌, Ok, Err, Result}
use Rattle.fault.specs.declared.Fault.{Fault}
use Rattle.fault.specs.Faults.{Outcome, told}
use Rattle.fault.specs.Faults.Outcome.{accepted, refused}
use Rattle.token.specs.Tokens.{Ahead, Out, gives, denies, tokens, admitted}
use Rattle.token.specs.Grammar.{mark_due, comma_due, end_due, mark_next, past_mark, size}
use Rattle.case.specs.Views.{View}
use Rattle.case.specs.Calls.{new_case}
use Rattle.text.specs.Calls.{Said, said_from, case_from}
use Rattle.text.specs.Records.{model_due, run_due}

-- what is said after some is read, or else the fault that ends everything
abbrev pub read : {A : Type 0} → Out A → (A → Ahead → List Said) → List Said
read (gives v a) k = k v a
read (denies n l p a) k = refused n l p ∷ []

-- nothing is left but white space
abbrev pub at_end : Ahead → List Said
at_end a = read (end_due a) (λ _ _. [])

-- the objects after one, on a case that holds w. Each takes a token, so k objects are enough for k tokens
unfoldable pub later : ℕ → View → Ahead → List Said
later zero w a = []
later (suc k) w a = read (comma_due 93 a) (λ more b. cond more (read (run_due b) (λ asks d. said_from 0 asks w ∷ later k (case_from asks w) d)) (at_end b))

abbrev pub later_objects : View → Ahead → List Said
later_objects w a = later (suc (size a)) w a

-- a refused first object ends everything
abbrev pub first_said : Said → List Said → List Said
first_said (accepted s) more = accepted s ∷ more
first_said (refused n l p) more = refused n l p ∷ []

abbrev pub first_object : Ahead → List Said
first_object a = read (model_due a) (λ asks b. first_said (said_from 0 asks new_case) (later_objects (case_from asks new_case) b))

-- an array of objects, of which the first is a model; without an object nothing is said
abbrev pub document : Ahead → List Said
document a = read (mark_due 91 a) (λ _ b. cond (mark_next 93 b) (at_end (past_mark 93 b)) (first_object b))

abbrev pub if_admitted : Outcome (Unit {0}) → List Said → List Said
if_admitted (accepted u) s = s
if_admitted (refused n l p) s = refused n l p ∷ []

-- all that is said of a text
abbrev pub settled_text : List ℕ → List Said
settled_text text = if_admitted (admitted text) (document (tokens text))

-- what was said, and the fault that ended it
abbrev pub ended : Result (Unit {0}) Fault → List Said → List Said
ended (Ok u) s = s
ended (Err f) s = s ++ told f ∷ []
