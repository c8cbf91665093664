-- The turns of the loop over the objects after the first.
use Rattle.std.proofs.Common.{◌≡◌, ℕ, zero, suc, ◌<◌, true, false, List, [], ◌∷◌, ◌++◌, map, Ok, Err, Result, sym, ap, ◌∙◌, subst, append_assoc, arith}
use Rattle.std.proofs.lemmas.List.{append-nil, map_push}
use Rattle.fault.specs.declared.Fault.{Fault}
use Rattle.fault.specs.declared.Place.{Place}
use Rattle.fault.specs.declared.Layer.{Layer}
use Rattle.fault.specs.Faults.{outcome}
use Rattle.fault.specs.Faults.Outcome.{refused}
use Rattle.token.specs.Tokens.{Ahead, Out, gives, denies, out}
use Rattle.token.specs.Grammar.{comma_due, end_due, size}
use Rattle.token.specs.Falls.{comma_falls}
use Rattle.case.specs.Views.{View}
use Rattle.text.specs.Calls.{Said, said_from, case_from}
use Rattle.text.specs.Records.{run_due}
use Rattle.text.specs.Documents.{read, at_end, later, later_objects, ended}
use Rattle.case.specs.declared.case.Standing.{Standing}
use Rattle.text.specs.declared.asks.Ask.{Ask}
use Rattle.text.proofs.Shrinks.{run_falls}

-- after some objects: what was said, and what is left to say, is what the whole says
pub record Saying (had : List Said) (v : View) (start : Ahead) (said : List Said) (w : View) (a : Ahead) : Type 0 where
  pub fuel : ℕ
  pub more : size a < fuel
  pub same : said ++ later fuel w a ≡ had ++ later_objects v start

-- one answer more
pub noted : (had : List (Result Standing Fault)) (x : Result Standing Fault) (all : List (Result Standing Fault)) → all ≡ had ++ x ∷ [] → map outcome all ≡ map outcome had ++ outcome x ∷ []
noted had x all e = ap (map outcome) e ∙ map_push outcome had x

-- the end of the text comes last
pub ended_by : (r : Result (Unit {0}) Fault) (a : Ahead) (o : Out (Unit {0})) (said : List Said) → out (λ _. tt) r a ≡ o → ended r said ≡ said ++ read o (λ _ _. [])
ended_by (Ok u) a o said e = rw (← e) (sym (append-nil said))
ended_by (Err f) a o said e = rw (← e)

module _ (had : List Said) (v : View) (start : Ahead) (said : List Said) (w : View) (a : Ahead) where
  no_comma : (k : ℕ) → size a < k → (n : ℕ) (l : Layer) (p : Place) (b : Ahead) → denies n l p b ≡ comma_due 93 a → refused n l p ∷ [] ≡ later k w a
  unfolding later
  no_comma zero h n l p b e = absurd (omega arith)
  no_comma (suc k) h n l p b e = rw (← e)

  no_run : (k : ℕ) → size a < k → (b : Ahead) → gives true b ≡ comma_due 93 a → (n : ℕ) (l : Layer) (p : Place) (d : Ahead) → denies n l p d ≡ run_due b → refused n l p ∷ [] ≡ later k w a
  unfolding later
  no_run zero h b q n l p d e = absurd (omega arith)
  no_run (suc k) h b q n l p d e = rw (← q, ← e)

  no_more : (k : ℕ) → size a < k → (b : Ahead) → gives false b ≡ comma_due 93 a → at_end b ≡ later k w a
  unfolding later
  no_more zero h b q = absurd (omega arith)
  no_more (suc k) h b q = rw (← q)

  one_more : (k : ℕ) → size a < k → (b : Ahead) → gives true b ≡ comma_due 93 a → (asks : List Ask) (d : Ahead) → gives asks d ≡ run_due b → said ++ later k w a ≡ had ++ later_objects v start → Saying had v start (said ++ said_from 0 asks w ∷ []) (case_from asks w) d
  unfolding later
  one_more zero h b q asks d e s = absurd (omega arith)
  one_more (suc k) h b q asks d e s = record {
    fuel = k;
    more = omega (arith, comma_falls 93 a b true q, run_falls b d asks e);
    same = append_assoc said (said_from 0 asks w ∷ []) (later k (case_from asks w) d) ∙ (rw (← q, ← e) at s);
  }

  -- what follows an object is refused
  pub cut : Saying had v start said w a → (n : ℕ) (l : Layer) (p : Place) (b : Ahead) → denies n l p b ≡ comma_due 93 a → said ++ refused n l p ∷ [] ≡ had ++ later_objects v start
  cut g n l p b e = ap (λ s. said ++ s) (no_comma g.fuel g.more n l p b e) ∙ g.same

  -- the next object is refused as it is read
  pub broken : Saying had v start said w a → (b : Ahead) → gives true b ≡ comma_due 93 a → (n : ℕ) (l : Layer) (p : Place) (d : Ahead) → denies n l p d ≡ run_due b → said ++ refused n l p ∷ [] ≡ had ++ later_objects v start
  broken g b q n l p d e = ap (λ s. said ++ s) (no_run g.fuel g.more b q n l p d e) ∙ g.same

  -- the array ends, and so must the text
  pub over : Saying had v start said w a → (b : Ahead) → gives false b ≡ comma_due 93 a → (r : Result (Unit {0}) Fault) (d : Ahead) → out (λ _. tt) r d ≡ end_due b → ended r said ≡ had ++ later_objects v start
  over g b q r d e = ended_by r d (end_due b) said e ∙ ap (λ s. said ++ s) (no_more g.fuel g.more b q) ∙ g.same

  -- the next object is read, and its calls are made
  pub goes : Saying had v start said w a → (b : Ahead) → gives true b ≡ comma_due 93 a → (asks : List Ask) (d : Ahead) → gives asks d ≡ run_due b → Saying had v start (said ++ said_from 0 asks w ∷ []) (case_from asks w) d
  goes g b q asks d e = one_more g.fuel g.more b q asks d e g.same

-- the same of the answers and of the rows as the code holds them
pub turn : (had : List Said) (v : View) (start : Ahead) (old : List (Result Standing Fault)) (w : View) (a : Ahead) → Saying had v start (map outcome old) w a → (b : Ahead) → gives true b ≡ comma_due 93 a → (asks : List Ask) (d : Ahead) → gives asks d ≡ run_due b → (rows : List Ask) → rows ≡ asks → (x : Result Standing Fault) → outcome x ≡ said_from 0 rows w → (u : View) → u ≡ case_from rows w → (all : List (Result Standing Fault)) → all ≡ old ++ x ∷ [] → Saying had v start (map outcome all) u d
turn had v start old w a g b q asks d e rows same x says u is all put =
    let words : map outcome all ≡ map outcome old ++ said_from 0 asks w ∷ [] = noted old x all put ∙ ap (λ t. map outcome old ++ t ∷ []) (says ∙ ap (λ r. said_from 0 r w) same) in
    let view-is : u ≡ case_from asks w = is ∙ ap (λ r. case_from r w) same in
    subst (λ s. Saying had v start s u d) (sym words) (subst (λ z. Saying had v start (map outcome old ++ said_from 0 asks w ∷ []) z d) (sym view-is) (goes had v start (map outcome old) w a g b q asks d e))
