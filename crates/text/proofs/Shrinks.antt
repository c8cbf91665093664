-- Each record that is read leaves fewer tokens ahead.
use Rattle.std.proofs.Common.{◌≡◌, ℕ, zero, suc, ◌≤◌, Bool, true, false, cond, List, [], ◌∷◌, ◌++◌, codes, ap, arith}
use Rattle.token.specs.Tokens.{Ahead, token, end, none, Out, gives}
use Rattle.token.specs.Grammar.{mark_due, number_due, comma_due, member_due, mark_next, past_one, past_mark, size, Falls}
use Rattle.token.specs.Falls.{Stays, rest, number_falls, mark_falls, comma_falls, member_falls, then_falls, then_stays, gives_stays, falls_stays}
use Rattle.text.specs.declared.asks.Ask.{Ask}
use Rattle.text.specs.declared.asks.Ask.TheVariants.{Open, Begin}
use Rattle.text.specs.Records.{field_due, next_field_due, opening_due, added_due, step_due, items, list_due, rows_due, object_due, model_due, scale_due, run_due}
use Rattle.text.specs.RowFalls.{cond_stays, added_falls, step_falls}
use Rattle.text.proofs.Bound.{either}

items_stays : {A : Type 0} (f : Ahead → Out A) → Falls f → (k : ℕ) (got : List A) → Stays (items f k got)
unfolding items
items_stays f less zero got a b x e = let z : ◌≡◌ {A = ℕ} 0 1 = cc in absurd (omega arith)
items_stays f less (suc k) got a b x e = then_stays f _ less (λ y. then_stays (comma_due 93) _ (comma_falls 93) (λ more. cond_stays more _ _ (items_stays f less k (got ++ y ∷ [])) (gives_stays (got ++ y ∷ [])))) a b x e

one_stays : (a : Ahead) → size (past_one a) ≤ size a
one_stays (token t a) = omega arith
one_stays (end p) = omega arith
one_stays (none p) = omega arith

pub past_stays : (c : ℕ) (a : Ahead) → size (past_mark c a) ≤ size a
past_stays c a = either (mark_next c a) (past_one a) a (size a) (one_stays a) (omega arith)

open_case : {A : Type 0} (t : Bool) (o q : Out A) (b : Ahead) (x : A) (m : ℕ) → (gives x b ≡ o → size b ≤ m) → (gives x b ≡ q → size b ≤ m) → gives x b ≡ cond t o q → size b ≤ m
open_case true o q b x m p r e = p e
open_case false o q b x m p r e = r e

opened_stays : (row : Ahead → Out Ask) → Falls row → (got : List Ask) → Stays (λ a. cond (mark_next 93 a) (gives got (past_mark 93 a)) (list_due row got a))
opened_stays row falls got a b x e =
    open_case (mark_next 93 a) (gives got (past_mark 93 a)) (list_due row got a) b x (size a)
    (λ p. let same : size b ≡ size (past_mark 93 a) = ap (λ o. size (rest o)) p in omega (arith, past_stays 93 a))
    (λ p. items_stays row falls (suc (size a)) got a b x p)
    e

rows_falls : (row : Ahead → Out Ask) → Falls row → (got : List Ask) → Falls (rows_due row got)
rows_falls row falls got = then_falls (mark_due 91) _ (mark_falls 91) (λ _. opened_stays row falls got)

object_stays : (head : Ask) (w : List ℕ) (row : Ahead → Out Ask) → Falls row → Stays (object_due head w row)
object_stays head w row falls = then_stays (mark_due 44) _ (mark_falls 44) (λ _. then_stays (member_due w) _ (member_falls w) (λ _. then_stays (rows_due row (head ∷ [])) _ (rows_falls row falls (head ∷ [])) (λ asks. then_stays (mark_due 125) _ (mark_falls 125) (λ _. gives_stays asks))))

field_falls : (w : List ℕ) → Falls (field_due w)
field_falls w = then_falls (member_due w) _ (member_falls w) (λ _. falls_stays number_due number_falls)

next_field_falls : (w : List ℕ) → Falls (next_field_due w)
next_field_falls w = then_falls (mark_due 44) _ (mark_falls 44) (λ _. falls_stays (field_due w) (field_falls w))

pub opening_falls : Falls opening_due
opening_falls =
    then_falls (mark_due 123) _ (mark_falls 123) (λ _. then_stays (field_due (codes "states")) _ (field_falls (codes "states")) (λ s. then_stays (next_field_due (codes "start")) _ (next_field_falls (codes "start")) (λ t.
    then_stays (next_field_due (codes "target")) _ (next_field_falls (codes "target")) (λ u. then_stays (next_field_due (codes "labels")) _ (next_field_falls (codes "labels")) (λ l. then_stays (next_field_due (codes "clocks")) _ (next_field_falls (codes "clocks")) (λ c.
    gives_stays (record { states = s; start = t; target = u; labels = l; clocks = c })))))))

pub scale_falls : Falls scale_due
scale_falls = then_falls (mark_due 123) _ (mark_falls 123) (λ _. falls_stays (field_due (codes "scale")) (field_falls (codes "scale")))

pub model_falls : Falls model_due
model_falls = then_falls opening_due _ opening_falls (λ o. object_stays (Open o) (codes "rules") added_due added_falls)

pub run_falls : Falls run_due
run_falls = then_falls scale_due _ scale_falls (λ n. object_stays (Begin n) (codes "run") step_due step_falls)
