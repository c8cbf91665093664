-- Each row that is read leaves fewer tokens ahead.
use Rattle.std.specs.Prelude.{ℕ, Bool, true, false, cond}
use Rattle.token.specs.Tokens.{Ahead, Out}
use Rattle.token.specs.Grammar.{then, mark_due, number_due, comma_due, Falls}
use Rattle.token.specs.Falls.{Stays, number_falls, mark_falls, comma_falls, then_falls, then_stays, gives_stays, falls_stays}
use Rattle.text.specs.declared.asks.Ask.TheVariants.{Add, Delay, Fire}
use Rattle.text.specs.Records.{next_number_due, rule_due, added_due, step_due}

next_number_falls : Falls next_number_due
next_number_falls = then_falls (mark_due 44) _ (mark_falls 44) (λ _. falls_stays number_due number_falls)

-- one number more
then_next : {B : Type 0} (k : ℕ → Ahead → Out B) → ((v : ℕ) → Stays (k v)) → Stays (λ a. then (next_number_due a) k)
then_next k stays = then_stays next_number_due k next_number_falls stays

rule_falls : Falls rule_due
rule_falls =
    then_falls (mark_due 91) _ (mark_falls 91) (λ _. then_stays number_due _ number_falls (λ n. then_next _ (λ o. then_next _ (λ p. then_next _ (λ q. then_next _ (λ r. then_next _ (λ s. then_next _ (λ t. then_next _ (λ u.
    then_stays (mark_due 93) _ (mark_falls 93) (λ _. gives_stays (record { from = n; to = o; kind = p; argument = q; lower = r; lower_flag = s; upper = t; upper_flag = u })))))))))))

pub cond_stays : {A : Type 0} (t : Bool) (f g : Ahead → Out A) → Stays f → Stays g → Stays (λ a. cond t (f a) (g a))
cond_stays true f g p q = p
cond_stays false f g p q = q

pub step_falls : Falls step_due
step_falls =
    then_falls (mark_due 91) _ (mark_falls 91) (λ _. then_stays number_due _ number_falls (λ n. then_stays (comma_due 93) _ (comma_falls 93) (λ more.
    cond_stays more _ _ (then_stays number_due _ number_falls (λ v. then_stays (mark_due 93) _ (mark_falls 93) (λ _. gives_stays (Fire n v)))) (gives_stays (Delay n)))))

pub added_falls : Falls added_due
added_falls = then_falls rule_due _ rule_falls (λ n. gives_stays (Add n))
