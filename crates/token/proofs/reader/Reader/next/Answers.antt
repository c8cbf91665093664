use Rattle.std.proofs.Common.{◌≡◌, Err, arith, rules}
use Rattle.std.proofs.lemmas.Bool.Decides.{nat_tests}
use Rattle.token.proofs.Going.{ended, mark_next, no_name, name_next, no_number, number_next}
use Rattle.token.proofs.reader.Reader.next.Goals as goal

pub returns-in_default-clause-reads : goal.returns-in_default-clause-reads
returns-in_default-clause-reads c = rw (c.at_byte.ensures.what, c.at_byte.ensures.site) (ended _ _ _ c.start-start.ensures.value (search rules))

pub returns-in-123-clause-reads : goal.returns-in-123-clause-reads
returns-in-123-clause-reads c = mark_next _ _ _ c.start-start.ensures.value c.in-Some.first.now (search rules) (grind (arith, nat_tests))

pub returns-in_err-n-in-34-clause-reads : goal.returns-in_err-n-in-34-clause-reads
returns-in_err-n-in-34-clause-reads c =
    let e : c.from_residual.result ≡ Err c.at_byte-in-34.result = search rules in
    rw (e, c.at_byte-in-34.ensures.what, c.at_byte-in-34.ensures.site) (no_name _ _ _ c.start-start.ensures.value (search rules) (search rules))

pub returns-in_ok-n-in-34-clause-reads : goal.returns-in_ok-n-in-34-clause-reads
returns-in_ok-n-in-34-clause-reads c = name_next _ _ _ c.start-start.ensures.value (search rules) c.in_ok-n-in-34.n (search rules)

pub returns-in_err-n-in_default-2-clause-reads : goal.returns-in_err-n-in_default-2-clause-reads
returns-in_err-n-in_default-2-clause-reads c =
    let e : c.from_residual-in_err-n-in_default-2.result ≡ Err c.at_byte-in_default-2.result = search rules in
    rw (e, c.at_byte-in_default-2.ensures.what, c.at_byte-in_default-2.ensures.site) (no_number _ _ _ c.start-start.ensures.value c.in-Some.first.now (search rules) (grind (arith, nat_tests)) (grind (arith, nat_tests)) (search rules))

pub returns-in_ok-n-in_default-2-clause-reads : goal.returns-in_ok-n-in_default-2-clause-reads
returns-in_ok-n-in_default-2-clause-reads c = number_next _ _ _ c.start-start.ensures.value c.in-Some.first.now (search rules) (grind (arith, nat_tests)) (grind (arith, nat_tests)) c.in_ok-n-in_default-2.n (search rules)
