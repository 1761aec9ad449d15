use Rattle.std.proofs.Common.{sym}
use Rattle.std.proofs.lemmas.Result.{err_from_is_err_and}
use Rattle.verse_expr_reader.proofs.Faults.{same_fault}
use Rattle.verse_expr_primary.proofs.brackets.sleep.Goals as goal
use Rattle.verse_expr_primary.proofs.BracketStops.{sleep_eaten, sleep_stuck}

pub returns-in_err-rest-in-Some-duration_at-clause-sticks : goal.returns-in_err-rest-in-Some-duration_at-clause-sticks
returns-in_err-rest-in-Some-duration_at-clause-sticks g c = λ left bad.
    let p = err_from_is_err_and c.from_residual-in_err-rest-in-Some-duration_at.result
    c.from_residual-in_err-rest-in-Some-duration_at.ensures.1 in
    let told = same_fault _ _ (rw (p.1, p.2) at bad) in
    sleep_stuck _ _ _ _ _ _ _ _ c.requires.start c.in_ok-behind.ensures.found c.in_ok-behind.ensures.kind c.in-Some.ensures
    (sym c.in-Some-duration_at.ensures) (c.in_err-rest-in-Some-duration_at.ensures.left left told)
    (c.in_err-rest-in-Some-duration_at.ensures.other left told)

pub returns-in_ok-slept-in-Some-duration_at-clause-eats : goal.returns-in_ok-slept-in-Some-duration_at-clause-eats
returns-in_ok-slept-in-Some-duration_at-clause-eats g c =
    sleep_eaten _ _ _ _ _ _ _ _ _ c.requires.start c.in_ok-behind.ensures.found c.in_ok-behind.ensures.kind c.in-Some.ensures
    (sym c.in-Some-duration_at.ensures) c.in_ok-rest-in-Some-duration_at.ensures.found c.in_ok-rest-in-Some-duration_at.ensures.kind
