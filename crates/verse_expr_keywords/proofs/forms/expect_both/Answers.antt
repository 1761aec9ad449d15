use Rattle.std.proofs.lemmas.Result.{err_from_is_err_and}
use Rattle.verse_expr_reader.proofs.Faults.{same_fault}
use Rattle.verse_expr_keywords.proofs.forms.expect_both.Goals as goal
use Rattle.verse_expr_keywords.specs.Between.{before_second}

pub returns-in_err-other-clause-sticks : goal.returns-in_err-other-clause-sticks
returns-in_err-other-clause-sticks c = λ left bad.
    let p = err_from_is_err_and c.from_residual-in_err-other.result c.from_residual-in_err-other.ensures.1 in
    let told = rw (p.1, p.2) at bad in
    before_second c.in_ok-one.ensures.found c.in_ok-one.ensures.kind (c.in_err-other.ensures.left left (same_fault _ _ told))
    (c.in_err-other.ensures.other left (same_fault _ _ told))
