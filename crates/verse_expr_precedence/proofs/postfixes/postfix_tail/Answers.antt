use Rattle.std.proofs.lemmas.Result.{err_from_is_err_and}
use Rattle.verse_expr_precedence.proofs.Postfixed.{postfix_next, goes_postfix, stuck_postfix}
use Rattle.verse_expr_reader.proofs.Faults.{same_fault}
use Rattle.verse_expr_reader.proofs.Rows.{no_longer_next}
use Rattle.verse_expr_precedence.proofs.postfixes.postfix_tail.Goals as goal

pub postfixes-preserved : goal.postfixes-preserved
postfixes-preserved g c = record {
  postfixes = postfix_next _ _ _ _ _ _ _ _ _ _ _ c.postfixes.invariant.postfixes c.in-Some.ensures.0 c.in-Some.ensures.1
      c.in_ok-suffix.ensures.spelled c.in_ok-tree.ensures;
  goes = goes_postfix _ _ _ _ _ _ c.postfixes.invariant.goes c.in-Some.ensures.0 c.in-Some.ensures.1 c.in_ok-suffix.ensures.eats;
  within = no_longer_next _ _ _ _ _ c.in-Some.ensures.0 c.in_ok-suffix.ensures.shorter c.postfixes.invariant.within;
}

pub returns-in_err-suffix-clause-sticks : goal.returns-in_err-suffix-clause-sticks
returns-in_err-suffix-clause-sticks g c = λ left bad.
    let p = err_from_is_err_and c.from_residual.result c.from_residual.ensures.1 in
    let told = rw (p.1, p.2) at bad in
    stuck_postfix _ _ _ _ _ _ c.postfixes.invariant.goes c.in-Some.ensures.0 c.in-Some.ensures.1
    (c.in_err-suffix.ensures.sticks left (same_fault _ _ told))
