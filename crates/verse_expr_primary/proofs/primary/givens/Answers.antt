use Rattle.std.proofs.lemmas.Result.{err_from_is_err_and}
use Rattle.verse_expr_reader.proofs.Rows.{shorter_next}
use Rattle.verse_expr_reader.proofs.Faults.{same_fault}
use Rattle.verse_expr_primary.proofs.primary.givens.Goals as goal
use Rattle.verse_expr_primary.proofs.Repeats.{goes_givens_by, givens_stuck_between_by}
use Rattle.verse_expr_primary.proofs.PrimaryParts.{givens_next}

pub more-preserved : goal.more-preserved
more-preserved g c = record {
  row = givens_next _ _ _ _ _ _ _ _ _ c.more.invariant.row c.in-Some.ensures.0 c.in-Some.ensures.1 c.in_ok-name-2.ensures.spelled
      c.in_ok-push-2.ensures.ok;
  goes = goes_givens_by _ _ _ _ _ c.more.invariant.goes c.in-Some.ensures.0 c.in-Some.ensures.1 c.in_ok-name-2.ensures.eats;
  within = shorter_next _ _ _ _ _ c.in-Some.ensures.0 c.in_ok-name-2.ensures.shorter c.more.invariant.within;
}

pub returns-in_err-name-2-clause-sticks : goal.returns-in_err-name-2-clause-sticks
returns-in_err-name-2-clause-sticks g c = λ left bad.
    let p = err_from_is_err_and c.from_residual-in_err-name-2.result c.from_residual-in_err-name-2.ensures.1 in
    let told = same_fault _ _ (rw (p.1, p.2) at bad) in
    givens_stuck_between_by _ _ _ _ _ _ c.requires.some c.in_ok-name.ensures.eats c.more.invariant.goes c.in-Some.ensures.0
    c.in-Some.ensures.1 (c.in_err-name-2.ensures.sticks left told)
