use Rattle.std.proofs.lemmas.Result.{err_from_is_err_and}
use Rattle.verse_expr_reader.proofs.Rows.{shorter_next}
use Rattle.verse_expr_reader.proofs.Faults.{same_fault}
use Rattle.verse_expr_primary.proofs.primary.holes.Goals as goal
use Rattle.verse_expr_primary.proofs.Repeats.{goes_holes_by, holes_eaten_by, holes_stuck_between_by}
use Rattle.verse_expr_primary.proofs.PrimaryParts.{holes_next}

pub more-preserved : goal.more-preserved
more-preserved g c = record {
  row = holes_next _ _ _ _ _ _ _ _ _ _ _ c.more.invariant.row c.in-Some.ensures.0 c.in-Some.ensures.1 c.in_ok-text_at.ensures
      c.in_ok-push.ensures.ok c.in_ok-expr.ensures.spelled;
  goes = goes_holes_by _ _ _ _ _ c.more.invariant.goes c.in-Some.ensures.0 c.in-Some.ensures.1 c.in_ok-expr.ensures.eats;
  within = shorter_next _ _ _ _ _ c.in-Some.ensures.0 c.in_ok-expr.ensures.shorter c.more.invariant.within;
}

pub returns-in_err-expr-clause-sticks : goal.returns-in_err-expr-clause-sticks
returns-in_err-expr-clause-sticks g c = λ left bad.
    let p = err_from_is_err_and c.from_residual-in_err-expr.result c.from_residual-in_err-expr.ensures.1 in
    let told = same_fault _ _ (rw (p.1, p.2) at bad) in
    holes_stuck_between_by _ _ _ _ _ _ _ c.requires.start c.in_ok-first.ensures.eats c.more.invariant.goes c.in-Some.ensures.0
    c.in-Some.ensures.1 (c.in_err-expr.ensures.sticks left told)

pub returns-in-Some-take-clause-eats : goal.returns-in-Some-take-clause-eats
returns-in-Some-take-clause-eats g c =
    holes_eaten_by _ _ _ _ _ _ c.requires.start c.in_ok-first.ensures.eats c.more.invariant.goes c.in_default.ensures
    c.in-Some-take.ensures.0 c.in-Some-take.ensures.1
