use Rattle.verse_expr_reader.proofs.Rows.{row_next, goes_next, shorter_next}
use Rattle.verse_expr_reader.proofs.nesting.Reader.closed.Goals as goal

pub more-preserved : goal.more-preserved
more-preserved g c = record {
  row = row_next _ _ _ _ _ _ _ _ _ _ _ c.more.invariant.row c.in-Some.ensures.0 c.in-Some.ensures.1 c.in_ok-expr.ensures.spelled
      c.in_ok-push-2.ensures.ok;
  goes = goes_next _ _ _ _ _ _ _ c.more.invariant.goes c.in-Some.ensures.0 c.in-Some.ensures.1 c.in_ok-expr.ensures.eats;
  within = shorter_next _ _ _ _ _ c.in-Some.ensures.0 c.in_ok-expr.ensures.shorter c.more.invariant.within;
}
