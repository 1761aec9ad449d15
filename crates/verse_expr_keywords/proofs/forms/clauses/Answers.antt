use Rattle.verse_expr_reader.proofs.Rows.{shorter_next}
use Rattle.verse_expr_keywords.proofs.forms.clauses.Goals as goal
use Rattle.verse_expr_keywords.proofs.Clauses.{clauses_next, goes_clauses_next}

pub more-preserved : goal.more-preserved
more-preserved g c = record {
  row = clauses_next _ _ _ _ _ _ _ _ _ c.more.invariant.row c.in-Some.ensures.0 c.in-Some.ensures.1 c.in_ok-part.ensures.spelled
      c.in_ok-push-2.ensures.ok;
  goes = goes_clauses_next _ _ _ _ _ c.more.invariant.goes c.in-Some.ensures.0 c.in-Some.ensures.1 c.in_ok-part.ensures.eats;
  within = shorter_next _ _ _ _ _ c.in-Some.ensures.0 c.in_ok-part.ensures.shorter c.more.invariant.within;
}
