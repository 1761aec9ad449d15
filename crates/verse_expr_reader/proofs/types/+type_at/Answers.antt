use Rattle.verse_expr_reader.proofs.TypeRows.{types_next, goes_types_next, shorter_next}
use Rattle.verse_expr_reader.proofs.types.+type_at.Goals as goal

pub types-more-preserved : goal.types-more-preserved
types-more-preserved t c = record {
  row = types_next _ _ _ _ _ _ _ _ _ c.more.invariant.row c.in-Some.ensures.0 c.in-Some.ensures.1 c.in_ok-part.ensures.spelled
      c.in_ok-push-2.ensures.ok;
  goes = goes_types_next _ _ _ _ _ c.more.invariant.goes c.in-Some.ensures.0 c.in-Some.ensures.1 c.in_ok-part.ensures.eats;
  within = shorter_next _ _ _ _ _ c.in-Some.ensures.0 c.in_ok-part.ensures.shorter c.more.invariant.within;
}
