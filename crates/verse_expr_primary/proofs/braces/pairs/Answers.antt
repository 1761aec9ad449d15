use Rattle.verse_expr_reader.proofs.Rows.{shorter_next}
use Rattle.verse_expr_primary.proofs.braces.pairs.Goals as goal
use Rattle.verse_expr_primary.proofs.BraceParts.{pairs_next, goes_pairs_next}

pub more-preserved : goal.more-preserved
more-preserved g c = record {
  row = pairs_next _ _ _ _ _ _ _ _ _ c.more.invariant.row c.in-Some.ensures.0 c.in-Some.ensures.1 c.in_ok-key-2.ensures.spelled
      c.in_ok-push-2.ensures.ok;
  goes = goes_pairs_next _ _ _ _ _ c.more.invariant.goes c.in-Some.ensures.0 c.in-Some.ensures.1 c.in_ok-key-2.ensures.eats;
  within = shorter_next _ _ _ _ _ c.in-Some.ensures.0 c.in_ok-key-2.ensures.shorter c.more.invariant.within;
}
