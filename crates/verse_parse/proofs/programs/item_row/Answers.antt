use Rattle.verse_parse.proofs.programs.item_row.Goals as goal
use Rattle.verse_parse.proofs.Rows.{item_read, item_goes}
use Rattle.verse_parse_parts.proofs.Rows.{row_shorter}

pub items-preserved : goal.items-preserved
items-preserved c = record {
  spelled = item_read _ _ _ _ _ _ _ _ _ c.items.invariant.spelled c.in-Some.ensures.0 c.in-Some.ensures.1 c.in_ok-next.ensures.spelled
      c.in_ok-push-2.ensures.ok;
  goes = item_goes _ _ _ _ _ c.items.invariant.goes c.in-Some.ensures.0 c.in-Some.ensures.1 c.in_ok-next.ensures.eats;
  shorter = row_shorter _ _ _ _ _ c.items.invariant.shorter c.in-Some.ensures.0 c.in_ok-next.ensures.shorter;
}
