use Rattle.verse_parse_parts.proofs.functions.param_row.Goals as goal
use Rattle.verse_parse_parts.proofs.Rows.{param_read, param_goes, row_shorter}

pub params-preserved : goal.params-preserved
params-preserved c = record {
  spelled = param_read _ _ _ _ _ _ _ _ _ c.params.invariant.spelled c.in-Some.ensures.0 c.in-Some.ensures.1 c.in_ok-next.ensures.spelled
      c.in_ok-push-2.ensures.ok;
  goes = param_goes _ _ _ _ _ c.params.invariant.goes c.in-Some.ensures.0 c.in-Some.ensures.1 c.in_ok-next.ensures.eats;
  shorter = row_shorter _ _ _ _ _ c.params.invariant.shorter c.in-Some.ensures.0 c.in_ok-next.ensures.shorter;
}
