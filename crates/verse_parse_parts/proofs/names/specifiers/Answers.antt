use Rattle.verse_parse_parts.proofs.names.specifiers.Goals as goal
use Rattle.verse_parse_parts.proofs.Steps.{spec_read, spec_goes, spec_shorter}

pub specs-preserved : goal.specs-preserved
specs-preserved c = record {
  spelled = spec_read _ _ _ _ _ _ _ _ _ _ _ _ _ c.specs.invariant.spelled c.in-Some.ensures.0 c.in-Some.ensures.1 c.in_ok-name.ensures.found
      c.in_ok-name.ensures.kind c.in_ok-_above.ensures.found c.in_ok-_above.ensures.kind c.spec.ensures c.in_ok-name_at.ensures
      c.in_ok-push.ensures.ok;
  goes = spec_goes _ _ _ _ _ _ _ _ c.specs.invariant.goes c.in-Some.ensures.0 c.in-Some.ensures.1 c.in_ok-name.ensures.found
      c.in_ok-name.ensures.kind c.in_ok-_above.ensures.found c.in_ok-_above.ensures.kind;
  shorter = spec_shorter _ _ _ _ _ _ _ _ c.specs.invariant.shorter c.in-Some.ensures.0 c.in_ok-name.ensures.found
      c.in_ok-_above.ensures.found;
}
