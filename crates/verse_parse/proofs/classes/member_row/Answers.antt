use Rattle.verse_parse.proofs.classes.member_row.Goals as goal
use Rattle.verse_parse_parts.proofs.Rows.{row_shorter}
use Rattle.verse_parse.proofs.Members.{member_read, member_goes}

pub members-preserved : goal.members-preserved
members-preserved c = record {
  spelled = member_read _ _ _ _ _ _ _ _ _ c.members.invariant.spelled c.in-Some.ensures.0 c.in-Some.ensures.1 c.in_ok-next.ensures.spelled
      c.in_ok-push-2.ensures.ok;
  goes = member_goes _ _ _ _ _ c.members.invariant.goes c.in-Some.ensures.0 c.in-Some.ensures.1 c.in_ok-next.ensures.eats;
  shorter = row_shorter _ _ _ _ _ c.members.invariant.shorter c.in-Some.ensures.0 c.in_ok-next.ensures.shorter;
}
