use Rattle.std.proofs.Common.{sym}
use Rattle.verse_meaning_state.proofs.Numbers.{ltn_yes, ltn_no}
use Rattle.verse_verify_tables.proofs.numbers.is_below.Goals as goal

pub returns-then-number-other : goal.returns-then-number-other
returns-then-number-other c = sym (ltn_yes c.args.number c.args.other c.if-number-other.true)

pub returns : goal.returns
returns c = sym (ltn_no c.args.number c.args.other c.if-number-other.false)
