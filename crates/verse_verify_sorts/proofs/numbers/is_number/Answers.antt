use Rattle.std.proofs.Common.{sym}
use Rattle.verse_meaning_state.proofs.Numbers.{eqn_yes, eqn_not}
use Rattle.verse_verify_sorts.proofs.numbers.is_number.Goals as goal

pub returns-then-number-other : goal.returns-then-number-other
returns-then-number-other c = sym (eqn_yes c.args.number c.args.other c.if-number-other.true)

pub returns : goal.returns
returns c = sym (eqn_not c.args.number c.args.other c.if-number-other.false)
