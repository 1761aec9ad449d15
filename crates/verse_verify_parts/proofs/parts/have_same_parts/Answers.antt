use Rattle.std.proofs.Common.{sym, ◌∙◌, arith}
use Rattle.verse_verify_parts.proofs.Lists.{lacks_marks}
use Rattle.verse_verify_parts.proofs.parts.have_same_parts.Goals as goal

pub returns-in_default : goal.returns-in_default
returns-in_default c = sym (lacks_marks c.args.marks.now c.marks.rest.now c.marks.mark-index (omega (arith, c.marks-test.true))
    c.in_default.ensures.cases) ∙ c.marks.invariant
