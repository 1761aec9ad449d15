use Rattle.std.proofs.Common.{sym, ◌∙◌, arith}
use Rattle.verse_verify_parts.proofs.Naming.{lacks}
use Rattle.verse_verify_parts.proofs.parts.are_same_numbers.Goals as goal

pub returns-in_default : goal.returns-in_default
returns-in_default c = sym (lacks c.args.numbers.now c.numbers.rest.now c.numbers.number-index (omega (arith, c.numbers-test.true))
    c.in_default.ensures.cases) ∙ c.numbers.invariant
