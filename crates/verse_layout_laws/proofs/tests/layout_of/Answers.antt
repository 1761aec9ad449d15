use Rattle.std.proofs.Common.{subst, sym}
use Rattle.std.specs.List.{All}
use Rattle.verse_layout.specs.Cells.{Lies}
use Rattle.verse_layout_laws.proofs.tests.layout_of.Goals as goal

pub layout-requires-clause-lines : goal.layout-requires-clause-lines
layout-requires-clause-lines c =
    subst (All (Lies c.args.bytes.now)) (sym c.as_slice.ensures.value)
    (c.lexed_tokens_lie.ensures 0 c.args.bytes.now c.in_ok-tokens.tokens.items c.in_ok-tokens.ensures.tokens c.in_ok-tokens.ensures.spans)
