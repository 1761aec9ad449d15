-- The rule that reads a whole.
use Rattle.verse_grammar.specs.Begins.{Whole, a_type, a_phrase, a_program}
use Rattle.verse_grammar.specs.Symbols.{Rule}
use Rattle.verse_grammar.specs.Symbols as s

abbrev pub rule_of : Whole → Rule
rule_of a_type = s.a_type
rule_of (a_phrase q) = s.phrase q
rule_of a_program = s.program
