use Rattle.verse_lex_laws.proofs.Broken.{each_broken, each_unended, one_break}
use Rattle.verse_lex_laws.proofs.laws.broken_rules.Goals as goal

pub returns : goal.returns
returns c = record { broken = each_broken; unended = each_unended; one = one_break }
