use Rattle.verse_lex_laws.proofs.Longest.{none_longer}
use Rattle.verse_lex_laws.proofs.Spelled.{each_explained}
use Rattle.verse_lex_laws.proofs.Alone.{spelled_alone, one_piece}
use Rattle.verse_lex_laws.proofs.laws.spelled_pieces.Goals as goal

pub returns : goal.returns
returns c = record { longest = none_longer; spelled = each_explained; alone = spelled_alone; one = one_piece }
