use Rattle.verse_grammar_shapes.proofs.Spelled.{shaped_type, shaped}
use Rattle.verse_grammar_shapes.proofs.SpelledItems.{shaped_program}
use Rattle.verse_grammar_shapes.proofs.laws.spelled_is_shaped.Goals as goal

pub returns : goal.returns
returns c = record {
  phrases = λ b q ks rest t d. shaped d;
  types = λ b ks rest w d. shaped_type d;
  programs = λ b ks rest is d. shaped_program d;
}
