-- A rule that ends in itself, part of the way: what it does from the later place it does from the
-- earlier.
use Rattle.std.specs.Prelude.{ℕ, List}
use Rattle.verse_layout.specs.declared.toks.Tok.{Tok}
use Rattle.verse_grammar.specs.Symbols.{Rule}
use Rattle.verse_grammar.specs.Reading.{EatsRule, SticksRule}

pub record Goes (r : Rule) (ks ls : List Tok) : Type 0 where
  pub eats : (rest : List Tok) → EatsRule r ls rest → EatsRule r ks rest
  pub sticks : (left : ℕ) → SticksRule r ls left → SticksRule r ks left
