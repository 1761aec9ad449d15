-- Holes of a text that another follows, and the expression of the next one.
use Rattle.std.specs.Prelude.{ℕ, List}
use Rattle.verse_layout.specs.declared.toks.Tok.{Tok}
use Rattle.verse_tree.specs.Tree.{Bytes, Tree}
use Rattle.verse_grammar.specs.Exprs.{Reads, HoleRow}
use Rattle.verse_grammar.specs.declared.phrases.Phrase.TheVariants as p

pub data HoleRead (b : List ℕ) : List Tok → List (Tree × Bytes) → Tree → List Tok → Type 0 where
  hole_read : {ks ls rest : List Tok} {hs : List (Tree × Bytes)} {e : Tree} → HoleRow b ks hs ls →
      Reads b p.Expr ls e rest → HoleRead b ks hs e rest
