-- What a sum is compared with, if anything.
use Rattle.std.specs.Prelude.{◌≡◌, ℕ, List, ◌∷◌, Some}
use Rattle.verse_layout.specs.declared.toks.Tok.{Tok}
use Rattle.verse_tree.specs.Tree.{Tree}
use Rattle.verse_tree.specs.Tree as t
use Rattle.verse_tree.specs.declared.exprs.Comparison.{Comparison}
use Rattle.verse_grammar.specs.Starts.{comparison_at}
use Rattle.verse_grammar.specs.Exprs.{Reads, at}
use Rattle.verse_grammar.specs.declared.phrases.Phrase.TheVariants as p

pub data Compares (b : List ℕ) (left : Tree) : List Tok → Tree → List Tok → Type 0 where
  alone : {rest : List Tok} → Compares b left rest left rest
  with_another : {k : Tok} {ls rest : List Tok} {o : Comparison} {f : Tree} →
      comparison_at k.kind ≡ Some o → Reads b p.Sum ls f rest →
      Compares b left (k ∷ ls) (at k (t.Shape.compared o left f)) rest
