-- Parts of primary forms that stand in rows, and what a `Sleep` is.
use Rattle.std.specs.Prelude.{◌≡◌, ℕ, List, ◌∷◌}
use Rattle.verse_lex.specs.declared.tokens.Mark.TheVariants as m
use Rattle.verse_layout.specs.declared.toks.Tok.{Tok}
use Rattle.verse_tree.specs.Tree.{Bytes, Tree, Shape}
use Rattle.verse_tree.specs.Tree as t
use Rattle.verse_grammar.specs.Toks.{mark, name, name_at}
use Rattle.verse_grammar.specs.Exprs.{Reads}
use Rattle.verse_grammar.specs.declared.phrases.Phrase.TheVariants as p
use Rattle.verse_grammar.specs.declared.starts.Duration.{Duration}
use Rattle.verse_grammar.specs.declared.starts.Duration.TheVariants as duration

-- a field that an instance is given
pub data IsGiven (b : List ℕ) : List Tok → Bytes × Tree → List Tok → Type 0 where
  is_given : {n o : Tok} {ks rest : List Tok} {e : Tree} → n.kind ≡ name → o.kind ≡ mark m.Define →
      Reads b p.Expr ks e rest → IsGiven b (n ∷ o ∷ ks) (name_at b n, e) rest

-- a key of a map with its value
pub data IsPair (b : List ℕ) : List Tok → Tree × Tree → List Tok → Type 0 where
  is_pair : {o : Tok} {ks ls rest : List Tok} {e f : Tree} → Reads b p.Expr ks e (o ∷ ls) →
      o.kind ≡ mark m.FatArrow → Reads b p.Expr ls f rest → IsPair b ks (e, f) rest

-- the shape of a `Sleep`
abbrev pub slept : Duration → Shape
slept (duration.Milliseconds n) = t.Shape.sleep n
slept duration.Forever = t.Shape.sleep_forever
