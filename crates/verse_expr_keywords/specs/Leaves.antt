-- What one tok is, but for names.
use Rattle.std.specs.Prelude.{ℕ, List}
use Rattle.verse_layout.specs.declared.toks.Tok.{Tok}
use Rattle.verse_tree.specs.Tree.{Shape}
use Rattle.verse_tree.specs.Tree as t
use Rattle.verse_grammar.specs.Toks.{text_at}
use Rattle.verse_grammar.specs.declared.starts.PrimaryStart.{PrimaryStart}
use Rattle.verse_grammar.specs.declared.starts.PrimaryStart.TheVariants as primary
use Rattle.verse_expr_keywords.specs.declared.leaves.Leaf.{Leaf}
use Rattle.verse_expr_keywords.specs.declared.leaves.Leaf.TheVariants as leaf

abbrev pub leaf_start : Leaf → PrimaryStart
leaf_start (leaf.Int n) = primary.Int n
leaf_start (leaf.Char n) = primary.Char n
leaf_start leaf.Text = primary.Text
leaf_start leaf.True = primary.True
leaf_start leaf.False = primary.False
leaf_start leaf.This = primary.This

-- its shape, where the bytes of a text are those of the tok in the file
abbrev pub leaf_shape : List ℕ → Tok → Leaf → Shape
leaf_shape b k (leaf.Int n) = t.Shape.integer n
leaf_shape b k (leaf.Char n) = t.Shape.character n
leaf_shape b k leaf.Text = t.Shape.text (text_at b k)
leaf_shape b k leaf.True = t.Shape.truth
leaf_shape b k leaf.False = t.Shape.falsehood
leaf_shape b k leaf.This = t.Shape.this
