-- What stands in a statement or a clause.
use Rattle.verse_tree.specs.Tree.{Tree, tree, Shape}
use Rattle.verse_tree.specs.Tree as t
use Rattle.verse_tree.specs.View.{tree_of, two_of}
use Rattle.note_blocks.specs.declared.statements.Within.{Within}
use Rattle.note_blocks.specs.declared.statements.Within.TheVariants as within

pub data Inside : Type 0 where
  nothing_inside : Inside
  one_part deferred : Tree → Inside
  both_ends : Tree → Tree → Inside

abbrev pub inside_shape : Shape → Inside
inside_shape (t.Shape.definition x a) = one_part a
inside_shape (t.Shape.typed x w a) = one_part a
inside_shape (t.Shape.variable x w a) = one_part a
inside_shape (t.Shape.defer a) = deferred a
inside_shape (t.Shape.member a x) = one_part a
inside_shape (t.Shape.elements x a) = one_part a
inside_shape (t.Shape.entries x y a) = one_part a
inside_shape (t.Shape.range x a b) = both_ends a b
inside_shape s = nothing_inside

abbrev pub inside : Tree → Inside
inside (tree n pl s) = inside_shape s

abbrev pub within_view : Within → Inside
within_view within.Nothing = nothing_inside
within_view (within.Part e) = one_part (tree_of e.now)
within_view (within.Deferred e) = deferred (tree_of e.now)
within_view (within.Ends two) = both_ends (two_of two.now).0 (two_of two.now).1
