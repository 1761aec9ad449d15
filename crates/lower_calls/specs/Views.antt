-- The parts of callees and operands.
use Rattle.std.specs.Prelude.{Option, Some, None}
use Rattle.verse_base.specs.declared.places.Place.{Place}
use denote.Ref.{Bor}
use Rattle.verse_tree.specs.Tree.{Tree, tree, Shape, Trees}
use Rattle.verse_tree.specs.Tree as t
use Rattle.verse_tree.specs.View.{tree_of, trees, applied_of, two_of}
use Rattle.verse_tree.specs.declared.exprs.Applied.{Applied}
use Rattle.verse_tree.specs.declared.exprs.Expr.{Expr}
use Rattle.verse_tree.specs.declared.exprs.Two.{Two}

abbrev pub tree_now : Bor Expr → Tree
tree_now a = tree_of a.now

abbrev pub two_now : Bor Two → Tree × Tree
two_now a = two_of a.now

abbrev pub applied_now : Bor Applied → Tree × Trees
applied_now a = ((applied_of a.now).0, trees (applied_of a.now).1)

abbrev pub place_of : Tree → Place
place_of (tree n pl s) = pl

-- the object of a member
abbrev pub object_in : Shape → Option Tree
object_in (t.Shape.member b x) = Some b
object_in s = None

abbrev pub object_of : Tree → Option Tree
object_of (tree n pl s) = object_in s

-- both parts of a chain
abbrev pub chained_in : Shape → Option (Tree × Tree)
chained_in (t.Shape.chained x b c) = Some (b, c)
chained_in s = None

abbrev pub chained_of : Tree → Option (Tree × Tree)
chained_of (tree n pl s) = chained_in s

-- the callee and the arguments of a call
abbrev pub called_in : Shape → Option (Tree × Trees)
called_in (t.Shape.call b ts) = Some (b, ts)
called_in s = None

abbrev pub called_of : Tree → Option (Tree × Trees)
called_of (tree n pl s) = called_in s
