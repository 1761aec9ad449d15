-- What the targets of `set` lead to.
use Rattle.std.specs.Prelude.{Bool, false}
use Rattle.verse_tree.specs.Tree.{Tree, tree, Shape}
use Rattle.verse_tree.specs.Tree as t
use Rattle.lower_lookup.specs.declared.targets.Target.{Target}
use Rattle.lower_lookup.specs.declared.targets.Target.TheVariants as target

abbrev mutual
  pub kind_of_shape : Shape → Target
  kind_of_shape (t.Shape.name x) = target.Name
  kind_of_shape (t.Shape.member b x) = target.Member
  kind_of_shape (t.Shape.index b ts) = kind_of b
  kind_of_shape s = target.Other

  pub kind_of : Tree → Target
  kind_of (tree n pl s) = kind_of_shape s

-- what a target is, by whether it is there as a name and as a member
abbrev pub by_kind : Target → (as_name as_member : Bool) → Bool
by_kind target.Name a b = a
by_kind target.Member a b = b
by_kind target.Other a b = false
