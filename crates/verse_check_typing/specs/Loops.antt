-- What a `for` takes.
use Rattle.std.specs.Prelude.{ℕ, Bool, true, false, ◌&&◌}
use Rattle.verse_tree.specs.Tree.{Tree, tree, Shape, Trees, no_trees, more_trees}
use Rattle.verse_tree.specs.Tree as s
use Rattle.verse_rules_types.specs.Types.{Ty, never, int, array, mapping}
use Rattle.verse_check_typing.specs.Facts.{Facts, type_of}
use Rattle.verse_check_typing.specs.Parts.{are_ints}

-- where never is the domain, nothing is taken
abbrev pub is_domain : Ty → Bool
is_domain (array t) = true
is_domain (mapping k t) = true
is_domain never = true
is_domain t = false

-- the type of what stands before the values of a domain: the index or the key
abbrev pub index_of : Ty → Ty
index_of (array t) = int
index_of (mapping k t) = k
index_of t = never

abbrev pub shape_takes : Facts → Shape → Bool
shape_takes f (s.Shape.elements x a) = is_domain (type_of f a)
shape_takes f (s.Shape.entries x y a) = is_domain (type_of f a)
shape_takes f (s.Shape.range x a b) = are_ints (type_of f a) (type_of f b)
shape_takes f s = true

abbrev pub takes : Facts → Tree → Bool
takes f (tree n p s) = shape_takes f s

-- each generator has a domain, or ints as the ends of its range
abbrev pub all_take : Facts → Trees → Bool
all_take f no_trees = true
all_take f (more_trees e es) = takes f e && all_take f es
