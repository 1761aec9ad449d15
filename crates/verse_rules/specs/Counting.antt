-- The fields of the classes of instance expressions, counted from node to node.
use Rattle.std.specs.Prelude.{ℕ, ◌+◌, min}
use Rattle.verse_tree.specs.Tree.{Shape}
use Rattle.verse_tree.specs.Tree as t
use Rattle.verse_tree.specs.PostOrder.{What, program, item, member, parameter, type_name}
use Rattle.verse_tree.specs.PostOrder.{expression}
use Rattle.verse_tree.specs.Sizes.{fields_at}
use Rattle.verse_tree.specs.declared.tables.Names.{Names}
use Rattle.verse_rules_walk.specs.Nodes.{Node}

-- an instance expression adds the fields of its class
abbrev pub shape_adds : Names → ℕ → Shape → ℕ
shape_adds k n (t.Shape.instance x gs) = fields_at k n
shape_adds k n x = 0

abbrev pub what_adds : Names → ℕ → What → ℕ
what_adds k n (expression x) = shape_adds k n x
what_adds k n (item i) = 0
what_adds k n (member m) = 0
what_adds k n (parameter p) = 0
what_adds k n (type_name x) = 0
what_adds k n (program is) = 0

-- the count with one more node, or the largest number
unfoldable pub counted : Names → Node → ℕ → ℕ
counted k v x = min (x + what_adds k v.number v.what) 18446744073709551615
