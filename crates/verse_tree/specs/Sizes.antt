-- The size of a program: 16 for each node, and 4 for each field of the class of each instance
-- expression.
use Rattle.std.specs.Prelude.{ℕ, ◌+◌, ◌*◌, List, length, map, slice_get, Option, Some, None}
use Rattle.verse_tree.specs.Tree.{Tree, tree, Shape, Trees, no_trees, more_trees, Holes, no_holes}
use Rattle.verse_tree.specs.Tree.{more_holes, Pairs, no_pairs, more_pairs}
use Rattle.verse_tree.specs.Tree.{Givens, no_givens, more_givens}
use Rattle.verse_tree.specs.Tree as t
use Rattle.verse_tree.specs.ItemTree.{FieldTree, FunTree, MemberTree, ClassTree, ItemTree}
use Rattle.verse_tree.specs.ItemTree as i
use Rattle.verse_tree.specs.ItemView.{item_of}
use Rattle.verse_tree.specs.Numbering.{list_nodes, program_nodes}
use Rattle.verse_tree.specs.declared.tables.ClassInfo.{ClassInfo}
use Rattle.verse_tree.specs.declared.tables.Names.{Names}
use Rattle.verse_tree.specs.declared.tables.Ref.{Ref}
use Rattle.verse_tree.specs.declared.tables.Ref.TheVariants as r
use Rattle.verse_tree.specs.declared.programs.Program.{Program}

-- the fields of a class; none where there is no such class
abbrev pub class_fields : Option ClassInfo → ℕ
class_fields None = 0
class_fields (Some class) = length class.fields

-- what a name stands for has fields where it is a class
abbrev pub ref_fields : Names → Ref → ℕ
ref_fields names (r.Local n) = 0
ref_fields names (r.Key n) = 0
ref_fields names (r.Field c n) = 0
ref_fields names (r.Method c n) = 0
ref_fields names (r.Fun n) = 0
ref_fields names (r.Class c) = class_fields (slice_get names.classes c)
ref_fields names (r.Enum n) = 0
ref_fields names (r.Builtin n) = 0

abbrev pub known_fields : Names → Option Ref → ℕ
known_fields names None = 0
known_fields names (Some what) = ref_fields names what

abbrev pub found_fields : Names → Option (Option Ref) → ℕ
found_fields names None = 0
found_fields names (Some known) = known_fields names known

-- the fields of an instance expression with this number
abbrev pub fields_at : Names → ℕ → ℕ
fields_at names number = found_fields names (slice_get names.refs number)

-- the fields of all instance expressions of a tree, where `fields` are those of one by its number
module _ (fields : ℕ → ℕ) where
  abbrev mutual
    pub tree_fields : Tree → ℕ
    tree_fields (tree number place s) = shape_fields number s

    -- what kind of node it is, and its number
    pub shape_fields : ℕ → Shape → ℕ
    shape_fields number (t.Shape.block ts) = trees_fields ts
    shape_fields number (t.Shape.defer a) = tree_fields a
    shape_fields number (t.Shape.definition x a) = tree_fields a
    shape_fields number (t.Shape.typed x w a) = tree_fields a
    shape_fields number (t.Shape.variable x w a) = tree_fields a
    shape_fields number (t.Shape.assignment x a b) = tree_fields a + tree_fields b
    shape_fields number (t.Shape.returned a) = tree_fields a
    shape_fields number t.Shape.returned_unit = 0
    shape_fields number t.Shape.break_form = 0
    shape_fields number (t.Shape.if_else ts a b) = trees_fields ts + (tree_fields a + tree_fields b)
    shape_fields number (t.Shape.if_alone ts a) = trees_fields ts + tree_fields a
    shape_fields number (t.Shape.chained x a b) = tree_fields a + tree_fields b
    shape_fields number (t.Shape.compared x a b) = tree_fields a + tree_fields b
    shape_fields number (t.Shape.negation a) = tree_fields a
    shape_fields number (t.Shape.minus a) = tree_fields a
    shape_fields number (t.Shape.call a ts) = tree_fields a + trees_fields ts
    shape_fields number (t.Shape.index a ts) = tree_fields a + trees_fields ts
    shape_fields number (t.Shape.member a x) = tree_fields a
    shape_fields number (t.Shape.query a) = tree_fields a
    shape_fields number (t.Shape.integer x) = 0
    shape_fields number (t.Shape.character x) = 0
    shape_fields number (t.Shape.text x) = 0
    shape_fields number (t.Shape.holes x hs) = holes_fields hs
    shape_fields number t.Shape.truth = 0
    shape_fields number t.Shape.falsehood = 0
    shape_fields number t.Shape.this = 0
    shape_fields number (t.Shape.name x) = 0
    shape_fields number (t.Shape.tuple ts) = trees_fields ts
    shape_fields number (t.Shape.array ts) = trees_fields ts
    shape_fields number (t.Shape.option ts) = trees_fields ts
    shape_fields number (t.Shape.logic ts) = trees_fields ts
    shape_fields number (t.Shape.mapping ps) = pairs_fields ps
    shape_fields number (t.Shape.instance x gs) = fields number + givens_fields gs
    shape_fields number (t.Shape.event w) = 0
    shape_fields number t.Shape.bare_event = 0
    shape_fields number (t.Shape.for_form ts a) = trees_fields ts + tree_fields a
    shape_fields number (t.Shape.loop_form a) = tree_fields a
    shape_fields number (t.Shape.block_form a) = tree_fields a
    shape_fields number (t.Shape.branch a) = tree_fields a
    shape_fields number (t.Shape.sync ts) = trees_fields ts
    shape_fields number (t.Shape.race ts) = trees_fields ts
    shape_fields number (t.Shape.rush ts) = trees_fields ts
    shape_fields number (t.Shape.cases a ts) = tree_fields a + trees_fields ts
    shape_fields number (t.Shape.spawn a) = tree_fields a
    shape_fields number (t.Shape.sleep x) = 0
    shape_fields number t.Shape.sleep_forever = 0
    shape_fields number (t.Shape.elements x a) = tree_fields a
    shape_fields number (t.Shape.entries x y a) = tree_fields a
    shape_fields number (t.Shape.range x a b) = tree_fields a + tree_fields b
    shape_fields number (t.Shape.arm a b) = tree_fields a + tree_fields b
    shape_fields number (t.Shape.integer_pattern x) = 0
    shape_fields number (t.Shape.minus_pattern x) = 0
    shape_fields number (t.Shape.character_pattern x) = 0
    shape_fields number (t.Shape.text_pattern x) = 0
    shape_fields number t.Shape.truth_pattern = 0
    shape_fields number t.Shape.falsehood_pattern = 0
    shape_fields number t.Shape.any_pattern = 0
    shape_fields number (t.Shape.enum_pattern x y) = 0

    pub trees_fields : Trees → ℕ
    trees_fields no_trees = 0
    trees_fields (more_trees a ts) = tree_fields a + trees_fields ts

    pub holes_fields : Holes → ℕ
    holes_fields no_holes = 0
    holes_fields (more_holes a x hs) = tree_fields a + holes_fields hs

    pub pairs_fields : Pairs → ℕ
    pairs_fields no_pairs = 0
    pairs_fields (more_pairs a b ps) = (tree_fields a + tree_fields b) + pairs_fields ps

    pub givens_fields : Givens → ℕ
    givens_fields no_givens = 0
    givens_fields (more_givens x a gs) = tree_fields a + givens_fields gs

  abbrev pub default_fields : Option Tree → ℕ
  default_fields None = 0
  default_fields (Some a) = tree_fields a

  abbrev pub member_fields : MemberTree → ℕ
  member_fields (i.MemberTree.field f) = default_fields f.default
  member_fields (i.MemberTree.method f) = tree_fields f.body

  abbrev pub item_fields : ItemTree → ℕ
  item_fields (i.ItemTree.using u) = 0
  item_fields (i.ItemTree.enumeration e) = 0
  item_fields (i.ItemTree.class c) = list_nodes member_fields c.members
  item_fields (i.ItemTree.function f) = tree_fields f.body

abbrev pub items_fields : Names → List ItemTree → ℕ
items_fields names items = list_nodes (item_fields (fields_at names)) items

abbrev pub size_of : Program → ℕ
size_of program = 16 * program_nodes (map item_of program.tree.items) + 4 *
    items_fields program.names (map item_of program.tree.items)
