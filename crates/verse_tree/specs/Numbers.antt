-- The numbers of nodes, what a tree is but for them, and the laws of numbering.
use Rattle.std.specs.Prelude.{◌≡◌, ℕ, List, Option, Some, None, map}
use Rattle.std.specs.List.{range_with_len}
use Rattle.verse_tree.specs.Tree.{Written, Writtens, no_writtens, more_writtens, Tree, tree, Shape}
use Rattle.verse_tree.specs.Tree.{Trees, no_trees, more_trees, Holes}
use Rattle.verse_tree.specs.Tree.{no_holes, more_holes, Pairs, no_pairs, more_pairs, Givens}
use Rattle.verse_tree.specs.Tree.{no_givens, more_givens}
use Rattle.verse_tree.specs.Tree as t
use Rattle.verse_tree.specs.ItemTree.{FieldTree, ParamTree, FunTree, MemberTree, ItemTree}
use Rattle.verse_tree.specs.ItemTree as i
use Rattle.verse_tree.specs.PostOrder.{Node, items_order, program_order}
use Rattle.verse_tree.specs.Numbering.{items_nodes, items_numbered, program_nodes}

abbrev pub numbers : List Node → List ℕ
numbers ns = map (λ (n : Node). n.number) ns

-- a type with 0 for each number
abbrev mutual
  pub written_cleared : Written → Written
  written_cleared t.Written.int = t.Written.int
  written_cleared t.Written.logic = t.Written.logic
  written_cleared t.Written.char = t.Written.char
  written_cleared t.Written.string = t.Written.string
  written_cleared t.Written.void = t.Written.void
  written_cleared (t.Written.named number place name) = t.Written.named 0 place name
  written_cleared (t.Written.option w) = t.Written.option (written_cleared w)
  written_cleared (t.Written.array w) = t.Written.array (written_cleared w)
  written_cleared (t.Written.map w v) = t.Written.map (written_cleared w) (written_cleared v)
  written_cleared (t.Written.tuple ws) = t.Written.tuple (writtens_cleared ws)
  written_cleared (t.Written.task w) = t.Written.task (written_cleared w)
  written_cleared (t.Written.event w) = t.Written.event (written_cleared w)
  written_cleared t.Written.bare_event = t.Written.bare_event

  pub writtens_cleared : Writtens → Writtens
  writtens_cleared no_writtens = no_writtens
  writtens_cleared (more_writtens w ws) = more_writtens (written_cleared w) (writtens_cleared ws)

-- a tree with 0 for each number
abbrev mutual
  pub cleared : Tree → Tree
  cleared (tree number place s) = tree 0 place (shape_cleared s)

  pub shape_cleared : Shape → Shape
  shape_cleared (t.Shape.block ts) = t.Shape.block (trees_cleared ts)
  shape_cleared (t.Shape.defer a) = t.Shape.defer (cleared a)
  shape_cleared (t.Shape.definition x a) = t.Shape.definition x (cleared a)
  shape_cleared (t.Shape.typed x w a) = t.Shape.typed x (written_cleared w) (cleared a)
  shape_cleared (t.Shape.variable x w a) = t.Shape.variable x (written_cleared w) (cleared a)
  shape_cleared (t.Shape.assignment x a b) = t.Shape.assignment x (cleared a) (cleared b)
  shape_cleared (t.Shape.returned a) = t.Shape.returned (cleared a)
  shape_cleared t.Shape.returned_unit = t.Shape.returned_unit
  shape_cleared t.Shape.break_form = t.Shape.break_form
  shape_cleared (t.Shape.if_else ts a b) =
      t.Shape.if_else (trees_cleared ts) (cleared a) (cleared b)
  shape_cleared (t.Shape.if_alone ts a) = t.Shape.if_alone (trees_cleared ts) (cleared a)
  shape_cleared (t.Shape.chained x a b) = t.Shape.chained x (cleared a) (cleared b)
  shape_cleared (t.Shape.compared x a b) = t.Shape.compared x (cleared a) (cleared b)
  shape_cleared (t.Shape.negation a) = t.Shape.negation (cleared a)
  shape_cleared (t.Shape.minus a) = t.Shape.minus (cleared a)
  shape_cleared (t.Shape.call a ts) = t.Shape.call (cleared a) (trees_cleared ts)
  shape_cleared (t.Shape.index a ts) = t.Shape.index (cleared a) (trees_cleared ts)
  shape_cleared (t.Shape.member a x) = t.Shape.member (cleared a) x
  shape_cleared (t.Shape.query a) = t.Shape.query (cleared a)
  shape_cleared (t.Shape.integer x) = t.Shape.integer x
  shape_cleared (t.Shape.character x) = t.Shape.character x
  shape_cleared (t.Shape.text x) = t.Shape.text x
  shape_cleared (t.Shape.holes x hs) = t.Shape.holes x (holes_cleared hs)
  shape_cleared t.Shape.truth = t.Shape.truth
  shape_cleared t.Shape.falsehood = t.Shape.falsehood
  shape_cleared t.Shape.this = t.Shape.this
  shape_cleared (t.Shape.name x) = t.Shape.name x
  shape_cleared (t.Shape.tuple ts) = t.Shape.tuple (trees_cleared ts)
  shape_cleared (t.Shape.array ts) = t.Shape.array (trees_cleared ts)
  shape_cleared (t.Shape.option ts) = t.Shape.option (trees_cleared ts)
  shape_cleared (t.Shape.logic ts) = t.Shape.logic (trees_cleared ts)
  shape_cleared (t.Shape.mapping ps) = t.Shape.mapping (pairs_cleared ps)
  shape_cleared (t.Shape.instance x gs) = t.Shape.instance x (givens_cleared gs)
  shape_cleared (t.Shape.event w) = t.Shape.event (written_cleared w)
  shape_cleared t.Shape.bare_event = t.Shape.bare_event
  shape_cleared (t.Shape.for_form ts a) = t.Shape.for_form (trees_cleared ts) (cleared a)
  shape_cleared (t.Shape.loop_form a) = t.Shape.loop_form (cleared a)
  shape_cleared (t.Shape.block_form a) = t.Shape.block_form (cleared a)
  shape_cleared (t.Shape.branch a) = t.Shape.branch (cleared a)
  shape_cleared (t.Shape.sync ts) = t.Shape.sync (trees_cleared ts)
  shape_cleared (t.Shape.race ts) = t.Shape.race (trees_cleared ts)
  shape_cleared (t.Shape.rush ts) = t.Shape.rush (trees_cleared ts)
  shape_cleared (t.Shape.cases a ts) = t.Shape.cases (cleared a) (trees_cleared ts)
  shape_cleared (t.Shape.spawn a) = t.Shape.spawn (cleared a)
  shape_cleared (t.Shape.sleep x) = t.Shape.sleep x
  shape_cleared t.Shape.sleep_forever = t.Shape.sleep_forever
  shape_cleared (t.Shape.elements x a) = t.Shape.elements x (cleared a)
  shape_cleared (t.Shape.entries x y a) = t.Shape.entries x y (cleared a)
  shape_cleared (t.Shape.range x a b) = t.Shape.range x (cleared a) (cleared b)
  shape_cleared (t.Shape.arm a b) = t.Shape.arm (cleared a) (cleared b)
  shape_cleared (t.Shape.integer_pattern x) = t.Shape.integer_pattern x
  shape_cleared (t.Shape.minus_pattern x) = t.Shape.minus_pattern x
  shape_cleared (t.Shape.character_pattern x) = t.Shape.character_pattern x
  shape_cleared (t.Shape.text_pattern x) = t.Shape.text_pattern x
  shape_cleared t.Shape.truth_pattern = t.Shape.truth_pattern
  shape_cleared t.Shape.falsehood_pattern = t.Shape.falsehood_pattern
  shape_cleared t.Shape.any_pattern = t.Shape.any_pattern
  shape_cleared (t.Shape.enum_pattern x y) = t.Shape.enum_pattern x y

  pub trees_cleared : Trees → Trees
  trees_cleared no_trees = no_trees
  trees_cleared (more_trees a ts) = more_trees (cleared a) (trees_cleared ts)

  pub holes_cleared : Holes → Holes
  holes_cleared no_holes = no_holes
  holes_cleared (more_holes a x hs) = more_holes (cleared a) x (holes_cleared hs)

  pub pairs_cleared : Pairs → Pairs
  pairs_cleared no_pairs = no_pairs
  pairs_cleared (more_pairs a b ps) = more_pairs (cleared a) (cleared b) (pairs_cleared ps)

  pub givens_cleared : Givens → Givens
  givens_cleared no_givens = no_givens
  givens_cleared (more_givens x a gs) = more_givens x (cleared a) (givens_cleared gs)

abbrev pub default_cleared : Option Tree → Option Tree
default_cleared None = None
default_cleared (Some a) = Some (cleared a)

abbrev pub field_cleared : FieldTree → FieldTree
field_cleared f = record f {
  number = 0;
  written = written_cleared f.written;
  default =
      default_cleared f.default;
}

abbrev pub param_cleared : ParamTree → ParamTree
param_cleared p = record p { number = 0; written = written_cleared p.written }

abbrev pub fun_cleared : FunTree → FunTree
fun_cleared f = record f {
  number = 0;
  params = map param_cleared f.params;
  written =
      written_cleared f.written;
  body = cleared f.body;
}

abbrev pub member_cleared : MemberTree → MemberTree
member_cleared (i.MemberTree.field f) = i.MemberTree.field (field_cleared f)
member_cleared (i.MemberTree.method f) = i.MemberTree.method (fun_cleared f)

abbrev pub item_cleared : ItemTree → ItemTree
item_cleared (i.ItemTree.using u) = i.ItemTree.using (record u { number = 0 })
item_cleared (i.ItemTree.enumeration e) = i.ItemTree.enumeration (record e { number = 0 })
item_cleared (i.ItemTree.class c) =
    i.ItemTree.class (record c { number = 0; members = map member_cleared c.members })
item_cleared (i.ItemTree.function f) = i.ItemTree.function (fun_cleared f)

-- the numbers of what is numbered from `next` on are `next` and those behind it, one for each node,
-- in order
abbrev pub NumberedInOrder : Type 0
NumberedInOrder = (items : List ItemTree) (next : ℕ) →
    numbers (items_order (items_numbered items next)) ≡ range_with_len next (items_nodes items)

-- and the program's own node, where its items are numbered from 0, has the last number
abbrev pub ProgramInOrder : Type 0
ProgramInOrder = (items : List ItemTree) →
    numbers (program_order (items_numbered items 0)) ≡ range_with_len 0 (program_nodes items)

-- and nothing but numbers is changed
abbrev pub NumbersAlone : Type 0
NumbersAlone = (items : List ItemTree) (next : ℕ) →
    map item_cleared (items_numbered items next) ≡ map item_cleared items
