-- How the nodes of a program are numbered: parts before the whole, and from left to right.
use Rattle.std.specs.Prelude.{ℕ, ◌+◌, List, [], ◌∷◌, Option, Some, None}
use Rattle.verse_tree.specs.Tree.{Bytes, Written, Writtens, no_writtens, more_writtens, Tree, tree}
use Rattle.verse_tree.specs.Tree.{Shape, Trees, no_trees, more_trees}
use Rattle.verse_tree.specs.Tree.{Holes, no_holes, more_holes, Pairs, no_pairs, more_pairs, Givens}
use Rattle.verse_tree.specs.Tree.{no_givens, more_givens}
use Rattle.verse_tree.specs.Tree as t
use Rattle.verse_tree.specs.ItemTree.{UsingTree, EnumTree, FieldTree, ParamTree, FunTree}
use Rattle.verse_tree.specs.ItemTree.{MemberTree, ClassTree, ItemTree}
use Rattle.verse_tree.specs.ItemTree as i

-- how many nodes a type has: its names
abbrev mutual
  pub written_nodes : Written → ℕ
  written_nodes t.Written.int = 0
  written_nodes t.Written.logic = 0
  written_nodes t.Written.char = 0
  written_nodes t.Written.string = 0
  written_nodes t.Written.void = 0
  written_nodes (t.Written.named number place name) = 1
  written_nodes (t.Written.option w) = written_nodes w
  written_nodes (t.Written.array w) = written_nodes w
  written_nodes (t.Written.map w v) = written_nodes w + written_nodes v
  written_nodes (t.Written.tuple ws) = writtens_nodes ws
  written_nodes (t.Written.task w) = written_nodes w
  written_nodes (t.Written.event w) = written_nodes w
  written_nodes t.Written.bare_event = 0

  pub writtens_nodes : Writtens → ℕ
  writtens_nodes no_writtens = 0
  writtens_nodes (more_writtens w ws) = written_nodes w + writtens_nodes ws

-- how many nodes a tree has, with its own
abbrev mutual
  pub nodes : Tree → ℕ
  nodes (tree number place s) = shape_nodes s + 1

  -- how many nodes the parts have
  pub shape_nodes : Shape → ℕ
  shape_nodes (t.Shape.block ts) = trees_nodes ts
  shape_nodes (t.Shape.defer a) = nodes a
  shape_nodes (t.Shape.definition x a) = nodes a
  shape_nodes (t.Shape.typed x w a) = written_nodes w + nodes a
  shape_nodes (t.Shape.variable x w a) = written_nodes w + nodes a
  shape_nodes (t.Shape.assignment x a b) = nodes a + nodes b
  shape_nodes (t.Shape.returned a) = nodes a
  shape_nodes t.Shape.returned_unit = 0
  shape_nodes t.Shape.break_form = 0
  shape_nodes (t.Shape.if_else ts a b) = trees_nodes ts + (nodes a + nodes b)
  shape_nodes (t.Shape.if_alone ts a) = trees_nodes ts + nodes a
  shape_nodes (t.Shape.chained x a b) = nodes a + nodes b
  shape_nodes (t.Shape.compared x a b) = nodes a + nodes b
  shape_nodes (t.Shape.negation a) = nodes a
  shape_nodes (t.Shape.minus a) = nodes a
  shape_nodes (t.Shape.call a ts) = nodes a + trees_nodes ts
  shape_nodes (t.Shape.index a ts) = nodes a + trees_nodes ts
  shape_nodes (t.Shape.member a x) = nodes a
  shape_nodes (t.Shape.query a) = nodes a
  shape_nodes (t.Shape.integer x) = 0
  shape_nodes (t.Shape.character x) = 0
  shape_nodes (t.Shape.text x) = 0
  shape_nodes (t.Shape.holes x hs) = holes_nodes hs
  shape_nodes t.Shape.truth = 0
  shape_nodes t.Shape.falsehood = 0
  shape_nodes t.Shape.this = 0
  shape_nodes (t.Shape.name x) = 0
  shape_nodes (t.Shape.tuple ts) = trees_nodes ts
  shape_nodes (t.Shape.array ts) = trees_nodes ts
  shape_nodes (t.Shape.option ts) = trees_nodes ts
  shape_nodes (t.Shape.logic ts) = trees_nodes ts
  shape_nodes (t.Shape.mapping ps) = pairs_nodes ps
  shape_nodes (t.Shape.instance x gs) = givens_nodes gs
  shape_nodes (t.Shape.event w) = written_nodes w
  shape_nodes t.Shape.bare_event = 0
  shape_nodes (t.Shape.for_form ts a) = trees_nodes ts + nodes a
  shape_nodes (t.Shape.loop_form a) = nodes a
  shape_nodes (t.Shape.block_form a) = nodes a
  shape_nodes (t.Shape.branch a) = nodes a
  shape_nodes (t.Shape.sync ts) = trees_nodes ts
  shape_nodes (t.Shape.race ts) = trees_nodes ts
  shape_nodes (t.Shape.rush ts) = trees_nodes ts
  shape_nodes (t.Shape.cases a ts) = nodes a + trees_nodes ts
  shape_nodes (t.Shape.spawn a) = nodes a
  shape_nodes (t.Shape.sleep x) = 0
  shape_nodes t.Shape.sleep_forever = 0
  shape_nodes (t.Shape.elements x a) = nodes a
  shape_nodes (t.Shape.entries x y a) = nodes a
  shape_nodes (t.Shape.range x a b) = nodes a + nodes b
  shape_nodes (t.Shape.arm a b) = nodes a + nodes b
  shape_nodes (t.Shape.integer_pattern x) = 0
  shape_nodes (t.Shape.minus_pattern x) = 0
  shape_nodes (t.Shape.character_pattern x) = 0
  shape_nodes (t.Shape.text_pattern x) = 0
  shape_nodes t.Shape.truth_pattern = 0
  shape_nodes t.Shape.falsehood_pattern = 0
  shape_nodes t.Shape.any_pattern = 0
  shape_nodes (t.Shape.enum_pattern x y) = 0

  pub trees_nodes : Trees → ℕ
  trees_nodes no_trees = 0
  trees_nodes (more_trees a ts) = nodes a + trees_nodes ts

  pub holes_nodes : Holes → ℕ
  holes_nodes no_holes = 0
  holes_nodes (more_holes a x hs) = nodes a + holes_nodes hs

  pub pairs_nodes : Pairs → ℕ
  pairs_nodes no_pairs = 0
  pairs_nodes (more_pairs a b ps) = (nodes a + nodes b) + pairs_nodes ps

  pub givens_nodes : Givens → ℕ
  givens_nodes no_givens = 0
  givens_nodes (more_givens x a gs) = nodes a + givens_nodes gs

-- a type with its nodes numbered from `next` on
abbrev mutual
  pub written_numbered : Written → ℕ → Written
  written_numbered t.Written.int next = t.Written.int
  written_numbered t.Written.logic next = t.Written.logic
  written_numbered t.Written.char next = t.Written.char
  written_numbered t.Written.string next = t.Written.string
  written_numbered t.Written.void next = t.Written.void
  written_numbered (t.Written.named number place name) next = t.Written.named next place name
  written_numbered (t.Written.option w) next = t.Written.option (written_numbered w next)
  written_numbered (t.Written.array w) next = t.Written.array (written_numbered w next)
  written_numbered (t.Written.map w v) next =
      t.Written.map (written_numbered w next) (written_numbered v (next + written_nodes w))
  written_numbered (t.Written.tuple ws) next = t.Written.tuple (writtens_numbered ws next)
  written_numbered (t.Written.task w) next = t.Written.task (written_numbered w next)
  written_numbered (t.Written.event w) next = t.Written.event (written_numbered w next)
  written_numbered t.Written.bare_event next = t.Written.bare_event

  pub writtens_numbered : Writtens → ℕ → Writtens
  writtens_numbered no_writtens next = no_writtens
  writtens_numbered (more_writtens w ws) next =
      more_writtens (written_numbered w next) (writtens_numbered ws (next + written_nodes w))

-- a tree with its nodes numbered from `next` on
abbrev mutual
  pub numbered : Tree → ℕ → Tree
  numbered (tree number place s) next = tree (next + shape_nodes s) place (shape_numbered s next)

  pub shape_numbered : Shape → ℕ → Shape
  shape_numbered (t.Shape.block ts) next = t.Shape.block (trees_numbered ts next)
  shape_numbered (t.Shape.defer a) next = t.Shape.defer (numbered a next)
  shape_numbered (t.Shape.definition x a) next = t.Shape.definition x (numbered a next)
  shape_numbered (t.Shape.typed x w a) next =
      t.Shape.typed x (written_numbered w next) (numbered a (next + written_nodes w))
  shape_numbered (t.Shape.variable x w a) next =
      t.Shape.variable x (written_numbered w next) (numbered a (next + written_nodes w))
  shape_numbered (t.Shape.assignment x a b) next =
      t.Shape.assignment x (numbered a next) (numbered b (next + nodes a))
  shape_numbered (t.Shape.returned a) next = t.Shape.returned (numbered a next)
  shape_numbered t.Shape.returned_unit next = t.Shape.returned_unit
  shape_numbered t.Shape.break_form next = t.Shape.break_form
  shape_numbered (t.Shape.if_else ts a b) next =
      t.Shape.if_else (trees_numbered ts next) (numbered a (next + trees_nodes ts))
      (numbered b (next + trees_nodes ts + nodes a))
  shape_numbered (t.Shape.if_alone ts a) next =
      t.Shape.if_alone (trees_numbered ts next) (numbered a (next + trees_nodes ts))
  shape_numbered (t.Shape.chained x a b) next =
      t.Shape.chained x (numbered a next) (numbered b (next + nodes a))
  shape_numbered (t.Shape.compared x a b) next =
      t.Shape.compared x (numbered a next) (numbered b (next + nodes a))
  shape_numbered (t.Shape.negation a) next = t.Shape.negation (numbered a next)
  shape_numbered (t.Shape.minus a) next = t.Shape.minus (numbered a next)
  shape_numbered (t.Shape.call a ts) next =
      t.Shape.call (numbered a next) (trees_numbered ts (next + nodes a))
  shape_numbered (t.Shape.index a ts) next =
      t.Shape.index (numbered a next) (trees_numbered ts (next + nodes a))
  shape_numbered (t.Shape.member a x) next = t.Shape.member (numbered a next) x
  shape_numbered (t.Shape.query a) next = t.Shape.query (numbered a next)
  shape_numbered (t.Shape.integer x) next = t.Shape.integer x
  shape_numbered (t.Shape.character x) next = t.Shape.character x
  shape_numbered (t.Shape.text x) next = t.Shape.text x
  shape_numbered (t.Shape.holes x hs) next = t.Shape.holes x (holes_numbered hs next)
  shape_numbered t.Shape.truth next = t.Shape.truth
  shape_numbered t.Shape.falsehood next = t.Shape.falsehood
  shape_numbered t.Shape.this next = t.Shape.this
  shape_numbered (t.Shape.name x) next = t.Shape.name x
  shape_numbered (t.Shape.tuple ts) next = t.Shape.tuple (trees_numbered ts next)
  shape_numbered (t.Shape.array ts) next = t.Shape.array (trees_numbered ts next)
  shape_numbered (t.Shape.option ts) next = t.Shape.option (trees_numbered ts next)
  shape_numbered (t.Shape.logic ts) next = t.Shape.logic (trees_numbered ts next)
  shape_numbered (t.Shape.mapping ps) next = t.Shape.mapping (pairs_numbered ps next)
  shape_numbered (t.Shape.instance x gs) next = t.Shape.instance x (givens_numbered gs next)
  shape_numbered (t.Shape.event w) next = t.Shape.event (written_numbered w next)
  shape_numbered t.Shape.bare_event next = t.Shape.bare_event
  shape_numbered (t.Shape.for_form ts a) next =
      t.Shape.for_form (trees_numbered ts next) (numbered a (next + trees_nodes ts))
  shape_numbered (t.Shape.loop_form a) next = t.Shape.loop_form (numbered a next)
  shape_numbered (t.Shape.block_form a) next = t.Shape.block_form (numbered a next)
  shape_numbered (t.Shape.branch a) next = t.Shape.branch (numbered a next)
  shape_numbered (t.Shape.sync ts) next = t.Shape.sync (trees_numbered ts next)
  shape_numbered (t.Shape.race ts) next = t.Shape.race (trees_numbered ts next)
  shape_numbered (t.Shape.rush ts) next = t.Shape.rush (trees_numbered ts next)
  shape_numbered (t.Shape.cases a ts) next =
      t.Shape.cases (numbered a next) (trees_numbered ts (next + nodes a))
  shape_numbered (t.Shape.spawn a) next = t.Shape.spawn (numbered a next)
  shape_numbered (t.Shape.sleep x) next = t.Shape.sleep x
  shape_numbered t.Shape.sleep_forever next = t.Shape.sleep_forever
  shape_numbered (t.Shape.elements x a) next = t.Shape.elements x (numbered a next)
  shape_numbered (t.Shape.entries x y a) next = t.Shape.entries x y (numbered a next)
  shape_numbered (t.Shape.range x a b) next =
      t.Shape.range x (numbered a next) (numbered b (next + nodes a))
  shape_numbered (t.Shape.arm a b) next =
      t.Shape.arm (numbered a next) (numbered b (next + nodes a))
  shape_numbered (t.Shape.integer_pattern x) next = t.Shape.integer_pattern x
  shape_numbered (t.Shape.minus_pattern x) next = t.Shape.minus_pattern x
  shape_numbered (t.Shape.character_pattern x) next = t.Shape.character_pattern x
  shape_numbered (t.Shape.text_pattern x) next = t.Shape.text_pattern x
  shape_numbered t.Shape.truth_pattern next = t.Shape.truth_pattern
  shape_numbered t.Shape.falsehood_pattern next = t.Shape.falsehood_pattern
  shape_numbered t.Shape.any_pattern next = t.Shape.any_pattern
  shape_numbered (t.Shape.enum_pattern x y) next = t.Shape.enum_pattern x y

  pub trees_numbered : Trees → ℕ → Trees
  trees_numbered no_trees next = no_trees
  trees_numbered (more_trees a ts) next =
      more_trees (numbered a next) (trees_numbered ts (next + nodes a))

  pub holes_numbered : Holes → ℕ → Holes
  holes_numbered no_holes next = no_holes
  holes_numbered (more_holes a x hs) next =
      more_holes (numbered a next) x (holes_numbered hs (next + nodes a))

  pub pairs_numbered : Pairs → ℕ → Pairs
  pairs_numbered no_pairs next = no_pairs
  pairs_numbered (more_pairs a b ps) next =
      more_pairs (numbered a next) (numbered b (next + nodes a))
      (pairs_numbered ps (next + (nodes a + nodes b)))

  pub givens_numbered : Givens → ℕ → Givens
  givens_numbered no_givens next = no_givens
  givens_numbered (more_givens x a gs) next =
      more_givens x (numbered a next) (givens_numbered gs (next + nodes a))

-- the nodes of all
module _ {X : Type 0} (size : X → ℕ) where
  abbrev pub list_nodes : List X → ℕ
  list_nodes [] = 0
  list_nodes (x ∷ xs) = size x + list_nodes xs

-- each numbered behind those before it
module _ {X : Type 0} (step : X → ℕ → X) (size : X → ℕ) where
  abbrev pub list_numbered : List X → ℕ → List X
  list_numbered [] next = []
  list_numbered (x ∷ xs) next = step x next ∷ list_numbered xs (next + size x)

abbrev pub default_nodes : Option Tree → ℕ
default_nodes None = 0
default_nodes (Some a) = nodes a

abbrev pub default_numbered : Option Tree → ℕ → Option Tree
default_numbered None next = None
default_numbered (Some a) next = Some (numbered a next)

-- a field: the names in its type, its default, and itself
abbrev pub field_nodes : FieldTree → ℕ
field_nodes f = (written_nodes f.written + default_nodes f.default) + 1

abbrev pub field_numbered : FieldTree → ℕ → FieldTree
field_numbered f next = record f {
  number = next + (written_nodes f.written + default_nodes f.default);
  written = written_numbered f.written next;
  default = default_numbered f.default (next + written_nodes f.written);
}

-- a parameter: the names in its type, and itself
abbrev pub param_nodes : ParamTree → ℕ
param_nodes p = written_nodes p.written + 1

abbrev pub param_numbered : ParamTree → ℕ → ParamTree
param_numbered p next = record p
    { number = next + written_nodes p.written; written = written_numbered p.written next }

-- a function: its parameters, the names in the type of its result, its body, and itself
abbrev pub fun_nodes : FunTree → ℕ
fun_nodes f = (list_nodes param_nodes f.params + (written_nodes f.written + nodes f.body)) + 1

abbrev pub fun_numbered : FunTree → ℕ → FunTree
fun_numbered f next = record f {
  number = next + (list_nodes param_nodes f.params + (written_nodes f.written + nodes f.body));
  params = list_numbered param_numbered param_nodes f.params next;
  written = written_numbered f.written (next + list_nodes param_nodes f.params);
  body = numbered f.body (next + list_nodes param_nodes f.params + written_nodes f.written);
}

abbrev pub member_nodes : MemberTree → ℕ
member_nodes (i.MemberTree.field f) = field_nodes f
member_nodes (i.MemberTree.method f) = fun_nodes f

abbrev pub member_numbered : MemberTree → ℕ → MemberTree
member_numbered (i.MemberTree.field f) next = i.MemberTree.field (field_numbered f next)
member_numbered (i.MemberTree.method f) next = i.MemberTree.method (fun_numbered f next)

-- a class: its members, and itself
abbrev pub class_nodes : ClassTree → ℕ
class_nodes c = list_nodes member_nodes c.members + 1

abbrev pub class_numbered : ClassTree → ℕ → ClassTree
class_numbered c next = record c {
  number = next + list_nodes member_nodes c.members;
  members = list_numbered member_numbered member_nodes c.members next;
}

abbrev pub using_numbered : UsingTree → ℕ → UsingTree
using_numbered u next = record u { number = next }

abbrev pub enum_numbered : EnumTree → ℕ → EnumTree
enum_numbered e next = record e { number = next }

abbrev pub item_nodes : ItemTree → ℕ
item_nodes (i.ItemTree.using u) = 1
item_nodes (i.ItemTree.enumeration e) = 1
item_nodes (i.ItemTree.class c) = class_nodes c
item_nodes (i.ItemTree.function f) = fun_nodes f

abbrev pub item_numbered : ItemTree → ℕ → ItemTree
item_numbered (i.ItemTree.using u) next = i.ItemTree.using (using_numbered u next)
item_numbered (i.ItemTree.enumeration e) next = i.ItemTree.enumeration (enum_numbered e next)
item_numbered (i.ItemTree.class c) next = i.ItemTree.class (class_numbered c next)
item_numbered (i.ItemTree.function f) next = i.ItemTree.function (fun_numbered f next)

abbrev pub items_nodes : List ItemTree → ℕ
items_nodes = list_nodes item_nodes

abbrev pub items_numbered : List ItemTree → ℕ → List ItemTree
items_numbered = list_numbered item_numbered item_nodes

-- the nodes of a program: those of its items, and its own
abbrev pub program_nodes : List ItemTree → ℕ
program_nodes items = items_nodes items + 1
