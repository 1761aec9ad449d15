-- The nodes of a program in written post-order: the parts before the whole, from left to right, and
-- the program's own node last.
use Rattle.std.specs.Prelude.{ℕ, List, [], ◌∷◌, ◌++◌, length, Option, Some, None}
use Rattle.verse_base.specs.declared.places.Place.{Place}
use Rattle.verse_tree.specs.Tree.{Bytes, Written, Writtens, no_writtens, more_writtens, Tree, tree}
use Rattle.verse_tree.specs.Tree.{Shape, Trees, no_trees, more_trees}
use Rattle.verse_tree.specs.Tree.{Holes, no_holes, more_holes, Pairs, no_pairs, more_pairs, Givens}
use Rattle.verse_tree.specs.Tree.{no_givens, more_givens}
use Rattle.verse_tree.specs.Tree as t
use Rattle.verse_tree.specs.ItemTree.{FieldTree, ParamTree, FunTree, MemberTree, field, method}
use Rattle.verse_tree.specs.ItemTree.{ItemTree, using, enumeration, class}
use Rattle.verse_tree.specs.ItemTree.{function}

-- what a node is
pub data What : Type 0 where
  program : List ItemTree → What
  item : ItemTree → What
  member : MemberTree → What
  parameter : ParamTree → What
  -- a name in a type
  type_name : Bytes → What
  expression : Shape → What

pub record Node : Type 0 where
  pub number : ℕ
  pub place : Place
  pub what : What

abbrev pub node_at : ℕ → Place → What → List Node
node_at number place what = record { number = number; place = place; what = what } ∷ []

abbrev mutual
  -- the names in a type
  pub written_order : Written → List Node
  written_order t.Written.int = []
  written_order t.Written.logic = []
  written_order t.Written.char = []
  written_order t.Written.string = []
  written_order t.Written.void = []
  written_order (t.Written.named number place name) = node_at number place (type_name name)
  written_order (t.Written.option w) = written_order w
  written_order (t.Written.array w) = written_order w
  written_order (t.Written.task w) = written_order w
  written_order (t.Written.map k w) = written_order k ++ written_order w
  written_order (t.Written.tuple ws) = writtens_order ws
  written_order (t.Written.event w) = written_order w
  written_order t.Written.bare_event = []

  pub writtens_order : Writtens → List Node
  writtens_order no_writtens = []
  writtens_order (more_writtens w ws) = written_order w ++ writtens_order ws

abbrev mutual
  -- the parts of an expression, and itself
  pub post_order : Tree → List Node
  post_order (tree number place shape) = parts shape ++ node_at number place (expression shape)

  pub parts : Shape → List Node
  parts (t.Shape.block es) = trees_order es
  parts (t.Shape.defer e) = post_order e
  parts (t.Shape.definition n e) = post_order e
  parts (t.Shape.typed n w e) = written_order w ++ post_order e
  parts (t.Shape.variable n w e) = written_order w ++ post_order e
  parts (t.Shape.assignment m p e) = post_order p ++ post_order e
  parts (t.Shape.returned e) = post_order e
  parts t.Shape.returned_unit = []
  parts t.Shape.break_form = []
  parts (t.Shape.if_else cs e f) = trees_order cs ++ post_order e ++ post_order f
  parts (t.Shape.if_alone cs e) = trees_order cs ++ post_order e
  parts (t.Shape.chained o e f) = post_order e ++ post_order f
  parts (t.Shape.compared o e f) = post_order e ++ post_order f
  parts (t.Shape.negation e) = post_order e
  parts (t.Shape.minus e) = post_order e
  parts (t.Shape.call e es) = post_order e ++ trees_order es
  parts (t.Shape.index e es) = post_order e ++ trees_order es
  parts (t.Shape.member e n) = post_order e
  parts (t.Shape.query e) = post_order e
  parts (t.Shape.integer n) = []
  parts (t.Shape.character n) = []
  parts (t.Shape.text bs) = []
  parts (t.Shape.holes bs hs) = holes_order hs
  parts t.Shape.truth = []
  parts t.Shape.falsehood = []
  parts t.Shape.this = []
  parts (t.Shape.name n) = []
  parts (t.Shape.tuple es) = trees_order es
  parts (t.Shape.array es) = trees_order es
  parts (t.Shape.option es) = trees_order es
  parts (t.Shape.logic es) = trees_order es
  parts (t.Shape.mapping ps) = pairs_order ps
  parts (t.Shape.instance n gs) = givens_order gs
  parts (t.Shape.event w) = written_order w
  parts t.Shape.bare_event = []
  parts (t.Shape.for_form cs e) = trees_order cs ++ post_order e
  parts (t.Shape.loop_form e) = post_order e
  parts (t.Shape.block_form e) = post_order e
  parts (t.Shape.branch e) = post_order e
  parts (t.Shape.sync es) = trees_order es
  parts (t.Shape.race es) = trees_order es
  parts (t.Shape.rush es) = trees_order es
  parts (t.Shape.cases e es) = post_order e ++ trees_order es
  parts (t.Shape.spawn e) = post_order e
  parts (t.Shape.sleep n) = []
  parts t.Shape.sleep_forever = []
  parts (t.Shape.elements n e) = post_order e
  parts (t.Shape.entries k v e) = post_order e
  parts (t.Shape.range n e f) = post_order e ++ post_order f
  parts (t.Shape.arm p e) = post_order p ++ post_order e
  parts (t.Shape.integer_pattern n) = []
  parts (t.Shape.minus_pattern n) = []
  parts (t.Shape.character_pattern n) = []
  parts (t.Shape.text_pattern bs) = []
  parts t.Shape.truth_pattern = []
  parts t.Shape.falsehood_pattern = []
  parts t.Shape.any_pattern = []
  parts (t.Shape.enum_pattern e v) = []

  pub trees_order : Trees → List Node
  trees_order no_trees = []
  trees_order (more_trees e es) = post_order e ++ trees_order es

  pub holes_order : Holes → List Node
  holes_order no_holes = []
  holes_order (more_holes e bs hs) = post_order e ++ holes_order hs

  -- each key before its value
  pub pairs_order : Pairs → List Node
  pairs_order no_pairs = []
  pairs_order (more_pairs k e ps) = post_order k ++ post_order e ++ pairs_order ps

  pub givens_order : Givens → List Node
  givens_order no_givens = []
  givens_order (more_givens n e gs) = post_order e ++ givens_order gs

abbrev pub default_order : Option Tree → List Node
default_order None = []
default_order (Some e) = post_order e

abbrev pub param_order : ParamTree → List Node
param_order p = written_order p.written ++ node_at p.number p.place (parameter p)

abbrev pub params_order : List ParamTree → List Node
params_order [] = []
params_order (p ∷ ps) = param_order p ++ params_order ps

-- the parts of a function
abbrev pub fun_parts : FunTree → List Node
fun_parts f = params_order f.params ++ written_order f.written ++ post_order f.body

-- the parts of a field
abbrev pub field_parts : FieldTree → List Node
field_parts f = written_order f.written ++ default_order f.default

abbrev pub member_order : MemberTree → List Node
member_order (field f) = field_parts f ++ node_at f.number f.place (member (field f))
member_order (method f) = fun_parts f ++ node_at f.number f.place (member (method f))

abbrev pub members_order : List MemberTree → List Node
members_order [] = []
members_order (m ∷ ms) = member_order m ++ members_order ms

abbrev pub item_order : ItemTree → List Node
item_order (using u) = node_at u.number u.place (item (using u))
item_order (enumeration e) = node_at e.number e.place (item (enumeration e))
item_order (class c) = members_order c.members ++ node_at c.number c.place (item (class c))
item_order (function f) = fun_parts f ++ node_at f.number f.place (item (function f))

abbrev pub items_order : List ItemTree → List Node
items_order [] = []
items_order (i ∷ is) = item_order i ++ items_order is

-- the place of the program's own node
abbrev pub program_place : Place
program_place = record { file = 0; line = 1; col = 1 }

-- all nodes of a program; its own number is how many stand before it
abbrev pub program_order : List ItemTree → List Node
program_order is = items_order is ++ node_at (length (items_order is)) program_place (program is)
