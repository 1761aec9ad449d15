-- The nodes of a program in written post-order, each with what stands round it.
use Rattle.std.specs.Prelude.{ℕ, ◌+◌, List, [], ◌∷◌, ◌++◌, Option, Some, None}
use Rattle.verse_base.specs.declared.places.Place.{Place}
use Rattle.verse_tree.specs.Tree.{Bytes, Written, Writtens, no_writtens, more_writtens, Tree, tree}
use Rattle.verse_tree.specs.Tree.{Shape, Trees, no_trees, more_trees}
use Rattle.verse_tree.specs.Tree.{Holes, no_holes, more_holes, Pairs, no_pairs, more_pairs, Givens}
use Rattle.verse_tree.specs.Tree.{no_givens, more_givens}
use Rattle.verse_tree.specs.Tree as t
use Rattle.verse_tree.specs.ItemTree.{FieldTree, ParamTree, FunTree, MemberTree, field, method}
use Rattle.verse_tree.specs.ItemTree.{ItemTree, using, enumeration, class}
use Rattle.verse_tree.specs.ItemTree.{function}
use Rattle.verse_tree.specs.PostOrder.{What, item, member, parameter, type_name, expression}
use Rattle.verse_tree.specs.PostOrder as plain
use Rattle.verse_rules_walk.specs.Specifiers.{written_effects}
use Rattle.verse_rules_walk.specs.Around.{Around, value, callee, object, target, spawned, argument}
use Rattle.verse_rules_walk.specs.Around.{outside, body_around, default_around, used_as}
use Rattle.verse_rules_walk.specs.Around.{freely, caught, looped, repeated, armed, deferred}
use Rattle.verse_rules_walk.specs.Around.{left_of, indexed}

pub record Node : Type 0 where
  pub number : ℕ
  pub place : Place
  pub around : Around
  -- what it is, with its parts
  pub what : What

abbrev pub number_of : Node → ℕ
number_of v = v.number

abbrev pub place_of : Node → Place
place_of v = v.place

-- a node but for what stands round it
abbrev pub alone : Node → plain.Node
alone v = record { number = v.number; place = v.place; what = v.what }

abbrev pub node : ℕ → Place → Around → What → Node
node n p w x = record { number = n; place = p; around = w; what = x }

abbrev pub number_of_tree : Tree → ℕ
number_of_tree (tree n p s) = n

abbrev mutual
  -- the names in a type
  pub written_nodes : Around → Written → List Node
  written_nodes w t.Written.int = []
  written_nodes w t.Written.logic = []
  written_nodes w t.Written.char = []
  written_nodes w t.Written.string = []
  written_nodes w t.Written.void = []
  written_nodes w (t.Written.named n p x) = node n p w (type_name x) ∷ []
  written_nodes w (t.Written.option ty) = written_nodes w ty
  written_nodes w (t.Written.array ty) = written_nodes w ty
  written_nodes w (t.Written.task ty) = written_nodes w ty
  written_nodes w (t.Written.map key ty) = written_nodes w key ++ written_nodes w ty
  written_nodes w (t.Written.tuple tys) = writtens_nodes w tys
  written_nodes w (t.Written.event ty) = written_nodes w ty
  written_nodes w t.Written.bare_event = []

  pub writtens_nodes : Around → Writtens → List Node
  writtens_nodes w no_writtens = []
  writtens_nodes w (more_writtens ty tys) = written_nodes w ty ++ writtens_nodes w tys

abbrev mutual
  -- the parts of an expression, and itself
  pub tree_nodes : Around → Tree → List Node
  tree_nodes w (tree n p s) = shape_nodes n w s ++ node n p w (expression s) ∷ []

  -- the parts of an expression with this number
  pub shape_nodes : ℕ → Around → Shape → List Node
  shape_nodes n w (t.Shape.block ts) = trees_nodes (freely w) ts
  shape_nodes n w (t.Shape.defer a) = tree_nodes (deferred w) a
  shape_nodes n w (t.Shape.definition x a) = tree_nodes (freely w) a
  shape_nodes n w (t.Shape.typed x ty a) = written_nodes w ty ++ tree_nodes (used_as (value ty) w) a
  shape_nodes n w (t.Shape.variable x ty a) =
      written_nodes w ty ++ tree_nodes (used_as (value ty) w) a
  shape_nodes n w (t.Shape.assignment m a b) =
      tree_nodes (used_as target w) a ++ tree_nodes (freely w) b
  shape_nodes n w (t.Shape.returned a) = tree_nodes (freely w) a
  shape_nodes n w t.Shape.returned_unit = []
  shape_nodes n w t.Shape.break_form = []
  shape_nodes n w (t.Shape.if_else ts a b) =
      trees_nodes (caught w) ts ++ tree_nodes (freely w) a ++ tree_nodes (freely w) b
  shape_nodes n w (t.Shape.if_alone ts a) = trees_nodes (caught w) ts ++ tree_nodes (freely w) a
  shape_nodes n w (t.Shape.chained x a b) = tree_nodes (left_of x w) a ++ tree_nodes (freely w) b
  shape_nodes n w (t.Shape.compared x a b) = tree_nodes (freely w) a ++ tree_nodes (freely w) b
  shape_nodes n w (t.Shape.negation a) = tree_nodes (caught w) a
  shape_nodes n w (t.Shape.minus a) = tree_nodes (freely w) a
  shape_nodes n w (t.Shape.call a ts) =
      tree_nodes (used_as callee w) a ++ argument_nodes w (number_of_tree a) 0 ts
  shape_nodes n w (t.Shape.index a ts) =
      tree_nodes (indexed w) a ++ argument_nodes w (number_of_tree a) 0 ts
  shape_nodes n w (t.Shape.member a x) = tree_nodes (used_as object w) a
  shape_nodes n w (t.Shape.query a) = tree_nodes (freely w) a
  shape_nodes n w (t.Shape.integer x) = []
  shape_nodes n w (t.Shape.character x) = []
  shape_nodes n w (t.Shape.text x) = []
  shape_nodes n w (t.Shape.holes x hs) = holes_nodes (freely w) hs
  shape_nodes n w t.Shape.truth = []
  shape_nodes n w t.Shape.falsehood = []
  shape_nodes n w t.Shape.this = []
  shape_nodes n w (t.Shape.name x) = []
  shape_nodes n w (t.Shape.tuple ts) = trees_nodes (freely w) ts
  shape_nodes n w (t.Shape.array ts) = trees_nodes (freely w) ts
  shape_nodes n w (t.Shape.option ts) = trees_nodes (caught w) ts
  shape_nodes n w (t.Shape.logic ts) = trees_nodes (caught w) ts
  shape_nodes n w (t.Shape.mapping ps) = pairs_nodes (freely w) ps
  shape_nodes n w (t.Shape.instance x gs) = givens_nodes (freely w) gs
  shape_nodes n w (t.Shape.event ty) = written_nodes w ty
  shape_nodes n w t.Shape.bare_event = []
  shape_nodes n w (t.Shape.for_form ts a) = trees_nodes (caught w) ts ++ tree_nodes (repeated w) a
  shape_nodes n w (t.Shape.loop_form a) = tree_nodes (looped n w) a
  shape_nodes n w (t.Shape.block_form a) = tree_nodes (freely w) a
  shape_nodes n w (t.Shape.branch a) = tree_nodes (armed w) a
  shape_nodes n w (t.Shape.sync ts) = trees_nodes (armed w) ts
  shape_nodes n w (t.Shape.race ts) = trees_nodes (armed w) ts
  shape_nodes n w (t.Shape.rush ts) = trees_nodes (armed w) ts
  shape_nodes n w (t.Shape.cases a ts) = tree_nodes (freely w) a ++ trees_nodes (freely w) ts
  shape_nodes n w (t.Shape.spawn a) = tree_nodes (used_as spawned w) a
  shape_nodes n w (t.Shape.sleep x) = []
  shape_nodes n w t.Shape.sleep_forever = []
  shape_nodes n w (t.Shape.elements x a) = tree_nodes (freely w) a
  shape_nodes n w (t.Shape.entries x y a) = tree_nodes (freely w) a
  shape_nodes n w (t.Shape.range x a b) = tree_nodes (freely w) a ++ tree_nodes (freely w) b
  shape_nodes n w (t.Shape.arm a b) = tree_nodes (freely w) a ++ tree_nodes (freely w) b
  shape_nodes n w (t.Shape.integer_pattern x) = []
  shape_nodes n w (t.Shape.minus_pattern x) = []
  shape_nodes n w (t.Shape.character_pattern x) = []
  shape_nodes n w (t.Shape.text_pattern x) = []
  shape_nodes n w t.Shape.truth_pattern = []
  shape_nodes n w t.Shape.falsehood_pattern = []
  shape_nodes n w t.Shape.any_pattern = []
  shape_nodes n w (t.Shape.enum_pattern x y) = []

  pub trees_nodes : Around → Trees → List Node
  trees_nodes w no_trees = []
  trees_nodes w (more_trees e es) = tree_nodes w e ++ trees_nodes w es

  -- the arguments for the callee with the number f, from the place i on
  pub argument_nodes : Around → ℕ → ℕ → Trees → List Node
  argument_nodes w f i no_trees = []
  argument_nodes w f i (more_trees e es) =
      tree_nodes (used_as (argument f i) w) e ++ argument_nodes w f (i + 1) es

  pub holes_nodes : Around → Holes → List Node
  holes_nodes w no_holes = []
  holes_nodes w (more_holes e bs hs) = tree_nodes w e ++ holes_nodes w hs

  pub pairs_nodes : Around → Pairs → List Node
  pairs_nodes w no_pairs = []
  pairs_nodes w (more_pairs k e ps) = tree_nodes w k ++ tree_nodes w e ++ pairs_nodes w ps

  pub givens_nodes : Around → Givens → List Node
  givens_nodes w no_givens = []
  givens_nodes w (more_givens x e gs) = tree_nodes w e ++ givens_nodes w gs

abbrev pub param_node : ParamTree → Node
param_node p = node p.number p.place outside (parameter p)

abbrev pub params_nodes : List ParamTree → List Node
params_nodes [] = []
params_nodes (p ∷ ps) = written_nodes outside p.written ++ param_node p ∷ [] ++ params_nodes ps

-- round the body of this function
abbrev pub round_body : FunTree → Around
round_body f = body_around f.number (written_effects f.effects) f.written

abbrev pub fun_nodes : FunTree → List Node
fun_nodes f = params_nodes f.params ++ written_nodes outside f.written ++
    tree_nodes (round_body f) f.body

abbrev pub default_nodes : Written → Option Tree → List Node
default_nodes ty None = []
default_nodes ty (Some e) = tree_nodes (default_around ty) e

abbrev pub field_nodes : FieldTree → List Node
field_nodes f = written_nodes outside f.written ++ default_nodes f.written f.default

abbrev pub member_node : MemberTree → Node
member_node (field f) = node f.number f.place outside (member (field f))
member_node (method f) = node f.number f.place outside (member (method f))

abbrev pub member_parts : MemberTree → List Node
member_parts (field f) = field_nodes f
member_parts (method f) = fun_nodes f

abbrev pub members_nodes : List MemberTree → List Node
members_nodes [] = []
members_nodes (m ∷ ms) = member_parts m ++ member_node m ∷ [] ++ members_nodes ms

abbrev pub item_node : ItemTree → Node
item_node (using u) = node u.number u.place outside (item (using u))
item_node (enumeration e) = node e.number e.place outside (item (enumeration e))
item_node (class c) = node c.number c.place outside (item (class c))
item_node (function f) = node f.number f.place outside (item (function f))

abbrev pub item_parts : ItemTree → List Node
item_parts (using u) = []
item_parts (enumeration e) = []
item_parts (class c) = members_nodes c.members
item_parts (function f) = fun_nodes f

-- all nodes of a program but its own, which is the last
abbrev pub items_nodes : List ItemTree → List Node
items_nodes [] = []
items_nodes (i ∷ is) = item_parts i ++ item_node i ∷ [] ++ items_nodes is
