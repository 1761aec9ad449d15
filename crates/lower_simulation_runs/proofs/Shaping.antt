-- No condition of a parsed program defers: where its trees have the shapes of parsed ones.
use Rattle.std.proofs.Common.{◌≡◌, List, [], ◌∷◌, ◌++◌, Option, Some, None, true, false, refl}
use Rattle.verse_tree.specs.Tree.{Written, Writtens, no_writtens, more_writtens, Tree, tree, Shape, Trees, no_trees, more_trees}
use Rattle.verse_tree.specs.Tree.{Holes, no_holes, more_holes, Givens, no_givens, more_givens}
use Rattle.verse_tree.specs.Tree as t
use Rattle.verse_tree.specs.ItemTree.{ParamTree, FunTree, MemberTree, field, method, ItemTree, using, enumeration, class, function}
use Rattle.verse_tree.specs.PostOrder.{What, expression, item, member, parameter, type_name, program, Node, node_at, post_order, parts}
use Rattle.verse_tree.specs.PostOrder.{trees_order, holes_order, pairs_order, givens_order, written_order, writtens_order, default_order}
use Rattle.verse_tree.specs.PostOrder.{param_order, params_order, fun_parts, field_parts, member_order, members_order, item_order}
use Rattle.verse_tree.specs.PostOrder.{items_order}
use Rattle.verse_tree.specs.Shapes.{Stand, as_block, as_part, as_statement, as_body, as_expression, as_generator, as_clause, as_arm}
use Rattle.verse_tree.specs.Shapes.{as_pattern}
use Rattle.verse_tree.specs.Shapes.{Shaped, PartsShaped, AllShaped, SomeShaped, TwoShaped, ClausesShaped, AllHoles, SomeHoles}
use Rattle.verse_tree.specs.Shapes.{PairsShaped, GivensShaped, AllOf, DefaultShaped, FunShaped, MemberShaped}
use Rattle.verse_tree.specs.Shapes.{ItemShaped, ItemsShaped}
use Rattle.verse_meaning.specs.Programs.{Program}
use Rattle.verse_meaning.specs.Evaluating.{none_left}
use Rattle.lower_code.specs.Lowering.{any_defer}
use Rattle.lower_bounds.proofs.Lists.{Each, each_joined}
use Rattle.lower_simulation_runs.specs.Programs.{ArmsStand, WhatStands, NodeStands}

-- no condition defers
abbrev pub ShapeCalm : Shape → Type 0
ShapeCalm (t.Shape.if_else cs b c) = any_defer cs ≡ false
ShapeCalm (t.Shape.if_alone cs b) = any_defer cs ≡ false
ShapeCalm (t.Shape.option cs) = any_defer cs ≡ false
ShapeCalm (t.Shape.logic cs) = any_defer cs ≡ false
ShapeCalm s = Unit {0}

abbrev pub WhatCalm : What → Type 0
WhatCalm (expression s) = ShapeCalm s
WhatCalm other = Unit {0}

abbrev pub NodeCalm : Node → Type 0
NodeCalm v = WhatCalm v.what

no_defer : (b : Tree) (cs : Trees) → Shaped as_statement b → any_defer cs ≡ false → any_defer (more_trees b cs) ≡ false
no_defer (tree n pl (t.Shape.defer b)) cs h k = never h.0
  where
    never : {A : Type 0} → false ≡ true → A
    never e = cc
no_defer (tree n pl s) cs h k = k

all_quiet : (cs : Trees) → AllShaped as_statement cs → any_defer cs ≡ false
all_quiet no_trees h = refl
all_quiet (more_trees b cs) h = no_defer b cs h.0 (all_quiet cs h.1)

some_quiet : (cs : Trees) → SomeShaped as_statement cs → any_defer cs ≡ false
some_quiet no_trees h = absurd h
some_quiet (more_trees b cs) h = no_defer b cs h.0 (all_quiet cs h.1)

own_calm : (s : Shape) → PartsShaped s → ShapeCalm s
own_calm (t.Shape.if_else cs b c) h = some_quiet cs h.0
own_calm (t.Shape.if_alone cs b) h = some_quiet cs h.0
own_calm (t.Shape.option cs) h = some_quiet cs h
own_calm (t.Shape.logic cs) h = some_quiet cs h
own_calm s h = tt

mutual
  written_calm : (w : Written) → Each NodeCalm (written_order w)
  written_calm t.Written.int = tt
  written_calm t.Written.logic = tt
  written_calm t.Written.char = tt
  written_calm t.Written.string = tt
  written_calm t.Written.void = tt
  written_calm (t.Written.named n pl x) = (tt, tt)
  written_calm (t.Written.option w) = written_calm w
  written_calm (t.Written.array w) = written_calm w
  written_calm (t.Written.task w) = written_calm w
  written_calm (t.Written.map k w) = each_joined NodeCalm (written_order k) (written_order w) (written_calm k) (written_calm w)
  written_calm (t.Written.tuple ws) = writtens_calm ws
  written_calm (t.Written.event w) = written_calm w
  written_calm t.Written.bare_event = tt

  writtens_calm : (ws : Writtens) → Each NodeCalm (writtens_order ws)
  writtens_calm no_writtens = tt
  writtens_calm (more_writtens w ws) = each_joined NodeCalm (written_order w) (writtens_order ws) (written_calm w) (writtens_calm ws)

mutual
  tree_calm : (st : Stand) (b : Tree) → Shaped st b → Each NodeCalm (post_order b)
  tree_calm st (tree n pl s) h = each_joined NodeCalm (parts s) (node_at n pl (expression s)) (parts_calm s h.1) (own_calm s h.1, tt)

  parts_calm : (s : Shape) → PartsShaped s → Each NodeCalm (parts s)
  parts_calm (t.Shape.block cs) h = all_calm as_part cs h
  parts_calm (t.Shape.defer b) h = tree_calm as_block b h
  parts_calm (t.Shape.definition x b) h = tree_calm as_expression b h
  parts_calm (t.Shape.typed x w b) h = each_joined NodeCalm (written_order w) (post_order b)
      (written_calm w) (tree_calm as_expression b h.1)
  parts_calm (t.Shape.variable x w b) h = each_joined NodeCalm (written_order w) (post_order b)
      (written_calm w) (tree_calm as_expression b h.1)
  parts_calm (t.Shape.assignment x b c) h = each_joined NodeCalm (post_order b) (post_order c)
      (tree_calm as_expression b h.0) (tree_calm as_expression c h.1)
  parts_calm (t.Shape.returned b) h = tree_calm as_expression b h
  parts_calm (t.Shape.if_else cs b c) h = each_joined NodeCalm (trees_order cs ++ post_order b) (post_order c)
      (each_joined NodeCalm (trees_order cs) (post_order b) (some_calm as_statement cs h.0) (tree_calm as_body b h.1))
      (tree_calm as_body c h.2)
  parts_calm (t.Shape.if_alone cs b) h = each_joined NodeCalm (trees_order cs) (post_order b)
      (some_calm as_statement cs h.0) (tree_calm as_body b h.1)
  parts_calm (t.Shape.chained x b c) h = each_joined NodeCalm (post_order b) (post_order c)
      (tree_calm as_expression b h.0) (tree_calm as_expression c h.1)
  parts_calm (t.Shape.compared x b c) h = each_joined NodeCalm (post_order b) (post_order c)
      (tree_calm as_expression b h.0) (tree_calm as_expression c h.1)
  parts_calm (t.Shape.negation b) h = tree_calm as_expression b h
  parts_calm (t.Shape.minus b) h = tree_calm as_expression b h
  parts_calm (t.Shape.call b ts) h = each_joined NodeCalm (post_order b) (trees_order ts)
      (tree_calm as_expression b h.0) (all_calm as_expression ts h.1)
  parts_calm (t.Shape.index b ts) h = each_joined NodeCalm (post_order b) (trees_order ts)
      (tree_calm as_expression b h.0) (all_calm as_expression ts h.1)
  parts_calm (t.Shape.member b x) h = tree_calm as_expression b h
  parts_calm (t.Shape.query b) h = tree_calm as_expression b h
  parts_calm (t.Shape.holes bs hs) h = some_holes_calm hs h
  parts_calm (t.Shape.tuple ts) h = two_calm ts h
  parts_calm (t.Shape.array ts) h = all_calm as_expression ts h
  parts_calm (t.Shape.option ts) h = some_calm as_statement ts h
  parts_calm (t.Shape.logic ts) h = some_calm as_statement ts h
  parts_calm (t.Shape.mapping ps) h = pairs_calm ps h
  parts_calm (t.Shape.instance x gs) h = givens_calm gs h
  parts_calm (t.Shape.event w) h = written_calm w
  parts_calm (t.Shape.for_form cs b) h = each_joined NodeCalm (trees_order cs) (post_order b)
      (clauses_calm cs h.0) (tree_calm as_block b h.1)
  parts_calm (t.Shape.loop_form b) h = tree_calm as_block b h
  parts_calm (t.Shape.block_form b) h = tree_calm as_block b h
  parts_calm (t.Shape.branch b) h = tree_calm as_block b h
  parts_calm (t.Shape.sync ts) h = all_calm as_statement ts h
  parts_calm (t.Shape.race ts) h = all_calm as_statement ts h
  parts_calm (t.Shape.rush ts) h = all_calm as_statement ts h
  parts_calm (t.Shape.cases b ts) h = each_joined NodeCalm (post_order b) (trees_order ts)
      (tree_calm as_expression b h.0) (some_calm as_arm ts h.1)
  parts_calm (t.Shape.spawn b) h = tree_calm as_expression b h
  parts_calm (t.Shape.elements x b) h = tree_calm as_expression b h
  parts_calm (t.Shape.entries x y b) h = tree_calm as_expression b h
  parts_calm (t.Shape.range x b c) h = each_joined NodeCalm (post_order b) (post_order c)
      (tree_calm as_expression b h.0) (tree_calm as_expression c h.1)
  parts_calm (t.Shape.arm a b) h = each_joined NodeCalm (post_order a) (post_order b)
      (tree_calm as_pattern a h.0) (tree_calm as_body b h.1)
  parts_calm s h = tt

  all_calm : (st : Stand) (ts : Trees) → AllShaped st ts → Each NodeCalm (trees_order ts)
  all_calm st no_trees h = tt
  all_calm st (more_trees b ts) h = each_joined NodeCalm (post_order b) (trees_order ts) (tree_calm st b h.0) (all_calm st ts h.1)

  some_calm : (st : Stand) (ts : Trees) → SomeShaped st ts → Each NodeCalm (trees_order ts)
  some_calm st no_trees h = absurd h
  some_calm st (more_trees b ts) h = each_joined NodeCalm (post_order b) (trees_order ts) (tree_calm st b h.0) (all_calm st ts h.1)

  two_calm : (ts : Trees) → TwoShaped ts → Each NodeCalm (trees_order ts)
  two_calm no_trees h = absurd h
  two_calm (more_trees b ts) h =
      each_joined NodeCalm (post_order b) (trees_order ts) (tree_calm as_expression b h.0) (some_calm as_expression ts h.1)

  clauses_calm : (ts : Trees) → ClausesShaped ts → Each NodeCalm (trees_order ts)
  clauses_calm no_trees h = absurd h
  clauses_calm (more_trees b ts) h =
      each_joined NodeCalm (post_order b) (trees_order ts) (tree_calm as_generator b h.0) (all_calm as_clause ts h.1)

  holes_calm : (hs : Holes) → AllHoles hs → Each NodeCalm (holes_order hs)
  holes_calm no_holes h = tt
  holes_calm (more_holes b bs hs) h =
      each_joined NodeCalm (post_order b) (holes_order hs) (tree_calm as_expression b h.0) (holes_calm hs h.1)

  some_holes_calm : (hs : Holes) → SomeHoles hs → Each NodeCalm (holes_order hs)
  some_holes_calm no_holes h = absurd h
  some_holes_calm (more_holes b bs hs) h =
      each_joined NodeCalm (post_order b) (holes_order hs) (tree_calm as_expression b h.0) (holes_calm hs h.1)

  pairs_calm : (ps : t.Pairs) → PairsShaped ps → Each NodeCalm (pairs_order ps)
  pairs_calm t.Pairs.no_pairs h = tt
  pairs_calm (t.Pairs.more_pairs b c ps) h = each_joined NodeCalm (post_order b ++ post_order c) (pairs_order ps)
      (each_joined NodeCalm (post_order b) (post_order c) (tree_calm as_expression b h.0) (tree_calm as_expression c h.1))
      (pairs_calm ps h.2)

  givens_calm : (gs : Givens) → GivensShaped gs → Each NodeCalm (givens_order gs)
  givens_calm no_givens h = tt
  givens_calm (more_givens x b gs) h =
      each_joined NodeCalm (post_order b) (givens_order gs) (tree_calm as_expression b h.0) (givens_calm gs h.1)

-- ---- items

default_calm : (d : Option Tree) → DefaultShaped d → Each NodeCalm (default_order d)
default_calm None h = tt
default_calm (Some b) h = tree_calm as_expression b h

params_calm : (xs : List ParamTree) → Each NodeCalm (params_order xs)
params_calm [] = tt
params_calm (x ∷ xs) = each_joined NodeCalm (param_order x) (params_order xs)
    (each_joined NodeCalm (written_order x.written) (node_at x.number x.place (parameter x)) (written_calm x.written) (tt, tt))
    (params_calm xs)

fun_calm : (f : FunTree) → FunShaped f → Each NodeCalm (fun_parts f)
fun_calm f h = each_joined NodeCalm (params_order f.params ++ written_order f.written) (post_order f.body)
    (each_joined NodeCalm (params_order f.params) (written_order f.written) (params_calm f.params) (written_calm f.written))
    (tree_calm as_body f.body h.2)

member_calm : (m : MemberTree) → MemberShaped m → Each NodeCalm (member_order m)
member_calm (field f) h = each_joined NodeCalm (field_parts f) (node_at f.number f.place (member (field f)))
    (each_joined NodeCalm (written_order f.written) (default_order f.default) (written_calm f.written) (default_calm f.default h.1))
    (tt, tt)
member_calm (method f) h = each_joined NodeCalm (fun_parts f) (node_at f.number f.place (member (method f))) (fun_calm f h) (tt, tt)

members_calm : (ms : List MemberTree) → AllOf MemberShaped ms → Each NodeCalm (members_order ms)
members_calm [] h = tt
members_calm (m ∷ ms) h = each_joined NodeCalm (member_order m) (members_order ms) (member_calm m h.0) (members_calm ms h.1)

item_calm : (i : ItemTree) → ItemShaped i → Each NodeCalm (item_order i)
item_calm (using u) h = (tt, tt)
item_calm (enumeration e) h = (tt, tt)
item_calm (class c) h = each_joined NodeCalm (members_order c.members) (node_at c.number c.place (item (class c)))
    (members_calm c.members h) (tt, tt)
item_calm (function f) h = each_joined NodeCalm (fun_parts f) (node_at f.number f.place (item (function f))) (fun_calm f h) (tt, tt)

pub items_calm : (is : List ItemTree) → ItemsShaped is → Each NodeCalm (items_order is)
items_calm [] h = tt
items_calm (i ∷ is) h = each_joined NodeCalm (item_order i) (items_order is) (item_calm i h.0) (items_calm is h.1)

-- ---- what is left to the rules

module _ (p : Program) where
  -- a group has an arm, and patterns stand for values
  abbrev pub ShapeSettled : Shape → Type 0
  ShapeSettled (t.Shape.sync ts) = none_left ts ≡ false
  ShapeSettled (t.Shape.race ts) = none_left ts ≡ false
  ShapeSettled (t.Shape.rush ts) = none_left ts ≡ false
  ShapeSettled (t.Shape.cases b ts) = ArmsStand p ts
  ShapeSettled s = Unit {0}

  abbrev pub WhatSettled : What → Type 0
  WhatSettled (expression s) = ShapeSettled s
  WhatSettled other = Unit {0}

  abbrev pub NodeSettled : Node → Type 0
  NodeSettled v = WhatSettled v.what

  shape_stands : (s : Shape) → ShapeCalm s → ShapeSettled s → WhatStands p (expression s)
  shape_stands (t.Shape.if_else cs b c) h k = h
  shape_stands (t.Shape.if_alone cs b) h k = h
  shape_stands (t.Shape.option cs) h k = h
  shape_stands (t.Shape.logic cs) h k = h
  shape_stands (t.Shape.sync ts) h k = k
  shape_stands (t.Shape.race ts) h k = k
  shape_stands (t.Shape.rush ts) h k = k
  shape_stands (t.Shape.cases b ts) h k = k
  shape_stands s h k = tt

  what_stands : (x : What) → WhatCalm x → WhatSettled x → WhatStands p x
  what_stands (expression s) h k = shape_stands s h k
  what_stands (program is) h k = tt
  what_stands (item i) h k = tt
  what_stands (member m) h k = tt
  what_stands (parameter x) h k = tt
  what_stands (type_name x) h k = tt

  both_stand : (vs : List Node) → Each NodeCalm vs → Each NodeSettled vs → Each (NodeStands p) vs
  both_stand [] h k = tt
  both_stand (v ∷ vs) h k = (what_stands v.what h.0 k.0, both_stand vs h.1 k.1)

  -- the nodes of a parsed program have what is asked of them, where the rules settle the rest
  pub shaped_stand : (is : List ItemTree) → ItemsShaped is → Each NodeSettled (items_order is) → Each (NodeStands p) (items_order is)
  shaped_stand is h k = both_stand (items_order is) (items_calm is h) k
