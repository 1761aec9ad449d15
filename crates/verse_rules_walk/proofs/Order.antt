-- But for what stands round them, the nodes are those in written post-order, and so their numbers rise.
use Rattle.std.proofs.Common.{◌≡◌, ℕ, ◌+◌, List, [], ◌∷◌, ◌++◌, map, length, Option, refl, ap, sym, ◌∙◌}
use Rattle.std.specs.Prelude.{Some, None}
use Rattle.std.specs.List.{range_with_len}
use Rattle.std.proofs.lemmas.List.{length-map}
use Rattle.std.proofs.lemmas.List.FromFn.{length-range_with_len}
use Rattle.verse_tree.specs.Tree.{Written, Writtens, no_writtens, more_writtens, Tree, tree, Shape, Trees, no_trees, more_trees, Holes}
use Rattle.verse_tree.specs.Tree.{no_holes, more_holes, Pairs, no_pairs, more_pairs, Givens, no_givens, more_givens}
use Rattle.verse_tree.specs.Tree as t
use Rattle.verse_tree.specs.ItemTree.{ParamTree, FunTree, MemberTree, field, method, ItemTree, using, enumeration, class, function}
use Rattle.verse_tree.specs.Numbering as numbering
use Rattle.verse_tree.specs.Numbers.{numbers}
use Rattle.verse_tree.specs.PostOrder.{expression, written_order, writtens_order, post_order, parts, trees_order, holes_order, pairs_order}
use Rattle.verse_tree.specs.PostOrder.{givens_order, params_order, fun_parts, default_order, field_parts, member_order, members_order}
use Rattle.verse_tree.specs.PostOrder.{item_order, items_order}
use Rattle.verse_tree.specs.PostOrder as plain
use Rattle.verse_tree.proofs.Order.{items_in_order}
use Rattle.verse_rules_least.proofs.Ordered.{in_order}
use Rattle.verse_rules_walk.specs.Around.{Around, value, callee, object, target, spawned, argument, outside, default_around, used_as}
use Rattle.verse_rules_walk.specs.Around.{freely}
use Rattle.verse_rules_walk.specs.Around.{caught, looped, repeated, armed, deferred, left_of}
use Rattle.verse_rules_walk.specs.Around.{indexed}
use Rattle.verse_rules_walk.specs.Nodes.{Node, number_of, alone, node, number_of_tree, written_nodes, writtens_nodes, tree_nodes}
use Rattle.verse_rules_walk.specs.Nodes.{shape_nodes}
use Rattle.verse_rules_walk.specs.Nodes.{trees_nodes, argument_nodes, holes_nodes, pairs_nodes, givens_nodes, param_node, params_nodes}
use Rattle.verse_rules_walk.specs.Nodes.{round_body, fun_nodes, default_nodes, field_nodes, member_node, member_parts, members_nodes}
use Rattle.verse_rules_walk.specs.Nodes.{item_node}
use Rattle.verse_rules_walk.specs.Nodes.{item_parts, items_nodes}
use Rattle.verse_rules_walk.specs.Order.{InPostOrder, NumbersInRow, NumbersRise}

alone_append : (vs ws : List Node) → map alone (vs ++ ws) ≡ map alone vs ++ map alone ws
alone_append [] ws = refl
alone_append (v ∷ vs) ws = ap (λ k. alone v ∷ k) (alone_append vs ws)

both : (vs ws : List Node) {xs ys : List plain.Node} → map alone vs ≡ xs → map alone ws ≡ ys → map alone (vs ++ ws) ≡ xs ++ ys
both vs ws {xs} {ys} e f = alone_append vs ws ∙ ap (λ k. k ++ map alone ws) e ∙ ap (λ k. xs ++ k) f

mutual
  written_alone : (w : Around) (ty : Written) → map alone (written_nodes w ty) ≡ written_order ty
  written_alone w t.Written.int = refl
  written_alone w t.Written.logic = refl
  written_alone w t.Written.char = refl
  written_alone w t.Written.string = refl
  written_alone w t.Written.void = refl
  written_alone w (t.Written.named n p x) = refl
  written_alone w (t.Written.option ty) = written_alone w ty
  written_alone w (t.Written.array ty) = written_alone w ty
  written_alone w (t.Written.task ty) = written_alone w ty
  written_alone w (t.Written.map key ty) = both (written_nodes w key) (written_nodes w ty) (written_alone w key) (written_alone w ty)
  written_alone w (t.Written.tuple tys) = writtens_alone w tys
  written_alone w (t.Written.event ty) = written_alone w ty
  written_alone w t.Written.bare_event = refl

  writtens_alone : (w : Around) (tys : Writtens) → map alone (writtens_nodes w tys) ≡ writtens_order tys
  writtens_alone w no_writtens = refl
  writtens_alone w (more_writtens ty tys) = both (written_nodes w ty) (writtens_nodes w tys) (written_alone w ty) (writtens_alone w tys)

mutual
  tree_alone : (w : Around) (e : Tree) → map alone (tree_nodes w e) ≡ post_order e
  tree_alone w (tree n p s) = both (shape_nodes n w s) (node n p w (expression s) ∷ []) (shape_alone n w s) refl

  shape_alone : (n : ℕ) (w : Around) (s : Shape) → map alone (shape_nodes n w s) ≡ parts s
  shape_alone n w (t.Shape.block ts) = trees_alone (freely w) ts
  shape_alone n w (t.Shape.defer a) = tree_alone (deferred w) a
  shape_alone n w (t.Shape.definition x a) = tree_alone (freely w) a
  shape_alone n w (t.Shape.typed x ty a) = both (written_nodes w ty) (tree_nodes (used_as (value ty) w) a) (written_alone w ty)
      (tree_alone (used_as (value ty) w) a)
  shape_alone n w (t.Shape.variable x ty a) =
      both (written_nodes w ty) (tree_nodes (used_as (value ty) w) a) (written_alone w ty) (tree_alone (used_as (value ty) w) a)
  shape_alone n w (t.Shape.assignment m a b) =
      both (tree_nodes (used_as target w) a) (tree_nodes (freely w) b) (tree_alone (used_as target w) a) (tree_alone (freely w) b)
  shape_alone n w (t.Shape.returned a) = tree_alone (freely w) a
  shape_alone n w t.Shape.returned_unit = refl
  shape_alone n w t.Shape.break_form = refl
  shape_alone n w (t.Shape.if_else ts a b) =
      both (trees_nodes (caught w) ts ++ tree_nodes (freely w) a) (tree_nodes (freely w) b)
      (both (trees_nodes (caught w) ts) (tree_nodes (freely w) a) (trees_alone (caught w) ts) (tree_alone (freely w) a))
      (tree_alone (freely w) b)
  shape_alone n w (t.Shape.if_alone ts a) =
      both (trees_nodes (caught w) ts) (tree_nodes (freely w) a) (trees_alone (caught w) ts) (tree_alone (freely w) a)
  shape_alone n w (t.Shape.chained x a b) =
      both (tree_nodes (left_of x w) a) (tree_nodes (freely w) b) (tree_alone (left_of x w) a) (tree_alone (freely w) b)
  shape_alone n w (t.Shape.compared x a b) =
      both (tree_nodes (freely w) a) (tree_nodes (freely w) b) (tree_alone (freely w) a) (tree_alone (freely w) b)
  shape_alone n w (t.Shape.negation a) = tree_alone (caught w) a
  shape_alone n w (t.Shape.minus a) = tree_alone (freely w) a
  shape_alone n w (t.Shape.call a ts) = both (tree_nodes (used_as callee w) a) (argument_nodes w (number_of_tree a) 0 ts)
      (tree_alone (used_as callee w) a) (arguments_alone w (number_of_tree a) 0 ts)
  shape_alone n w (t.Shape.index a ts) = both (tree_nodes (indexed w) a) (argument_nodes w (number_of_tree a) 0 ts)
      (tree_alone (indexed w) a) (arguments_alone w (number_of_tree a) 0 ts)
  shape_alone n w (t.Shape.member a x) = tree_alone (used_as object w) a
  shape_alone n w (t.Shape.query a) = tree_alone (freely w) a
  shape_alone n w (t.Shape.integer x) = refl
  shape_alone n w (t.Shape.character x) = refl
  shape_alone n w (t.Shape.text x) = refl
  shape_alone n w (t.Shape.holes x hs) = holes_alone (freely w) hs
  shape_alone n w t.Shape.truth = refl
  shape_alone n w t.Shape.falsehood = refl
  shape_alone n w t.Shape.this = refl
  shape_alone n w (t.Shape.name x) = refl
  shape_alone n w (t.Shape.tuple ts) = trees_alone (freely w) ts
  shape_alone n w (t.Shape.array ts) = trees_alone (freely w) ts
  shape_alone n w (t.Shape.option ts) = trees_alone (caught w) ts
  shape_alone n w (t.Shape.logic ts) = trees_alone (caught w) ts
  shape_alone n w (t.Shape.mapping ps) = pairs_alone (freely w) ps
  shape_alone n w (t.Shape.instance x gs) = givens_alone (freely w) gs
  shape_alone n w (t.Shape.event ty) = written_alone w ty
  shape_alone n w t.Shape.bare_event = refl
  shape_alone n w (t.Shape.for_form ts a) =
      both (trees_nodes (caught w) ts) (tree_nodes (repeated w) a) (trees_alone (caught w) ts) (tree_alone (repeated w) a)
  shape_alone n w (t.Shape.loop_form a) = tree_alone (looped n w) a
  shape_alone n w (t.Shape.block_form a) = tree_alone (freely w) a
  shape_alone n w (t.Shape.branch a) = tree_alone (armed w) a
  shape_alone n w (t.Shape.sync ts) = trees_alone (armed w) ts
  shape_alone n w (t.Shape.race ts) = trees_alone (armed w) ts
  shape_alone n w (t.Shape.rush ts) = trees_alone (armed w) ts
  shape_alone n w (t.Shape.cases a ts) = both (tree_nodes (freely w) a) (trees_nodes (freely w) ts) (tree_alone (freely w) a)
      (trees_alone (freely w) ts)
  shape_alone n w (t.Shape.spawn a) = tree_alone (used_as spawned w) a
  shape_alone n w (t.Shape.sleep x) = refl
  shape_alone n w t.Shape.sleep_forever = refl
  shape_alone n w (t.Shape.elements x a) = tree_alone (freely w) a
  shape_alone n w (t.Shape.entries x y a) = tree_alone (freely w) a
  shape_alone n w (t.Shape.range x a b) = both (tree_nodes (freely w) a) (tree_nodes (freely w) b) (tree_alone (freely w) a)
      (tree_alone (freely w) b)
  shape_alone n w (t.Shape.arm a b) = both (tree_nodes (freely w) a) (tree_nodes (freely w) b) (tree_alone (freely w) a)
      (tree_alone (freely w) b)
  shape_alone n w (t.Shape.integer_pattern x) = refl
  shape_alone n w (t.Shape.minus_pattern x) = refl
  shape_alone n w (t.Shape.character_pattern x) = refl
  shape_alone n w (t.Shape.text_pattern x) = refl
  shape_alone n w t.Shape.truth_pattern = refl
  shape_alone n w t.Shape.falsehood_pattern = refl
  shape_alone n w t.Shape.any_pattern = refl
  shape_alone n w (t.Shape.enum_pattern x y) = refl

  trees_alone : (w : Around) (es : Trees) → map alone (trees_nodes w es) ≡ trees_order es
  trees_alone w no_trees = refl
  trees_alone w (more_trees e es) = both (tree_nodes w e) (trees_nodes w es) (tree_alone w e) (trees_alone w es)

  arguments_alone : (w : Around) (f i : ℕ) (es : Trees) → map alone (argument_nodes w f i es) ≡ trees_order es
  arguments_alone w f i no_trees = refl
  arguments_alone w f i (more_trees e es) =
      both (tree_nodes (used_as (argument f i) w) e) (argument_nodes w f (i + 1) es) (tree_alone (used_as (argument f i) w) e)
      (arguments_alone w f (i + 1) es)

  holes_alone : (w : Around) (hs : Holes) → map alone (holes_nodes w hs) ≡ holes_order hs
  holes_alone w no_holes = refl
  holes_alone w (more_holes e bs hs) = both (tree_nodes w e) (holes_nodes w hs) (tree_alone w e) (holes_alone w hs)

  pairs_alone : (w : Around) (ps : Pairs) → map alone (pairs_nodes w ps) ≡ pairs_order ps
  pairs_alone w no_pairs = refl
  pairs_alone w (more_pairs k e ps) = both (tree_nodes w k ++ tree_nodes w e) (pairs_nodes w ps)
      (both (tree_nodes w k) (tree_nodes w e) (tree_alone w k) (tree_alone w e)) (pairs_alone w ps)

  givens_alone : (w : Around) (gs : Givens) → map alone (givens_nodes w gs) ≡ givens_order gs
  givens_alone w no_givens = refl
  givens_alone w (more_givens x e gs) = both (tree_nodes w e) (givens_nodes w gs) (tree_alone w e) (givens_alone w gs)

params_alone : (ps : List ParamTree) → map alone (params_nodes ps) ≡ params_order ps
params_alone [] = refl
params_alone (p ∷ ps) = both (written_nodes outside p.written ++ param_node p ∷ []) (params_nodes ps)
    (both (written_nodes outside p.written) (param_node p ∷ []) (written_alone outside p.written) refl) (params_alone ps)

fun_alone : (f : FunTree) → map alone (fun_nodes f) ≡ fun_parts f
fun_alone f = both (params_nodes f.params ++ written_nodes outside f.written) (tree_nodes (round_body f) f.body)
    (both (params_nodes f.params) (written_nodes outside f.written) (params_alone f.params) (written_alone outside f.written))
    (tree_alone (round_body f) f.body)

default_alone : (ty : Written) (o : Option Tree) → map alone (default_nodes ty o) ≡ default_order o
default_alone ty None = refl
default_alone ty (Some e) = tree_alone (default_around ty) e

member_alone : (m : MemberTree) → map alone (member_parts m ++ member_node m ∷ []) ≡ member_order m
member_alone (field f) = both (field_nodes f) (member_node (field f) ∷ [])
    (both (written_nodes outside f.written) (default_nodes f.written f.default) (written_alone outside f.written)
    (default_alone f.written f.default)) refl
member_alone (method f) = both (fun_nodes f) (member_node (method f) ∷ []) (fun_alone f) refl

members_alone : (ms : List MemberTree) → map alone (members_nodes ms) ≡ members_order ms
members_alone [] = refl
members_alone (m ∷ ms) = both (member_parts m ++ member_node m ∷ []) (members_nodes ms) (member_alone m) (members_alone ms)

item_alone : (i : ItemTree) → map alone (item_parts i ++ item_node i ∷ []) ≡ item_order i
item_alone (using u) = refl
item_alone (enumeration e) = refl
item_alone (class c) = both (members_nodes c.members) (item_node (class c) ∷ []) (members_alone c.members) refl
item_alone (function f) = both (fun_nodes f) (item_node (function f) ∷ []) (fun_alone f) refl

pub items_alone : InPostOrder
items_alone [] = refl
items_alone (i ∷ is) = both (item_parts i ++ item_node i ∷ []) (items_nodes is) (item_alone i) (items_alone is)

numbers_alone : (vs : List Node) → map number_of vs ≡ numbers (map alone vs)
numbers_alone [] = refl
numbers_alone (v ∷ vs) = ap (λ k. v.number ∷ k) (numbers_alone vs)

pub numbers_in_row : NumbersInRow
numbers_in_row is h =
    let count = numbering.items_nodes h.0 in
    let all : map number_of (items_nodes is) ≡ range_with_len 0 count = numbers_alone (items_nodes is) ∙ ap numbers (items_alone is) ∙
    ap (λ k. numbers (items_order k)) h.1 ∙ items_in_order h.0 0 in
    let long : length (items_nodes is) ≡ count = sym (length-map (items_nodes is) number_of) ∙ ap length all ∙
    length-range_with_len 0 count in
    all ∙ ap (range_with_len 0) (sym long)

pub numbers_rise : NumbersRise
numbers_rise is h = in_order number_of 0 (items_nodes is) (numbers_in_row is h)
