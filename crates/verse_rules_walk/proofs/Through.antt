-- To go through a program is to take its nodes in turn.
use Rattle.std.proofs.Common.{◌≡◌, ℕ, ◌+◌, List, [], ◌∷◌, ◌++◌, Option, refl, ap, sym, ◌∙◌}
use Rattle.std.specs.Prelude.{Some, None}
use Rattle.verse_tree.specs.Tree.{Written, Writtens, no_writtens, more_writtens, Tree, tree, Shape, Trees, no_trees, more_trees, Holes}
use Rattle.verse_tree.specs.Tree.{no_holes, more_holes, Pairs, no_pairs, more_pairs, Givens, no_givens, more_givens}
use Rattle.verse_tree.specs.Tree as t
use Rattle.verse_tree.specs.ItemTree.{FieldTree, ParamTree, FunTree, MemberTree, field, method, ItemTree, using, enumeration, class}
use Rattle.verse_tree.specs.ItemTree.{function}
use Rattle.verse_tree.specs.PostOrder.{expression}
use Rattle.verse_rules_least.specs.Least.{each}
use Rattle.verse_rules_walk.specs.Around.{Around, value, callee, object, target, spawned, argument, outside, default_around, used_as}
use Rattle.verse_rules_walk.specs.Around.{freely}
use Rattle.verse_rules_walk.specs.Around.{caught, looped, repeated, armed, deferred, left_of}
use Rattle.verse_rules_walk.specs.Around.{indexed}
use Rattle.verse_rules_walk.specs.Nodes.{Node, node, number_of_tree, written_nodes, writtens_nodes, tree_nodes, shape_nodes, trees_nodes}
use Rattle.verse_rules_walk.specs.Nodes.{argument_nodes, holes_nodes, pairs_nodes, givens_nodes, param_node, params_nodes, round_body}
use Rattle.verse_rules_walk.specs.Nodes.{fun_nodes}
use Rattle.verse_rules_walk.specs.Nodes.{default_nodes, field_nodes, member_node, member_parts, members_nodes, item_node, item_parts}
use Rattle.verse_rules_walk.specs.Nodes.{items_nodes}
use Rattle.verse_rules_walk.specs.Through.{through_written, through_writtens, through, through_shape, through_trees, through_arguments}
use Rattle.verse_rules_walk.specs.Through.{through_holes, through_pairs, through_givens, through_param, through_params, through_fun}
use Rattle.verse_rules_walk.specs.Through.{through_default, through_field, through_member_parts, through_member, through_members}
use Rattle.verse_rules_walk.specs.Through.{through_item_parts, through_item, through_items}

pub each_append : {N S : Type 0} (step : N → S → S) (vs ws : List N) (s : S) → each step (vs ++ ws) s ≡ each step ws (each step vs s)
each_append step [] ws s = refl
each_append step (v ∷ vs) ws s = each_append step vs ws (step v s)

module _ {S : Type 0} (step : Node → S → S) where
  -- two lists in turn
  two : (vs ws : List Node) (x y z : S) → y ≡ each step vs x → z ≡ each step ws y → z ≡ each step (vs ++ ws) x
  two vs ws x y z e f = f ∙ ap (each step ws) e ∙ sym (each_append step vs ws x)

  mutual
    pub written_in_turn : (w : Around) (ty : Written) (s : S) → through_written step w ty s ≡ each step (written_nodes w ty) s
    written_in_turn w t.Written.int s = refl
    written_in_turn w t.Written.logic s = refl
    written_in_turn w t.Written.char s = refl
    written_in_turn w t.Written.string s = refl
    written_in_turn w t.Written.void s = refl
    written_in_turn w (t.Written.named n p x) s = refl
    written_in_turn w (t.Written.option ty) s = written_in_turn w ty s
    written_in_turn w (t.Written.array ty) s = written_in_turn w ty s
    written_in_turn w (t.Written.task ty) s = written_in_turn w ty s
    written_in_turn w (t.Written.map key ty) s =
        two (written_nodes w key) (written_nodes w ty) s (through_written step w key s)
        (through_written step w ty (through_written step w key s)) (written_in_turn w key s)
        (written_in_turn w ty (through_written step w key s))
    written_in_turn w (t.Written.tuple tys) s = writtens_in_turn w tys s
    written_in_turn w (t.Written.event ty) s = written_in_turn w ty s
    written_in_turn w t.Written.bare_event s = refl

    writtens_in_turn : (w : Around) (tys : Writtens) (s : S) → through_writtens step w tys s ≡ each step (writtens_nodes w tys) s
    writtens_in_turn w no_writtens s = refl
    writtens_in_turn w (more_writtens ty tys) s =
        two (written_nodes w ty) (writtens_nodes w tys) s (through_written step w ty s)
        (through_writtens step w tys (through_written step w ty s)) (written_in_turn w ty s)
        (writtens_in_turn w tys (through_written step w ty s))

  mutual
    pub through_nodes : (w : Around) (e : Tree) (s : S) → through step w e s ≡ each step (tree_nodes w e) s
    through_nodes w (tree n p x) s = two (shape_nodes n w x) (node n p w (expression x) ∷ []) s (through_shape step n w x s)
        (step (node n p w (expression x)) (through_shape step n w x s)) (shape_in_turn n w x s) refl

    shape_in_turn : (n : ℕ) (w : Around) (x : Shape) (s : S) → through_shape step n w x s ≡ each step (shape_nodes n w x) s
    shape_in_turn n w (t.Shape.block ts) s = trees_in_turn (freely w) ts s
    shape_in_turn n w (t.Shape.defer a) s = through_nodes (deferred w) a s
    shape_in_turn n w (t.Shape.definition x a) s = through_nodes (freely w) a s
    shape_in_turn n w (t.Shape.typed x ty a) s =
        two (written_nodes w ty) (tree_nodes (used_as (value ty) w) a) s (through_written step w ty s)
        (through step (used_as (value ty) w) a (through_written step w ty s)) (written_in_turn w ty s)
        (through_nodes (used_as (value ty) w) a (through_written step w ty s))
    shape_in_turn n w (t.Shape.variable x ty a) s =
        two (written_nodes w ty) (tree_nodes (used_as (value ty) w) a) s (through_written step w ty s)
        (through step (used_as (value ty) w) a (through_written step w ty s)) (written_in_turn w ty s)
        (through_nodes (used_as (value ty) w) a (through_written step w ty s))
    shape_in_turn n w (t.Shape.assignment m a b) s =
        two (tree_nodes (used_as target w) a) (tree_nodes (freely w) b) s (through step (used_as target w) a s)
        (through step (freely w) b (through step (used_as target w) a s)) (through_nodes (used_as target w) a s)
        (through_nodes (freely w) b (through step (used_as target w) a s))
    shape_in_turn n w (t.Shape.returned a) s = through_nodes (freely w) a s
    shape_in_turn n w t.Shape.returned_unit s = refl
    shape_in_turn n w t.Shape.break_form s = refl
    shape_in_turn n w (t.Shape.if_else ts a b) s =
        two (trees_nodes (caught w) ts ++ tree_nodes (freely w) a) (tree_nodes (freely w) b) s
        (through step (freely w) a (through_trees step (caught w) ts s))
        (through step (freely w) b (through step (freely w) a (through_trees step (caught w) ts s)))
        (two (trees_nodes (caught w) ts) (tree_nodes (freely w) a) s (through_trees step (caught w) ts s)
        (through step (freely w) a (through_trees step (caught w) ts s)) (trees_in_turn (caught w) ts s)
        (through_nodes (freely w) a (through_trees step (caught w) ts s)))
        (through_nodes (freely w) b (through step (freely w) a (through_trees step (caught w) ts s)))
    shape_in_turn n w (t.Shape.if_alone ts a) s =
        two (trees_nodes (caught w) ts) (tree_nodes (freely w) a) s (through_trees step (caught w) ts s)
        (through step (freely w) a (through_trees step (caught w) ts s)) (trees_in_turn (caught w) ts s)
        (through_nodes (freely w) a (through_trees step (caught w) ts s))
    shape_in_turn n w (t.Shape.chained x a b) s =
        two (tree_nodes (left_of x w) a) (tree_nodes (freely w) b) s (through step (left_of x w) a s)
        (through step (freely w) b (through step (left_of x w) a s)) (through_nodes (left_of x w) a s)
        (through_nodes (freely w) b (through step (left_of x w) a s))
    shape_in_turn n w (t.Shape.compared x a b) s =
        two (tree_nodes (freely w) a) (tree_nodes (freely w) b) s (through step (freely w) a s)
        (through step (freely w) b (through step (freely w) a s)) (through_nodes (freely w) a s)
        (through_nodes (freely w) b (through step (freely w) a s))
    shape_in_turn n w (t.Shape.negation a) s = through_nodes (caught w) a s
    shape_in_turn n w (t.Shape.minus a) s = through_nodes (freely w) a s
    shape_in_turn n w (t.Shape.call a ts) s =
        two (tree_nodes (used_as callee w) a) (argument_nodes w (number_of_tree a) 0 ts) s (through step (used_as callee w) a s)
        (through_arguments step w (number_of_tree a) 0 ts (through step (used_as callee w) a s)) (through_nodes (used_as callee w) a s)
        (arguments_in_turn w (number_of_tree a) 0 ts (through step (used_as callee w) a s))
    shape_in_turn n w (t.Shape.index a ts) s =
        two (tree_nodes (indexed w) a) (argument_nodes w (number_of_tree a) 0 ts) s (through step (indexed w) a s)
        (through_arguments step w (number_of_tree a) 0 ts (through step (indexed w) a s)) (through_nodes (indexed w) a s)
        (arguments_in_turn w (number_of_tree a) 0 ts (through step (indexed w) a s))
    shape_in_turn n w (t.Shape.member a x) s = through_nodes (used_as object w) a s
    shape_in_turn n w (t.Shape.query a) s = through_nodes (freely w) a s
    shape_in_turn n w (t.Shape.integer x) s = refl
    shape_in_turn n w (t.Shape.character x) s = refl
    shape_in_turn n w (t.Shape.text x) s = refl
    shape_in_turn n w (t.Shape.holes x hs) s = holes_in_turn (freely w) hs s
    shape_in_turn n w t.Shape.truth s = refl
    shape_in_turn n w t.Shape.falsehood s = refl
    shape_in_turn n w t.Shape.this s = refl
    shape_in_turn n w (t.Shape.name x) s = refl
    shape_in_turn n w (t.Shape.tuple ts) s = trees_in_turn (freely w) ts s
    shape_in_turn n w (t.Shape.array ts) s = trees_in_turn (freely w) ts s
    shape_in_turn n w (t.Shape.option ts) s = trees_in_turn (caught w) ts s
    shape_in_turn n w (t.Shape.logic ts) s = trees_in_turn (caught w) ts s
    shape_in_turn n w (t.Shape.mapping ps) s = pairs_in_turn (freely w) ps s
    shape_in_turn n w (t.Shape.instance x gs) s = givens_in_turn (freely w) gs s
    shape_in_turn n w (t.Shape.event ty) s = written_in_turn w ty s
    shape_in_turn n w t.Shape.bare_event s = refl
    shape_in_turn n w (t.Shape.for_form ts a) s =
        two (trees_nodes (caught w) ts) (tree_nodes (repeated w) a) s (through_trees step (caught w) ts s)
        (through step (repeated w) a (through_trees step (caught w) ts s)) (trees_in_turn (caught w) ts s)
        (through_nodes (repeated w) a (through_trees step (caught w) ts s))
    shape_in_turn n w (t.Shape.loop_form a) s = through_nodes (looped n w) a s
    shape_in_turn n w (t.Shape.block_form a) s = through_nodes (freely w) a s
    shape_in_turn n w (t.Shape.branch a) s = through_nodes (armed w) a s
    shape_in_turn n w (t.Shape.sync ts) s = trees_in_turn (armed w) ts s
    shape_in_turn n w (t.Shape.race ts) s = trees_in_turn (armed w) ts s
    shape_in_turn n w (t.Shape.rush ts) s = trees_in_turn (armed w) ts s
    shape_in_turn n w (t.Shape.cases a ts) s =
        two (tree_nodes (freely w) a) (trees_nodes (freely w) ts) s (through step (freely w) a s)
        (through_trees step (freely w) ts (through step (freely w) a s)) (through_nodes (freely w) a s)
        (trees_in_turn (freely w) ts (through step (freely w) a s))
    shape_in_turn n w (t.Shape.spawn a) s = through_nodes (used_as spawned w) a s
    shape_in_turn n w (t.Shape.sleep x) s = refl
    shape_in_turn n w t.Shape.sleep_forever s = refl
    shape_in_turn n w (t.Shape.elements x a) s = through_nodes (freely w) a s
    shape_in_turn n w (t.Shape.entries x y a) s = through_nodes (freely w) a s
    shape_in_turn n w (t.Shape.range x a b) s =
        two (tree_nodes (freely w) a) (tree_nodes (freely w) b) s (through step (freely w) a s)
        (through step (freely w) b (through step (freely w) a s)) (through_nodes (freely w) a s)
        (through_nodes (freely w) b (through step (freely w) a s))
    shape_in_turn n w (t.Shape.arm a b) s = two (tree_nodes (freely w) a) (tree_nodes (freely w) b) s (through step (freely w) a s)
        (through step (freely w) b (through step (freely w) a s)) (through_nodes (freely w) a s)
        (through_nodes (freely w) b (through step (freely w) a s))
    shape_in_turn n w (t.Shape.integer_pattern x) s = refl
    shape_in_turn n w (t.Shape.minus_pattern x) s = refl
    shape_in_turn n w (t.Shape.character_pattern x) s = refl
    shape_in_turn n w (t.Shape.text_pattern x) s = refl
    shape_in_turn n w t.Shape.truth_pattern s = refl
    shape_in_turn n w t.Shape.falsehood_pattern s = refl
    shape_in_turn n w t.Shape.any_pattern s = refl
    shape_in_turn n w (t.Shape.enum_pattern x y) s = refl

    trees_in_turn : (w : Around) (es : Trees) (s : S) → through_trees step w es s ≡ each step (trees_nodes w es) s
    trees_in_turn w no_trees s = refl
    trees_in_turn w (more_trees e es) s = two (tree_nodes w e) (trees_nodes w es) s (through step w e s)
        (through_trees step w es (through step w e s)) (through_nodes w e s) (trees_in_turn w es (through step w e s))

    arguments_in_turn : (w : Around) (f i : ℕ) (es : Trees) (s : S) →
        through_arguments step w f i es s ≡ each step (argument_nodes w f i es) s
    arguments_in_turn w f i no_trees s = refl
    arguments_in_turn w f i (more_trees e es) s =
        two (tree_nodes (used_as (argument f i) w) e) (argument_nodes w f (i + 1) es) s (through step (used_as (argument f i) w) e s)
        (through_arguments step w f (i + 1) es (through step (used_as (argument f i) w) e s)) (through_nodes (used_as (argument f i) w) e s)
        (arguments_in_turn w f (i + 1) es (through step (used_as (argument f i) w) e s))

    holes_in_turn : (w : Around) (hs : Holes) (s : S) → through_holes step w hs s ≡ each step (holes_nodes w hs) s
    holes_in_turn w no_holes s = refl
    holes_in_turn w (more_holes e bs hs) s =
        two (tree_nodes w e) (holes_nodes w hs) s (through step w e s) (through_holes step w hs (through step w e s)) (through_nodes w e s)
        (holes_in_turn w hs (through step w e s))

    pairs_in_turn : (w : Around) (ps : Pairs) (s : S) → through_pairs step w ps s ≡ each step (pairs_nodes w ps) s
    pairs_in_turn w no_pairs s = refl
    pairs_in_turn w (more_pairs k e ps) s = two (tree_nodes w k ++ tree_nodes w e) (pairs_nodes w ps) s
        (through step w e (through step w k s)) (through_pairs step w ps (through step w e (through step w k s)))
        (two (tree_nodes w k) (tree_nodes w e) s (through step w k s) (through step w e (through step w k s)) (through_nodes w k s)
        (through_nodes w e (through step w k s)))
        (pairs_in_turn w ps (through step w e (through step w k s)))

    givens_in_turn : (w : Around) (gs : Givens) (s : S) → through_givens step w gs s ≡ each step (givens_nodes w gs) s
    givens_in_turn w no_givens s = refl
    givens_in_turn w (more_givens x e gs) s =
        two (tree_nodes w e) (givens_nodes w gs) s (through step w e s) (through_givens step w gs (through step w e s))
        (through_nodes w e s) (givens_in_turn w gs (through step w e s))

  params_in_turn : (ps : List ParamTree) (s : S) → through_params step ps s ≡ each step (params_nodes ps) s
  params_in_turn [] s = refl
  params_in_turn (p ∷ ps) s = two (written_nodes outside p.written ++ param_node p ∷ []) (params_nodes ps) s (through_param step p s)
      (through_params step ps (through_param step p s))
      (two (written_nodes outside p.written) (param_node p ∷ []) s (through_written step outside p.written s) (through_param step p s)
      (written_in_turn outside p.written s) refl)
      (params_in_turn ps (through_param step p s))

  fun_in_turn : (f : FunTree) (s : S) → through_fun step f s ≡ each step (fun_nodes f) s
  fun_in_turn f s =
      let r = through_params step f.params s in
      let q = through_written step outside f.written r in
      two (params_nodes f.params ++ written_nodes outside f.written) (tree_nodes (round_body f) f.body) s q
      (through step (round_body f) f.body q)
      (two (params_nodes f.params) (written_nodes outside f.written) s r q (params_in_turn f.params s)
      (written_in_turn outside f.written r))
      (through_nodes (round_body f) f.body q)

  default_in_turn : (ty : Written) (o : Option Tree) (s : S) → through_default step ty o s ≡ each step (default_nodes ty o) s
  default_in_turn ty None s = refl
  default_in_turn ty (Some e) s = through_nodes (default_around ty) e s

  field_in_turn : (f : FieldTree) (s : S) → through_field step f s ≡ each step (field_nodes f) s
  field_in_turn f s =
      let q = through_written step outside f.written s in
      two (written_nodes outside f.written) (default_nodes f.written f.default) s q (through_default step f.written f.default q)
      (written_in_turn outside f.written s) (default_in_turn f.written f.default q)

  member_parts_in_turn : (m : MemberTree) (s : S) → through_member_parts step m s ≡ each step (member_parts m) s
  member_parts_in_turn (field f) s = field_in_turn f s
  member_parts_in_turn (method f) s = fun_in_turn f s

  members_in_turn : (ms : List MemberTree) (s : S) → through_members step ms s ≡ each step (members_nodes ms) s
  members_in_turn [] s = refl
  members_in_turn (m ∷ ms) s = two (member_parts m ++ member_node m ∷ []) (members_nodes ms) s (through_member step m s)
      (through_members step ms (through_member step m s))
      (two (member_parts m) (member_node m ∷ []) s (through_member_parts step m s) (through_member step m s)
      (member_parts_in_turn m s) refl)
      (members_in_turn ms (through_member step m s))

  item_parts_in_turn : (i : ItemTree) (s : S) → through_item_parts step i s ≡ each step (item_parts i) s
  item_parts_in_turn (using u) s = refl
  item_parts_in_turn (enumeration e) s = refl
  item_parts_in_turn (class c) s = members_in_turn c.members s
  item_parts_in_turn (function f) s = fun_in_turn f s

  pub through_items_nodes : (is : List ItemTree) (s : S) → through_items step is s ≡ each step (items_nodes is) s
  through_items_nodes [] s = refl
  through_items_nodes (i ∷ is) s = two (item_parts i ++ item_node i ∷ []) (items_nodes is) s (through_item step i s)
      (through_items step is (through_item step i s))
      (two (item_parts i) (item_node i ∷ []) s (through_item_parts step i s) (through_item step i s) (item_parts_in_turn i s) refl)
      (through_items_nodes is (through_item step i s))
