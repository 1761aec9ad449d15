-- What a step at each node in turn makes of a state: the recursion of Nodes with a state in the
-- place of the list.
use Rattle.std.specs.Prelude.{ℕ, ◌+◌, List, [], ◌∷◌, Option, Some, None}
use Rattle.verse_tree.specs.Tree.{Bytes, Written, Writtens, no_writtens, more_writtens, Tree, tree}
use Rattle.verse_tree.specs.Tree.{Shape, Trees, no_trees, more_trees}
use Rattle.verse_tree.specs.Tree.{Holes, no_holes, more_holes, Pairs, no_pairs, more_pairs, Givens}
use Rattle.verse_tree.specs.Tree.{no_givens, more_givens}
use Rattle.verse_tree.specs.Tree as t
use Rattle.verse_tree.specs.ItemTree.{FieldTree, ParamTree, FunTree, MemberTree, field, method}
use Rattle.verse_tree.specs.ItemTree.{ItemTree, using, enumeration, class}
use Rattle.verse_tree.specs.ItemTree.{function}
use Rattle.verse_tree.specs.PostOrder.{type_name, expression}
use Rattle.verse_rules_walk.specs.Around.{Around, value, callee, object, target, spawned, argument}
use Rattle.verse_rules_walk.specs.Around.{outside, default_around, used_as, freely}
use Rattle.verse_rules_walk.specs.Around.{caught, looped, repeated, armed, deferred, left_of}
use Rattle.verse_rules_walk.specs.Around.{indexed}
use Rattle.verse_rules_walk.specs.Nodes.{Node, node, number_of_tree, round_body, param_node}
use Rattle.verse_rules_walk.specs.Nodes.{member_node, item_node}

module _ {S : Type 0} (step : Node → S → S) where
  abbrev mutual
    pub through_written : Around → Written → S → S
    through_written w t.Written.int s = s
    through_written w t.Written.logic s = s
    through_written w t.Written.char s = s
    through_written w t.Written.string s = s
    through_written w t.Written.void s = s
    through_written w (t.Written.named n p x) s = step (node n p w (type_name x)) s
    through_written w (t.Written.option ty) s = through_written w ty s
    through_written w (t.Written.array ty) s = through_written w ty s
    through_written w (t.Written.task ty) s = through_written w ty s
    through_written w (t.Written.map key ty) s = through_written w ty (through_written w key s)
    through_written w (t.Written.tuple tys) s = through_writtens w tys s
    through_written w (t.Written.event ty) s = through_written w ty s
    through_written w t.Written.bare_event s = s

    pub through_writtens : Around → Writtens → S → S
    through_writtens w no_writtens s = s
    through_writtens w (more_writtens ty tys) s = through_writtens w tys (through_written w ty s)

  abbrev mutual
    pub through : Around → Tree → S → S
    through w (tree n p x) s = step (node n p w (expression x)) (through_shape n w x s)

    pub through_shape : ℕ → Around → Shape → S → S
    through_shape n w (t.Shape.block ts) s = through_trees (freely w) ts s
    through_shape n w (t.Shape.defer a) s = through (deferred w) a s
    through_shape n w (t.Shape.definition x a) s = through (freely w) a s
    through_shape n w (t.Shape.typed x ty a) s =
        through (used_as (value ty) w) a (through_written w ty s)
    through_shape n w (t.Shape.variable x ty a) s =
        through (used_as (value ty) w) a (through_written w ty s)
    through_shape n w (t.Shape.assignment m a b) s =
        through (freely w) b (through (used_as target w) a s)
    through_shape n w (t.Shape.returned a) s = through (freely w) a s
    through_shape n w t.Shape.returned_unit s = s
    through_shape n w t.Shape.break_form s = s
    through_shape n w (t.Shape.if_else ts a b) s =
        through (freely w) b (through (freely w) a (through_trees (caught w) ts s))
    through_shape n w (t.Shape.if_alone ts a) s =
        through (freely w) a (through_trees (caught w) ts s)
    through_shape n w (t.Shape.chained x a b) s = through (freely w) b (through (left_of x w) a s)
    through_shape n w (t.Shape.compared x a b) s = through (freely w) b (through (freely w) a s)
    through_shape n w (t.Shape.negation a) s = through (caught w) a s
    through_shape n w (t.Shape.minus a) s = through (freely w) a s
    through_shape n w (t.Shape.call a ts) s =
        through_arguments w (number_of_tree a) 0 ts (through (used_as callee w) a s)
    through_shape n w (t.Shape.index a ts) s =
        through_arguments w (number_of_tree a) 0 ts (through (indexed w) a s)
    through_shape n w (t.Shape.member a x) s = through (used_as object w) a s
    through_shape n w (t.Shape.query a) s = through (freely w) a s
    through_shape n w (t.Shape.integer x) s = s
    through_shape n w (t.Shape.character x) s = s
    through_shape n w (t.Shape.text x) s = s
    through_shape n w (t.Shape.holes x hs) s = through_holes (freely w) hs s
    through_shape n w t.Shape.truth s = s
    through_shape n w t.Shape.falsehood s = s
    through_shape n w t.Shape.this s = s
    through_shape n w (t.Shape.name x) s = s
    through_shape n w (t.Shape.tuple ts) s = through_trees (freely w) ts s
    through_shape n w (t.Shape.array ts) s = through_trees (freely w) ts s
    through_shape n w (t.Shape.option ts) s = through_trees (caught w) ts s
    through_shape n w (t.Shape.logic ts) s = through_trees (caught w) ts s
    through_shape n w (t.Shape.mapping ps) s = through_pairs (freely w) ps s
    through_shape n w (t.Shape.instance x gs) s = through_givens (freely w) gs s
    through_shape n w (t.Shape.event ty) s = through_written w ty s
    through_shape n w t.Shape.bare_event s = s
    through_shape n w (t.Shape.for_form ts a) s =
        through (repeated w) a (through_trees (caught w) ts s)
    through_shape n w (t.Shape.loop_form a) s = through (looped n w) a s
    through_shape n w (t.Shape.block_form a) s = through (freely w) a s
    through_shape n w (t.Shape.branch a) s = through (armed w) a s
    through_shape n w (t.Shape.sync ts) s = through_trees (armed w) ts s
    through_shape n w (t.Shape.race ts) s = through_trees (armed w) ts s
    through_shape n w (t.Shape.rush ts) s = through_trees (armed w) ts s
    through_shape n w (t.Shape.cases a ts) s = through_trees (freely w) ts (through (freely w) a s)
    through_shape n w (t.Shape.spawn a) s = through (used_as spawned w) a s
    through_shape n w (t.Shape.sleep x) s = s
    through_shape n w t.Shape.sleep_forever s = s
    through_shape n w (t.Shape.elements x a) s = through (freely w) a s
    through_shape n w (t.Shape.entries x y a) s = through (freely w) a s
    through_shape n w (t.Shape.range x a b) s = through (freely w) b (through (freely w) a s)
    through_shape n w (t.Shape.arm a b) s = through (freely w) b (through (freely w) a s)
    through_shape n w (t.Shape.integer_pattern x) s = s
    through_shape n w (t.Shape.minus_pattern x) s = s
    through_shape n w (t.Shape.character_pattern x) s = s
    through_shape n w (t.Shape.text_pattern x) s = s
    through_shape n w t.Shape.truth_pattern s = s
    through_shape n w t.Shape.falsehood_pattern s = s
    through_shape n w t.Shape.any_pattern s = s
    through_shape n w (t.Shape.enum_pattern x y) s = s

    pub through_trees : Around → Trees → S → S
    through_trees w no_trees s = s
    through_trees w (more_trees e es) s = through_trees w es (through w e s)

    pub through_arguments : Around → ℕ → ℕ → Trees → S → S
    through_arguments w f i no_trees s = s
    through_arguments w f i (more_trees e es) s =
        through_arguments w f (i + 1) es (through (used_as (argument f i) w) e s)

    pub through_holes : Around → Holes → S → S
    through_holes w no_holes s = s
    through_holes w (more_holes e bs hs) s = through_holes w hs (through w e s)

    pub through_pairs : Around → Pairs → S → S
    through_pairs w no_pairs s = s
    through_pairs w (more_pairs k e ps) s = through_pairs w ps (through w e (through w k s))

    pub through_givens : Around → Givens → S → S
    through_givens w no_givens s = s
    through_givens w (more_givens x e gs) s = through_givens w gs (through w e s)

  abbrev pub through_param : ParamTree → S → S
  through_param p s = step (param_node p) (through_written outside p.written s)

  abbrev pub through_params : List ParamTree → S → S
  through_params [] s = s
  through_params (p ∷ ps) s = through_params ps (through_param p s)

  abbrev pub through_fun : FunTree → S → S
  through_fun f s = through (round_body f) f.body
      (through_written outside f.written (through_params f.params s))

  abbrev pub through_default : Written → Option Tree → S → S
  through_default ty None s = s
  through_default ty (Some e) s = through (default_around ty) e s

  abbrev pub through_field : FieldTree → S → S
  through_field f s = through_default f.written f.default (through_written outside f.written s)

  abbrev pub through_member_parts : MemberTree → S → S
  through_member_parts (field f) s = through_field f s
  through_member_parts (method f) s = through_fun f s

  abbrev pub through_member : MemberTree → S → S
  through_member m s = step (member_node m) (through_member_parts m s)

  abbrev pub through_members : List MemberTree → S → S
  through_members [] s = s
  through_members (m ∷ ms) s = through_members ms (through_member m s)

  abbrev pub through_item_parts : ItemTree → S → S
  through_item_parts (using u) s = s
  through_item_parts (enumeration e) s = s
  through_item_parts (class c) s = through_members c.members s
  through_item_parts (function f) s = through_fun f s

  abbrev pub through_item : ItemTree → S → S
  through_item i s = step (item_node i) (through_item_parts i s)

  abbrev pub through_items : List ItemTree → S → S
  through_items [] s = s
  through_items (i ∷ is) s = through_items is (through_item i s)
