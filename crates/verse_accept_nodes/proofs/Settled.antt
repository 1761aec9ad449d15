-- What is asked of the nodes of a program beside the shapes of its trees, from single nodes: groups with arms, and patterns that stand
-- for values.
use Rattle.std.proofs.Common.{◌≡◌, ℕ, Bool, true, false, refl, List}
use Rattle.verse_base.specs.declared.places.Place.{Place}
use Rattle.verse_tree.specs.Tree.{Tree, tree, Shape, Trees, no_trees, more_trees}
use Rattle.verse_tree.specs.Tree as t
use Rattle.verse_tree.specs.ItemTree.{ItemTree}
use Rattle.verse_tree.specs.PostOrder.{What, program, item, member, parameter, type_name, expression, Node, post_order, parts, trees_order}
use Rattle.verse_tree.specs.PostOrder.{items_order}
use Rattle.verse_tree.specs.Shapes.{sort, may_stand, as_arm, as_pattern, Shaped, PartsShaped, AllShaped, SomeShaped, ItemsShaped}
use Rattle.verse_meaning.specs.Programs.{Program, pattern_value}
use Rattle.verse_meaning.specs.Evaluating.{none_left}
use Rattle.lower_simulation_runs.specs.Programs.{is_some, has_value, has_value_shape, ArmsStand, ArmTreeStands, NodeStands}
use Rattle.lower_simulation_runs.proofs.Shaping.{ShapeSettled, NodeSettled, shaped_stand}
use Rattle.lower_bounds.proofs.Lists.{Each, each_first, each_rest, each_weaker, own, inside, node}
use Rattle.verse_accept_nodes.proofs.ByParts.{WhatHas, NodeHas, items_has}

module _ (p : Program) where
  -- what the rules say of a form by itself
  abbrev pub ShapeKept : Shape → Type 0
  ShapeKept (t.Shape.sync ts) = none_left ts ≡ false
  ShapeKept (t.Shape.race ts) = none_left ts ≡ false
  ShapeKept (t.Shape.rush ts) = none_left ts ≡ false
  ShapeKept (t.Shape.enum_pattern x y) = is_some (pattern_value p x y) ≡ true
  ShapeKept s = Unit {0}

  abbrev pub NodeKept : Node → Type 0
  NodeKept v = WhatHas ShapeKept v.what

  pattern_stands : (s : Shape) → may_stand as_pattern (sort s) ≡ true → ShapeKept s → has_value_shape p s ≡ true
  pattern_stands (t.Shape.integer_pattern n) h k = refl
  pattern_stands (t.Shape.minus_pattern n) h k = refl
  pattern_stands (t.Shape.character_pattern n) h k = refl
  pattern_stands (t.Shape.text_pattern bs) h k = refl
  pattern_stands t.Shape.truth_pattern h k = refl
  pattern_stands t.Shape.falsehood_pattern h k = refl
  pattern_stands t.Shape.any_pattern h k = refl
  pattern_stands (t.Shape.enum_pattern x y) h k = k
  pattern_stands s h k = h

  tree_stands : (b : Tree) → Shaped as_pattern b → Each NodeKept (post_order b) → has_value p b ≡ true
  tree_stands (tree n pl s) h q = pattern_stands s h.0 (own NodeKept n pl s q)

  arm_stands : (b : Tree) → Each NodeKept (post_order b) → Shaped as_arm b → (last : Bool) → ArmTreeStands p b last
  arm_stands (tree n pl (t.Shape.arm a b)) q h last = λ e.
      tree_stands a h.1.0 (each_first NodeKept (post_order a) (post_order b) (inside NodeKept n pl (t.Shape.arm a b) q))
  arm_stands (tree n pl s) q h last = tt

  arms_stand : (ts : Trees) → AllShaped as_arm ts → Each NodeKept (trees_order ts) → ArmsStand p ts
  arms_stand no_trees h q = tt
  arms_stand (more_trees b ts) h q = (
    arm_stands b (each_first NodeKept (post_order b) (trees_order ts) q) h.0 (none_left ts),
    arms_stand ts h.1 (each_rest NodeKept (post_order b) (trees_order ts) q),
  )

  some_stand : (ts : Trees) → SomeShaped as_arm ts → Each NodeKept (trees_order ts) → ArmsStand p ts
  some_stand no_trees h q = absurd h
  some_stand (more_trees b ts) h q = arms_stand (more_trees b ts) h q

  own_settled : (n : ℕ) (pl : Place) (s : Shape) → PartsShaped s → Each NodeKept (parts s) → NodeKept (node n pl s) → ShapeSettled p s
  own_settled n pl (t.Shape.sync ts) h q k = k
  own_settled n pl (t.Shape.race ts) h q k = k
  own_settled n pl (t.Shape.rush ts) h q k = k
  own_settled n pl (t.Shape.cases b ts) h q k = some_stand ts h.1 (each_rest NodeKept (post_order b) (trees_order ts) q)
  own_settled n pl s h q k = tt

  what_settled : (v : Node) → NodeHas NodeKept (ShapeSettled p) own_settled v → NodeSettled p v
  what_settled v h = by_what v.what h
    where
      by_what : (x : What) → WhatHas (ShapeSettled p) x → NodeSettled p (record { number = v.number; place = v.place; what = x })
      by_what (expression s) k = k
      by_what (program is) k = tt
      by_what (item i) k = tt
      by_what (member m) k = tt
      by_what (parameter x) k = tt
      by_what (type_name x) k = tt

  pub kept_stand : (is : List ItemTree) → ItemsShaped is → Each NodeKept (items_order is) → Each (NodeStands p) (items_order is)
  kept_stand is h q =
      shaped_stand p is h (each_weaker what_settled (items_order is) (items_has NodeKept (ShapeSettled p) own_settled is h q))
