-- How much of the size a tree has.
use Rattle.std.proofs.Common.{◌≡◌, ℕ, ◌+◌, ◌*◌, ◌≤◌, arith}
use Rattle.verse_base.specs.declared.places.Place.{Place}
use Rattle.verse_tree.specs.Tree.{Tree, tree, Shape, Trees, no_trees, more_trees, Holes, Pairs, Givens}
use Rattle.verse_tree.specs.Tree as t
use Rattle.verse_tree.specs.Numbering.{nodes, shape_nodes, trees_nodes, holes_nodes, pairs_nodes, givens_nodes}
use Rattle.verse_tree.specs.Sizes.{tree_fields, shape_fields, trees_fields, holes_fields, pairs_fields, givens_fields}
use Rattle.lower_code.specs.Lowering.{how_many, target_operands}

-- fields are those of the class of an instance, by the number of its node
module _ (fields : ℕ → ℕ) where
  abbrev pub weight : Tree → ℕ
  weight b = 16 * nodes b + 4 * tree_fields fields b

  abbrev pub parts_weight : ℕ → Shape → ℕ
  parts_weight n s = 16 * shape_nodes s + 4 * shape_fields fields n s

  abbrev pub trees_weight : Trees → ℕ
  trees_weight ts = 16 * trees_nodes ts + 4 * trees_fields fields ts

  abbrev pub holes_weight : Holes → ℕ
  holes_weight hs = 16 * holes_nodes hs + 4 * holes_fields fields hs

  abbrev pub pairs_weight : Pairs → ℕ
  pairs_weight ps = 16 * pairs_nodes ps + 4 * pairs_fields fields ps

  abbrev pub givens_weight : Givens → ℕ
  givens_weight gs = 16 * givens_nodes gs + 4 * givens_fields fields gs

  -- what its operations cost: the rest of its node is for what stands behind it
  abbrev pub cost : Tree → ℕ
  cost (tree n pl s) = 12 + parts_weight n s

  -- the cost where it is only a part of its statement or its call
  abbrev pub inner_cost : Tree → ℕ
  inner_cost (tree n pl s) = 1 + parts_weight n s

  -- operands, each with its place on the stack
  abbrev pub operands_cost : Trees → ℕ
  operands_cost no_trees = 0
  operands_cost (more_trees b ts) = 1 + cost b + operands_cost ts

  abbrev mutual
    pub target_cost : Tree → ℕ
    target_cost (tree n pl s) = target_shape_cost s

    pub target_shape_cost : Shape → ℕ
    target_shape_cost (t.Shape.member b x) = cost b
    target_shape_cost (t.Shape.index b ts) = target_cost b + operands_cost ts
    target_shape_cost s = 1

  pub cost_is : (b : Tree) → cost b + 4 ≡ weight b
  cost_is (tree n pl s) = omega arith

  pub inner_cost_is : (b : Tree) → inner_cost b + 11 ≡ cost b
  inner_cost_is (tree n pl s) = omega arith

  pub operands_cost_is : (ts : Trees) → operands_cost ts + 3 * how_many ts ≡ trees_weight ts
  operands_cost_is no_trees = omega arith
  operands_cost_is (more_trees b ts) = omega (arith, cost_is b, operands_cost_is ts)

  mutual
    pub target_cost_is : (b : Tree) → target_cost b + target_operands b + 1 ≤ weight b
    target_cost_is (tree n pl s) = target_shape_cost_is n pl s

    target_shape_cost_is : (n : ℕ) (pl : Place) (s : Shape) → target_cost (tree n pl s) + target_operands (tree n pl s) + 1 ≤ weight
        (tree n pl s)
    target_shape_cost_is n pl (t.Shape.member b x) = omega (arith, cost_is b)
    target_shape_cost_is n pl (t.Shape.index b ts) = omega (arith, target_cost_is b, operands_cost_is ts)
    target_shape_cost_is n pl s = omega arith
