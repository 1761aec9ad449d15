-- What is asked of the trees of a program, and that it is so where each node has what is asked of it.
use Rattle.std.proofs.Common.{◌≡◌, List, [], ◌∷◌, ◌++◌, Bool, true, false}
use Rattle.verse_tree.specs.Tree.{Tree, tree, Shape, Trees, no_trees, more_trees, Holes, no_holes, more_holes, Givens, no_givens}
use Rattle.verse_tree.specs.Tree.{more_givens}
use Rattle.verse_tree.specs.Tree as t
use Rattle.verse_tree.specs.ItemTree.{ItemTree}
use Rattle.verse_tree.specs.PostOrder.{post_order, parts, trees_order, holes_order, pairs_order, givens_order}
use Rattle.verse_tree.specs.PostOrder.{written_order, items_order}
use Rattle.verse_meaning.specs.Programs.{Program}
use Rattle.verse_meaning.specs.Evaluating.{none_left}
use Rattle.lower_code.specs.Lowering.{any_defer}
use Rattle.lower_code.specs.Programs.{Body, all_bodies}
use Rattle.lower_bounds.proofs.Lists.{Each, each_first, each_rest, own, inside}
use Rattle.lower_bounds.proofs.Bodies.{all_have}
use Rattle.lower_simulation_blocks.proofs.Cases.{has_value}
use Rattle.lower_simulation_runs.specs.Programs.{ArmStands, ArmTreeStands, ArmsStand, ShapeStands, NodeStands}

module _ (p : Program) where
  abbrev mutual
    pub Fit : Tree → Type 0
    Fit (tree n pl s) = Shape_fits s

    pub Shape_fits : Shape → Type 0
    Shape_fits (t.Shape.block cs) = All_fit cs
    Shape_fits (t.Shape.defer b) = Fit b
    Shape_fits (t.Shape.definition x b) = Fit b
    Shape_fits (t.Shape.typed x w b) = Fit b
    Shape_fits (t.Shape.variable x w b) = Fit b
    Shape_fits (t.Shape.assignment x b c) = Fit b × Fit c
    Shape_fits (t.Shape.returned b) = Fit b
    -- no condition defers
    Shape_fits (t.Shape.if_else cs b c) = (any_defer cs ≡ false) × All_fit cs × Fit b × Fit c
    Shape_fits (t.Shape.if_alone cs b) = (any_defer cs ≡ false) × All_fit cs × Fit b
    Shape_fits (t.Shape.option cs) = (any_defer cs ≡ false) × All_fit cs
    Shape_fits (t.Shape.logic cs) = (any_defer cs ≡ false) × All_fit cs
    Shape_fits (t.Shape.negation b) = Fit b
    Shape_fits (t.Shape.for_form cs b) = All_fit cs × Fit b
    Shape_fits (t.Shape.elements x b) = Fit b
    Shape_fits (t.Shape.entries x y b) = Fit b
    Shape_fits (t.Shape.range x b c) = Fit b × Fit c
    Shape_fits (t.Shape.chained x b c) = Fit b × Fit c
    Shape_fits (t.Shape.compared x b c) = Fit b × Fit c
    Shape_fits (t.Shape.minus b) = Fit b
    Shape_fits (t.Shape.query b) = Fit b
    Shape_fits (t.Shape.member b x) = Fit b
    Shape_fits (t.Shape.call b ts) = Fit b × All_fit ts
    Shape_fits (t.Shape.index b ts) = Fit b × All_fit ts
    Shape_fits (t.Shape.holes bs hs) = Holes_fit hs
    Shape_fits (t.Shape.tuple ts) = All_fit ts
    Shape_fits (t.Shape.array ts) = All_fit ts
    Shape_fits (t.Shape.mapping ps) = Pairs_fit ps
    Shape_fits (t.Shape.instance x gs) = Givens_fit gs
    Shape_fits (t.Shape.loop_form b) = Fit b
    Shape_fits (t.Shape.block_form b) = Fit b
    Shape_fits (t.Shape.cases b ts) = Fit b × Arms_fit ts
    Shape_fits (t.Shape.branch b) = Fit b
    -- a group has an arm
    Shape_fits (t.Shape.sync ts) = (none_left ts ≡ false) × All_fit ts
    Shape_fits (t.Shape.race ts) = (none_left ts ≡ false) × All_fit ts
    Shape_fits (t.Shape.rush ts) = (none_left ts ≡ false) × All_fit ts
    Shape_fits (t.Shape.spawn b) = Fit b
    Shape_fits s = Unit {0}

    pub All_fit : Trees → Type 0
    All_fit no_trees = Unit {0}
    All_fit (more_trees b ts) = Fit b × All_fit ts

    pub Holes_fit : Holes → Type 0
    Holes_fit no_holes = Unit {0}
    Holes_fit (more_holes b bs hs) = Fit b × Holes_fit hs

    pub Pairs_fit : t.Pairs → Type 0
    Pairs_fit t.Pairs.no_pairs = Unit {0}
    Pairs_fit (t.Pairs.more_pairs b c ps) = Fit b × Fit c × Pairs_fit ps

    pub Givens_fit : Givens → Type 0
    Givens_fit no_givens = Unit {0}
    Givens_fit (more_givens x b gs) = Fit b × Givens_fit gs

    pub Arms_fit : Trees → Type 0
    Arms_fit no_trees = Unit {0}
    Arms_fit (more_trees b ts) = Arm_fits b (none_left ts) × Arms_fit ts

    pub Arm_fits : Tree → Bool → Type 0
    Arm_fits (tree n pl s) last = Arm_shape_fits s last

    pub Arm_shape_fits : Shape → Bool → Type 0
    Arm_shape_fits (t.Shape.arm a b) last = (last ≡ false → has_value p a ≡ true) × Fit b
    Arm_shape_fits s last = Unit {0}

  mutual
    pub nodes_fit : (b : Tree) → Each (NodeStands p) (post_order b) → Fit b
    nodes_fit (tree n pl s) h = shape_fits s (own (NodeStands p) n pl s h) (inside (NodeStands p) n pl s h)

    shape_fits : (s : Shape) → ShapeStands p s → Each (NodeStands p) (parts s) → Shape_fits s
    shape_fits (t.Shape.block cs) v h = all_fit cs h
    shape_fits (t.Shape.defer b) v h = nodes_fit b h
    shape_fits (t.Shape.definition x b) v h = nodes_fit b h
    shape_fits (t.Shape.typed x w b) v h = nodes_fit b (each_rest (NodeStands p) (written_order w) (post_order b) h)
    shape_fits (t.Shape.variable x w b) v h = nodes_fit b (each_rest (NodeStands p) (written_order w) (post_order b) h)
    shape_fits (t.Shape.assignment x b c) v h = (
      nodes_fit b (each_first (NodeStands p) (post_order b) (post_order c) h),
      nodes_fit c (each_rest (NodeStands p) (post_order b) (post_order c) h),
    )
    shape_fits (t.Shape.returned b) v h = nodes_fit b h
    shape_fits (t.Shape.if_else cs b c) v h =
        let l = each_first (NodeStands p) (trees_order cs ++ post_order b) (post_order c) h in (
          v,
          all_fit cs (each_first (NodeStands p) (trees_order cs) (post_order b) l),
          nodes_fit b (each_rest (NodeStands p) (trees_order cs) (post_order b) l),
          nodes_fit c (each_rest (NodeStands p) (trees_order cs ++ post_order b) (post_order c) h),
        )
    shape_fits (t.Shape.if_alone cs b) v h = (
      v,
      all_fit cs (each_first (NodeStands p) (trees_order cs) (post_order b) h),
      nodes_fit b (each_rest (NodeStands p) (trees_order cs) (post_order b) h),
    )
    shape_fits (t.Shape.option cs) v h = (v, all_fit cs h)
    shape_fits (t.Shape.logic cs) v h = (v, all_fit cs h)
    shape_fits (t.Shape.negation b) v h = nodes_fit b h
    shape_fits (t.Shape.for_form cs b) v h = (
      all_fit cs (each_first (NodeStands p) (trees_order cs) (post_order b) h),
      nodes_fit b (each_rest (NodeStands p) (trees_order cs) (post_order b) h),
    )
    shape_fits (t.Shape.elements x b) v h = nodes_fit b h
    shape_fits (t.Shape.entries x y b) v h = nodes_fit b h
    shape_fits (t.Shape.range x b c) v h = (
      nodes_fit b (each_first (NodeStands p) (post_order b) (post_order c) h),
      nodes_fit c (each_rest (NodeStands p) (post_order b) (post_order c) h),
    )
    shape_fits (t.Shape.chained x b c) v h = (
      nodes_fit b (each_first (NodeStands p) (post_order b) (post_order c) h),
      nodes_fit c (each_rest (NodeStands p) (post_order b) (post_order c) h),
    )
    shape_fits (t.Shape.compared x b c) v h = (
      nodes_fit b (each_first (NodeStands p) (post_order b) (post_order c) h),
      nodes_fit c (each_rest (NodeStands p) (post_order b) (post_order c) h),
    )
    shape_fits (t.Shape.minus b) v h = nodes_fit b h
    shape_fits (t.Shape.query b) v h = nodes_fit b h
    shape_fits (t.Shape.member b x) v h = nodes_fit b h
    shape_fits (t.Shape.call b ts) v h = (
      nodes_fit b (each_first (NodeStands p) (post_order b) (trees_order ts) h),
      all_fit ts (each_rest (NodeStands p) (post_order b) (trees_order ts) h),
    )
    shape_fits (t.Shape.index b ts) v h = (
      nodes_fit b (each_first (NodeStands p) (post_order b) (trees_order ts) h),
      all_fit ts (each_rest (NodeStands p) (post_order b) (trees_order ts) h),
    )
    shape_fits (t.Shape.holes bs hs) v h = holes_fit hs h
    shape_fits (t.Shape.tuple ts) v h = all_fit ts h
    shape_fits (t.Shape.array ts) v h = all_fit ts h
    shape_fits (t.Shape.mapping ps) v h = pairs_fit ps h
    shape_fits (t.Shape.instance x gs) v h = givens_fit gs h
    shape_fits (t.Shape.loop_form b) v h = nodes_fit b h
    shape_fits (t.Shape.block_form b) v h = nodes_fit b h
    shape_fits (t.Shape.cases b ts) v h = (
      nodes_fit b (each_first (NodeStands p) (post_order b) (trees_order ts) h),
      arms_fit ts v (each_rest (NodeStands p) (post_order b) (trees_order ts) h),
    )
    shape_fits (t.Shape.branch b) v h = nodes_fit b h
    shape_fits (t.Shape.sync ts) v h = (v, all_fit ts h)
    shape_fits (t.Shape.race ts) v h = (v, all_fit ts h)
    shape_fits (t.Shape.rush ts) v h = (v, all_fit ts h)
    shape_fits (t.Shape.spawn b) v h = nodes_fit b h
    shape_fits s v h = tt

    all_fit : (ts : Trees) → Each (NodeStands p) (trees_order ts) → All_fit ts
    all_fit no_trees h = tt
    all_fit (more_trees b ts) h = (
      nodes_fit b (each_first (NodeStands p) (post_order b) (trees_order ts) h),
      all_fit ts (each_rest (NodeStands p) (post_order b) (trees_order ts) h),
    )

    holes_fit : (hs : Holes) → Each (NodeStands p) (holes_order hs) → Holes_fit hs
    holes_fit no_holes h = tt
    holes_fit (more_holes b bs hs) h = (
      nodes_fit b (each_first (NodeStands p) (post_order b) (holes_order hs) h),
      holes_fit hs (each_rest (NodeStands p) (post_order b) (holes_order hs) h),
    )

    pairs_fit : (ps : t.Pairs) → Each (NodeStands p) (pairs_order ps) → Pairs_fit ps
    pairs_fit t.Pairs.no_pairs h = tt
    pairs_fit (t.Pairs.more_pairs b c ps) h =
        let l = each_first (NodeStands p) (post_order b ++ post_order c) (pairs_order ps) h in (
          nodes_fit b (each_first (NodeStands p) (post_order b) (post_order c) l),
          nodes_fit c (each_rest (NodeStands p) (post_order b) (post_order c) l),
          pairs_fit ps (each_rest (NodeStands p) (post_order b ++ post_order c) (pairs_order ps) h),
        )

    givens_fit : (gs : Givens) → Each (NodeStands p) (givens_order gs) → Givens_fit gs
    givens_fit no_givens h = tt
    givens_fit (more_givens x b gs) h = (
      nodes_fit b (each_first (NodeStands p) (post_order b) (givens_order gs) h),
      givens_fit gs (each_rest (NodeStands p) (post_order b) (givens_order gs) h),
    )

    arms_fit : (ts : Trees) → ArmsStand p ts → Each (NodeStands p) (trees_order ts) → Arms_fit ts
    arms_fit no_trees v h = tt
    arms_fit (more_trees b ts) v h = (
      arm_fits b (none_left ts) v.0 (each_first (NodeStands p) (post_order b) (trees_order ts) h),
      arms_fit ts v.1 (each_rest (NodeStands p) (post_order b) (trees_order ts) h),
    )

    arm_fits : (b : Tree) (last : Bool) → ArmTreeStands p b last → Each (NodeStands p) (post_order b) → Arm_fits b last
    arm_fits (tree n pl s) last v h = arm_shape_fits s last v (inside (NodeStands p) n pl s h)

    arm_shape_fits : (s : Shape) (last : Bool) → ArmStands p s last → Each (NodeStands p) (parts s) → Arm_shape_fits s last
    arm_shape_fits (t.Shape.arm a b) last v h = (v, nodes_fit b (each_rest (NodeStands p) (post_order a) (post_order b) h))
    arm_shape_fits s last v h = tt

  every_fits : (bs : List Body) → Each (λ (b : Body). Each (NodeStands p) (post_order b.body)) bs → Each (λ (b : Body). Fit b.body) bs
  every_fits [] h = tt
  every_fits (b ∷ bs) h = (nodes_fit b.body h.0, every_fits bs h.1)

  -- the bodies of a program fit where its nodes have what is asked of them
  pub bodies_fit : (is : List ItemTree) → Each (NodeStands p) (items_order is) → Each (λ (b : Body). Fit b.body) (all_bodies is)
  bodies_fit is h = every_fits (all_bodies is) (all_have (NodeStands p) is h)
