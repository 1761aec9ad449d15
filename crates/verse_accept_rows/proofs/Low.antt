-- Parts that are numbered below n.
use Rattle.std.proofs.Common.{ℕ, ◌+◌, ◌<◌, List, ◌++◌, ◌∷◌, []}
use Rattle.verse_base.specs.declared.places.Place.{Place}
use Rattle.verse_tree.specs.Tree.{Tree, tree, Shape, Trees, no_trees, more_trees, Holes, no_holes, more_holes, Pairs, no_pairs, more_pairs}
use Rattle.verse_tree.specs.Tree.{Givens, no_givens, more_givens}
use Rattle.verse_tree.specs.PostOrder.{expression}
use Rattle.verse_rules_walk.specs.Around.{Around, argument, used_as}
use Rattle.verse_rules_walk.specs.Nodes.{Node, node, number_of_tree, tree_nodes, shape_nodes, trees_nodes, argument_nodes, holes_nodes}
use Rattle.verse_rules_walk.specs.Nodes.{pairs_nodes, givens_nodes}
use Rattle.verse_accept_scopes.specs.Lists.{Each}
use Rattle.verse_accept_scopes.proofs.Rows.{each_first, each_rest}

module _ (n : ℕ) where
  abbrev pub Low : Node → Type 0
  Low u = u.number < n

  abbrev pub Lows : List Node → Type 0
  Lows vs = Each Low vs

  pub top : (a : Around) (e : Tree) → Lows (tree_nodes a e) → number_of_tree e < n
  top a (tree m p s) h = (each_rest Low (shape_nodes m a s) (node m p a (expression s) ∷ []) h).0

  pub inner : (a : Around) (m : ℕ) (p : Place) (s : Shape) → Lows (tree_nodes a (tree m p s)) → Lows (shape_nodes m a s)
  inner a m p s h = each_first Low (shape_nodes m a s) (node m p a (expression s) ∷ []) h

  pub first : (vs us : List Node) → Lows (vs ++ us) → Lows vs
  first vs us h = each_first Low vs us h

  pub rest : (vs us : List Node) → Lows (vs ++ us) → Lows us
  rest vs us h = each_rest Low vs us h

  -- the trees of a list, by their own numbers
  abbrev pub LowTrees : Trees → Type 0
  LowTrees no_trees = Unit {0}
  LowTrees (more_trees e es) = (number_of_tree e < n) × LowTrees es

  pub trees_low : (a : Around) (es : Trees) → Lows (trees_nodes a es) → LowTrees es
  trees_low a no_trees h = tt
  trees_low a (more_trees e es) h =
      (top a e (first (tree_nodes a e) (trees_nodes a es) h), trees_low a es (rest (tree_nodes a e) (trees_nodes a es) h))

  pub arguments_low : (a : Around) (f i : ℕ) (es : Trees) → Lows (argument_nodes a f i es) → LowTrees es
  arguments_low a f i no_trees h = tt
  arguments_low a f i (more_trees e es) h =
      let own = tree_nodes (used_as (argument f i) a) e in
      let others = argument_nodes a f (i + 1) es in
      (top (used_as (argument f i) a) e (first own others h), arguments_low a f (i + 1) es (rest own others h))

  abbrev pub LowHoles : Holes → Type 0
  LowHoles no_holes = Unit {0}
  LowHoles (more_holes e bs hs) = (number_of_tree e < n) × LowHoles hs

  pub holes_low : (a : Around) (hs : Holes) → Lows (holes_nodes a hs) → LowHoles hs
  holes_low a no_holes h = tt
  holes_low a (more_holes e bs hs) h =
      (top a e (first (tree_nodes a e) (holes_nodes a hs) h), holes_low a hs (rest (tree_nodes a e) (holes_nodes a hs) h))

  abbrev pub LowPairs : Pairs → Type 0
  LowPairs no_pairs = Unit {0}
  LowPairs (more_pairs k e ps) = (number_of_tree k < n) × (number_of_tree e < n) × LowPairs ps

  pub pairs_low : (a : Around) (ps : Pairs) → Lows (pairs_nodes a ps) → LowPairs ps
  pairs_low a no_pairs h = tt
  pairs_low a (more_pairs k e ps) h =
      let own = tree_nodes a k ++ tree_nodes a e in
      let two = first own (pairs_nodes a ps) h in (
        top a k (first (tree_nodes a k) (tree_nodes a e) two),
        top a e (rest (tree_nodes a k) (tree_nodes a e) two),
        pairs_low a ps (rest own (pairs_nodes a ps) h),
      )

  abbrev pub LowGivens : Givens → Type 0
  LowGivens no_givens = Unit {0}
  LowGivens (more_givens x e gs) = (number_of_tree e < n) × LowGivens gs

  pub givens_low : (a : Around) (gs : Givens) → Lows (givens_nodes a gs) → LowGivens gs
  givens_low a no_givens h = tt
  givens_low a (more_givens x e gs) h =
      (top a e (first (tree_nodes a e) (givens_nodes a gs) h), givens_low a gs (rest (tree_nodes a e) (givens_nodes a gs) h))
