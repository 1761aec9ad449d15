-- Trees whose nodes fit, however they are numbered.
use Rattle.std.proofs.Common.{◌≡◌, ℕ, suc, ◌+◌, ◌-◌, ◌≤◌, List, [], ◌∷◌, ◌++◌, length, arith, ap, sym, subst}
use Rattle.verse_base.specs.declared.places.Place.{Place}
use Rattle.verse_tree.specs.Tree.{Bytes, Written, Writtens, no_writtens, more_writtens, Tree, tree, Shape, Trees, no_trees, more_trees}
use Rattle.verse_tree.specs.Tree.{Holes, Pairs, Givens}
use Rattle.verse_tree.specs.Tree as t
use Rattle.verse_tree.specs.ItemTree.{MemberTree, field, method, ItemTree, function}
use Rattle.verse_tree.specs.View.{writtens, trees, holes, pairs, givens}
use Rattle.verse_tree.specs.PostOrder.{Node, What, expression, parameter, item, member, written_order, writtens_order, post_order, parts}
use Rattle.verse_tree.specs.PostOrder.{trees_order}
use Rattle.verse_tree.specs.PostOrder.{holes_order}
use Rattle.verse_tree.specs.PostOrder.{pairs_order, givens_order}
use Rattle.verse_tree.specs.Numbering.{written_nodes, written_numbered, writtens_numbered, nodes, shape_nodes, trees_nodes, numbered}
use Rattle.verse_tree.specs.Numbering.{shape_numbered, trees_numbered}
use Rattle.verse_tree.specs.Numbering.{holes_numbered, pairs_numbered, givens_numbered}
use Rattle.verse_code.specs.Validity.{IsText, IsPlace}
use Rattle.lower_bounds.specs.Programs.{PiecesFit, ShapeFits, WhatFits, NodeFits}
use Rattle.lower_bounds.proofs.Lists.{Each, each_joined, each_weaker}
use Rattle.verse_rules_walk.specs.Nodes.{number_of_tree}
use Rattle.verse_check_typing.specs.Parts.{count}
use Rattle.verse_accept_nodes.specs.Laws.{IsNew, ShapeNames, WhatNames, NodeNames}

-- ---- written types whose tuples have no more parts than a number of 32 bits tells

abbrev pub how_many : Writtens → ℕ
how_many no_writtens = 0
how_many (more_writtens w ws) = suc (how_many ws)

abbrev mutual
  pub Narrow : Written → Type 0
  Narrow (t.Written.option w) = Narrow w
  Narrow (t.Written.array w) = Narrow w
  Narrow (t.Written.map k w) = Narrow k × Narrow w
  Narrow (t.Written.tuple ws) = (how_many ws ≤ 4294967295) × AllNarrow ws
  Narrow (t.Written.task w) = Narrow w
  Narrow (t.Written.event w) = Narrow w
  Narrow w = Unit {0}

  pub AllNarrow : Writtens → Type 0
  AllNarrow no_writtens = Unit {0}
  AllNarrow (more_writtens w ws) = Narrow w × AllNarrow ws

-- those at the node n, whose tuple or `sync` has no more parts than there are nodes before it
abbrev pub ShapeNarrow : ℕ → Shape → Type 0
ShapeNarrow n (t.Shape.typed x w e) = Narrow w
ShapeNarrow n (t.Shape.variable x w e) = Narrow w
ShapeNarrow n (t.Shape.event w) = Narrow w
ShapeNarrow n (t.Shape.tuple es) = count es ≤ n
ShapeNarrow n (t.Shape.sync es) = count es ≤ n
ShapeNarrow n s = Unit {0}

abbrev pub ItemNarrow : ItemTree → Type 0
ItemNarrow (function f) = Narrow f.written
ItemNarrow i = Unit {0}

abbrev pub MemberNarrow : MemberTree → Type 0
MemberNarrow (field d) = Narrow d.written
MemberNarrow (method f) = Narrow f.written

abbrev pub WhatNarrow : ℕ → What → Type 0
WhatNarrow n (expression s) = ShapeNarrow n s
WhatNarrow n (parameter q) = Narrow q.written
WhatNarrow n (item i) = ItemNarrow i
WhatNarrow n (member m) = MemberNarrow m
WhatNarrow n other = Unit {0}

abbrev pub NodeNarrow : Node → Type 0
NodeNarrow v = WhatNarrow v.number v.what

how_many_numbered : (ws : List Written) (n : ℕ) → how_many (writtens_numbered (writtens ws) n) ≡ length ws
how_many_numbered [] n = omega arith
how_many_numbered (w ∷ ws) n = ap suc (how_many_numbered ws (n + written_nodes w))

some_nodes : (e : Tree) → 1 ≤ nodes e
some_nodes (tree n pl s) = omega arith

-- each part has a node
pub few_parts : (es : Trees) (n m : ℕ) → count (trees_numbered es n) ≤ m + trees_nodes es
few_parts no_trees n m = omega arith
few_parts (more_trees e es) n m = omega (arith, few_parts es (n + nodes e) m, some_nodes e)

-- ---- what is asked of nodes

-- what is asked of the form of the node n
abbrev pub ShapeGood : ℕ → Shape → Type 0
ShapeGood n (t.Shape.definition x e) = IsNew x
ShapeGood n (t.Shape.typed x w e) = IsNew x × Narrow w
ShapeGood n (t.Shape.variable x w e) = IsNew x × Narrow w
ShapeGood n (t.Shape.event w) = Narrow w
ShapeGood n (t.Shape.tuple es) = count es ≤ n
ShapeGood n (t.Shape.sync es) = count es ≤ n
ShapeGood n (t.Shape.elements x e) = IsNew x
ShapeGood n (t.Shape.entries k x e) = IsNew k × IsNew x × (number_of_tree e ≡ n - 1)
ShapeGood n (t.Shape.range x e f) = IsNew x
ShapeGood n s = ShapeFits s

abbrev pub WhatGood : ℕ → What → Type 0
WhatGood n (expression s) = ShapeGood n s
WhatGood n (parameter q) = IsNew q.name × Narrow q.written
WhatGood n (item i) = ItemNarrow i
WhatGood n (member m) = MemberNarrow m
WhatGood n other = Unit {0}

shape_fits : (n : ℕ) (s : Shape) → ShapeGood n s → ShapeFits s
shape_fits n (t.Shape.definition x e) h = tt
shape_fits n (t.Shape.typed x w e) h = tt
shape_fits n (t.Shape.variable x w e) h = tt
shape_fits n (t.Shape.elements x e) h = tt
shape_fits n (t.Shape.entries k x e) h = tt
shape_fits n (t.Shape.range x e f) h = tt
shape_fits n (t.Shape.event w) h = tt
shape_fits n (t.Shape.tuple es) h = tt
shape_fits n (t.Shape.sync es) h = tt
shape_fits n s h = h

shape_names : (n : ℕ) (s : Shape) → ShapeGood n s → ShapeNames n s
shape_names n (t.Shape.definition x e) h = h
shape_names n (t.Shape.typed x w e) h = h.0
shape_names n (t.Shape.variable x w e) h = h.0
shape_names n (t.Shape.elements x e) h = h
shape_names n (t.Shape.entries k x e) h = h
shape_names n (t.Shape.range x e f) h = h
shape_names n s h = tt

what_fits : (n : ℕ) (x : What) → WhatGood n x → WhatFits x
what_fits n (expression s) h = shape_fits n s h
what_fits n _ h = tt

what_names : (n : ℕ) (x : What) → WhatGood n x → WhatNames n x
what_names n (expression s) h = shape_names n s h
what_names n (parameter q) h = h.0
what_names n _ h = tt

shape_narrow : (n : ℕ) (s : Shape) → ShapeGood n s → ShapeNarrow n s
shape_narrow n (t.Shape.typed x w e) h = h.1
shape_narrow n (t.Shape.variable x w e) h = h.1
shape_narrow n (t.Shape.event w) h = h
shape_narrow n (t.Shape.tuple es) h = h
shape_narrow n (t.Shape.sync es) h = h
shape_narrow n s h = tt

what_narrow : (n : ℕ) (x : What) → WhatGood n x → WhatNarrow n x
what_narrow n (expression s) h = shape_narrow n s h
what_narrow n (parameter q) h = h.1
what_narrow n (item i) h = h
what_narrow n (member m) h = h
what_narrow n _ h = tt

-- a tree is numbered before what stands behind it
pub numbered_before : (e : Tree) (n : ℕ) → number_of_tree (numbered e n) ≡ (n + nodes e) - 1
numbered_before (tree m p s) n = omega arith

module _ (files : ℕ) where
  pub record NodeGood (v : Node) : Type 0 where
    pub place : IsPlace files v.place
    pub what : WhatGood v.number v.what

  abbrev pub Fit : List Node → Type 0
  Fit vs = Each NodeGood vs

  pub good_fit : (vs : List Node) → Fit vs → Each (NodeFits files) vs
  good_fit vs h = each_weaker (λ v g. record { place = g.place; what = what_fits v.number v.what g.what }) vs h

  pub good_names : (vs : List Node) → Fit vs → Each NodeNames vs
  good_names vs h = each_weaker (λ v g. what_names v.number v.what g.what) vs h

  pub good_narrow : (vs : List Node) → Fit vs → Each NodeNarrow vs
  good_narrow vs h = each_weaker (λ v g. what_narrow v.number v.what g.what) vs h

  pub record FineWritten (w : Written) : Type 0 where
    pub fit : (n : ℕ) → Fit (written_order (written_numbered w n))
    pub narrow : (n : ℕ) → Narrow (written_numbered w n)

  pub record FineWrittens (ws : Writtens) : Type 0 where
    pub fit : (n : ℕ) → Fit (writtens_order (writtens_numbered ws n))
    pub narrow : (n : ℕ) → AllNarrow (writtens_numbered ws n)
    pub many : (n : ℕ) → how_many (writtens_numbered ws n) ≤ 4294967295

  pub record FineTree (e : Tree) : Type 0 where
    pub fit : (n : ℕ) → Fit (post_order (numbered e n))

  pub record FineTrees (es : Trees) : Type 0 where
    pub fit : (n : ℕ) → Fit (trees_order (trees_numbered es n))

  pub record FineHoles (hs : Holes) : Type 0 where
    pub fit : (n : ℕ) → Fit (holes_order (holes_numbered hs n))
    pub pieces : (n : ℕ) → PiecesFit (holes_numbered hs n)

  pub record FinePairs (ps : Pairs) : Type 0 where
    pub fit : (n : ℕ) → Fit (pairs_order (pairs_numbered ps n))

  pub record FineGivens (gs : Givens) : Type 0 where
    pub fit : (n : ℕ) → Fit (givens_order (givens_numbered gs n))

  pub both : (vs us : List Node) → Fit vs → Fit us → Fit (vs ++ us)
  both vs us h g = each_joined NodeGood vs us h g

  -- a node at a place, by what is asked of its own form and by its parts
  pub fine : {pl : Place} {s : Shape} → IsPlace files pl → ((n : ℕ) → ShapeGood (n + shape_nodes s) (shape_numbered s n)) →
      ((n : ℕ) → Fit (parts (shape_numbered s n))) → FineTree (tree 0 pl s)
  fine p h f = record { fit = λ n. both _ _ (f n) (record { place = p; what = h n }, tt) }

  abbrev pub FineHole : Tree × Bytes → Type 0
  FineHole h = FineTree h.0 × IsText h.1

  abbrev pub FinePair : Tree × Tree → Type 0
  FinePair p = FineTree p.0 × FineTree p.1

  abbrev pub FineGiven : Bytes × Tree → Type 0
  FineGiven g = FineTree g.1

  all_written : (ws : List Written) → Each FineWritten ws → (n : ℕ) → Fit (writtens_order (writtens_numbered (writtens ws) n))
  all_written [] h n = tt
  all_written (w ∷ ws) h n = both _ _ (h.0.fit n) (all_written ws h.1 (n + written_nodes w))

  all_narrow : (ws : List Written) → Each FineWritten ws → (n : ℕ) → AllNarrow (writtens_numbered (writtens ws) n)
  all_narrow [] h n = tt
  all_narrow (w ∷ ws) h n = (h.0.narrow n, all_narrow ws h.1 (n + written_nodes w))

  pub fine_writtens : (ws : List Written) → length ws ≤ 4294967295 → Each FineWritten ws → FineWrittens (writtens ws)
  fine_writtens ws few h = record {
    fit = all_written ws h;
    narrow = all_narrow ws h;
    many = λ n. subst (λ m. m ≤ 4294967295) (sym (how_many_numbered ws n)) few;
  }

  all_trees : (es : List Tree) → Each FineTree es → (n : ℕ) → Fit (trees_order (trees_numbered (trees es) n))
  all_trees [] h n = tt
  all_trees (e ∷ es) h n = both _ _ (h.0.fit n) (all_trees es h.1 (n + nodes e))

  pub fine_trees : (es : List Tree) → Each FineTree es → FineTrees (trees es)
  fine_trees es h = record { fit = all_trees es h }

  all_holes : (hs : List (Tree × Bytes)) → Each FineHole hs → (n : ℕ) → Fit (holes_order (holes_numbered (holes hs) n))
  all_holes [] h n = tt
  all_holes (x ∷ hs) h n = both _ _ (h.0.0.fit n) (all_holes hs h.1 (n + nodes x.0))

  all_pieces : (hs : List (Tree × Bytes)) → Each FineHole hs → (n : ℕ) → PiecesFit (holes_numbered (holes hs) n)
  all_pieces [] h n = tt
  all_pieces (x ∷ hs) h n = (h.0.1, all_pieces hs h.1 (n + nodes x.0))

  pub fine_holes : (hs : List (Tree × Bytes)) → Each FineHole hs → FineHoles (holes hs)
  fine_holes hs h = record { fit = all_holes hs h; pieces = all_pieces hs h }

  all_pairs : (ps : List (Tree × Tree)) → Each FinePair ps → (n : ℕ) → Fit (pairs_order (pairs_numbered (pairs ps) n))
  all_pairs [] h n = tt
  all_pairs (x ∷ ps) h n =
      both _ _ (both _ _ (h.0.0.fit n) (h.0.1.fit (n + nodes x.0))) (all_pairs ps h.1 (n + (nodes x.0 + nodes x.1)))

  pub fine_pairs : (ps : List (Tree × Tree)) → Each FinePair ps → FinePairs (pairs ps)
  fine_pairs ps h = record { fit = all_pairs ps h }

  all_givens : (gs : List (Bytes × Tree)) → Each FineGiven gs → (n : ℕ) → Fit (givens_order (givens_numbered (givens gs) n))
  all_givens [] h n = tt
  all_givens (x ∷ gs) h n = both _ _ (h.0.fit n) (all_givens gs h.1 (n + nodes x.1))

  pub fine_givens : (gs : List (Bytes × Tree)) → Each FineGiven gs → FineGivens (givens gs)
  fine_givens gs h = record { fit = all_givens gs h }
