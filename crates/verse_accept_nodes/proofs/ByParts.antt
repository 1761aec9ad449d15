-- What each node of a program has by its own rule and by what its parts have, where the trees have the shapes of parsed ones.
use Rattle.std.proofs.Common.{ℕ, List, [], ◌∷◌, ◌++◌, Option, Some, None}
use Rattle.verse_base.specs.declared.places.Place.{Place}
use Rattle.verse_tree.specs.Tree.{Written, Writtens, no_writtens, more_writtens, Tree, tree, Shape, Trees, no_trees, more_trees}
use Rattle.verse_tree.specs.Tree.{Holes, no_holes, more_holes, Givens, no_givens, more_givens}
use Rattle.verse_tree.specs.Tree as t
use Rattle.verse_tree.specs.ItemTree.{ParamTree, FunTree, MemberTree, field, method, ItemTree, using, enumeration, class, function}
use Rattle.verse_tree.specs.PostOrder.{What, expression, Node, post_order, parts}
use Rattle.verse_tree.specs.PostOrder.{trees_order, holes_order, pairs_order, givens_order, written_order, writtens_order, default_order}
use Rattle.verse_tree.specs.PostOrder.{param_order, params_order, fun_parts, field_parts, member_order, members_order, item_order}
use Rattle.verse_tree.specs.PostOrder.{items_order}
use Rattle.verse_tree.specs.Shapes.{Stand, as_block, as_part, as_statement, as_body, as_expression, as_generator, as_clause, as_arm}
use Rattle.verse_tree.specs.Shapes.{as_pattern}
use Rattle.verse_tree.specs.Shapes.{Shaped, PartsShaped, AllShaped, SomeShaped, TwoShaped, ClausesShaped, AllHoles, SomeHoles}
use Rattle.verse_tree.specs.Shapes.{PairsShaped, GivensShaped, AllOf, DefaultShaped, FunShaped, MemberShaped}
use Rattle.verse_tree.specs.Shapes.{ItemShaped, ItemsShaped}
use Rattle.lower_bounds.proofs.Lists.{Each, each_first, each_rest, each_joined, node}

abbrev pub WhatHas : (Shape → Type 0) → What → Type 0
WhatHas S (expression s) = S s
WhatHas S other = Unit {0}

-- what a node is given, and what is asked of a form
module _ (Q : Node → Type 0) (S : Shape → Type 0)
    (own : (n : ℕ) (pl : Place) (s : Shape) → PartsShaped s → Each Q (parts s) → Q (node n pl s) → S s) where
  abbrev pub NodeHas : Node → Type 0
  NodeHas v = WhatHas S v.what

  abbrev Leads : List Node → Type 0
  Leads vs = Each Q vs → Each NodeHas vs

  pair : (vs us : List Node) → Leads vs → Leads us → Leads (vs ++ us)
  pair vs us f g q = each_joined NodeHas vs us (f (each_first Q vs us q)) (g (each_rest Q vs us q))

  -- nodes and one behind them, of which nothing is asked
  behind : (vs : List Node) (v : Node) → Leads vs → NodeHas v → Leads (vs ++ v ∷ [])
  behind vs v f h q = each_joined NodeHas vs (v ∷ []) (f (each_first Q vs (v ∷ []) q)) (h, tt)

  mutual
    written_has : (w : Written) → Each NodeHas (written_order w)
    written_has t.Written.int = tt
    written_has t.Written.logic = tt
    written_has t.Written.char = tt
    written_has t.Written.string = tt
    written_has t.Written.void = tt
    written_has (t.Written.named n pl x) = (tt, tt)
    written_has (t.Written.option w) = written_has w
    written_has (t.Written.array w) = written_has w
    written_has (t.Written.task w) = written_has w
    written_has (t.Written.map k w) = each_joined NodeHas (written_order k) (written_order w) (written_has k) (written_has w)
    written_has (t.Written.tuple ws) = writtens_has ws
    written_has (t.Written.event w) = written_has w
    written_has t.Written.bare_event = tt

    writtens_has : (ws : Writtens) → Each NodeHas (writtens_order ws)
    writtens_has no_writtens = tt
    writtens_has (more_writtens w ws) = each_joined NodeHas (written_order w) (writtens_order ws) (written_has w) (writtens_has ws)

  mutual
    tree_has : (st : Stand) (b : Tree) → Shaped st b → Leads (post_order b)
    tree_has st (tree n pl s) h = λ q.
        let given = each_first Q (parts s) (node n pl s ∷ []) q in
        each_joined NodeHas (parts s) (node n pl s ∷ []) (parts_has s h.1 given)
        (own n pl s h.1 given (each_rest Q (parts s) (node n pl s ∷ []) q).0, tt)

    parts_has : (s : Shape) → PartsShaped s → Leads (parts s)
    parts_has (t.Shape.block cs) h = all_has as_part cs h
    parts_has (t.Shape.defer b) h = tree_has as_block b h
    parts_has (t.Shape.definition x b) h = tree_has as_expression b h
    parts_has (t.Shape.typed x w b) h = pair (written_order w) (post_order b)
        (λ q. written_has w) (tree_has as_expression b h.1)
    parts_has (t.Shape.variable x w b) h = pair (written_order w) (post_order b)
        (λ q. written_has w) (tree_has as_expression b h.1)
    parts_has (t.Shape.assignment x b c) h = pair (post_order b) (post_order c)
        (tree_has as_expression b h.0) (tree_has as_expression c h.1)
    parts_has (t.Shape.returned b) h = tree_has as_expression b h
    parts_has (t.Shape.if_else cs b c) h = pair (trees_order cs ++ post_order b) (post_order c)
        (pair (trees_order cs) (post_order b) (some_has as_statement cs h.0) (tree_has as_body b h.1))
        (tree_has as_body c h.2)
    parts_has (t.Shape.if_alone cs b) h = pair (trees_order cs) (post_order b)
        (some_has as_statement cs h.0) (tree_has as_body b h.1)
    parts_has (t.Shape.chained x b c) h = pair (post_order b) (post_order c)
        (tree_has as_expression b h.0) (tree_has as_expression c h.1)
    parts_has (t.Shape.compared x b c) h = pair (post_order b) (post_order c)
        (tree_has as_expression b h.0) (tree_has as_expression c h.1)
    parts_has (t.Shape.negation b) h = tree_has as_expression b h
    parts_has (t.Shape.minus b) h = tree_has as_expression b h
    parts_has (t.Shape.call b ts) h = pair (post_order b) (trees_order ts)
        (tree_has as_expression b h.0) (all_has as_expression ts h.1)
    parts_has (t.Shape.index b ts) h = pair (post_order b) (trees_order ts)
        (tree_has as_expression b h.0) (all_has as_expression ts h.1)
    parts_has (t.Shape.member b x) h = tree_has as_expression b h
    parts_has (t.Shape.query b) h = tree_has as_expression b h
    parts_has (t.Shape.holes bs hs) h = some_holes_has hs h
    parts_has (t.Shape.tuple ts) h = two_has ts h
    parts_has (t.Shape.array ts) h = all_has as_expression ts h
    parts_has (t.Shape.option ts) h = some_has as_statement ts h
    parts_has (t.Shape.logic ts) h = some_has as_statement ts h
    parts_has (t.Shape.mapping ps) h = pairs_has ps h
    parts_has (t.Shape.instance x gs) h = givens_has gs h
    parts_has (t.Shape.event w) h = λ q. written_has w
    parts_has (t.Shape.for_form cs b) h = pair (trees_order cs) (post_order b)
        (clauses_has cs h.0) (tree_has as_block b h.1)
    parts_has (t.Shape.loop_form b) h = tree_has as_block b h
    parts_has (t.Shape.block_form b) h = tree_has as_block b h
    parts_has (t.Shape.branch b) h = tree_has as_block b h
    parts_has (t.Shape.sync ts) h = all_has as_statement ts h
    parts_has (t.Shape.race ts) h = all_has as_statement ts h
    parts_has (t.Shape.rush ts) h = all_has as_statement ts h
    parts_has (t.Shape.cases b ts) h = pair (post_order b) (trees_order ts)
        (tree_has as_expression b h.0) (some_has as_arm ts h.1)
    parts_has (t.Shape.spawn b) h = tree_has as_expression b h
    parts_has (t.Shape.elements x b) h = tree_has as_expression b h
    parts_has (t.Shape.entries x y b) h = tree_has as_expression b h
    parts_has (t.Shape.range x b c) h = pair (post_order b) (post_order c)
        (tree_has as_expression b h.0) (tree_has as_expression c h.1)
    parts_has (t.Shape.arm a b) h = pair (post_order a) (post_order b)
        (tree_has as_pattern a h.0) (tree_has as_body b h.1)
    parts_has s h = λ q. tt

    all_has : (st : Stand) (ts : Trees) → AllShaped st ts → Leads (trees_order ts)
    all_has st no_trees h = λ q. tt
    all_has st (more_trees b ts) h = pair (post_order b) (trees_order ts) (tree_has st b h.0) (all_has st ts h.1)

    some_has : (st : Stand) (ts : Trees) → SomeShaped st ts → Leads (trees_order ts)
    some_has st no_trees h = absurd h
    some_has st (more_trees b ts) h = pair (post_order b) (trees_order ts) (tree_has st b h.0) (all_has st ts h.1)

    two_has : (ts : Trees) → TwoShaped ts → Leads (trees_order ts)
    two_has no_trees h = absurd h
    two_has (more_trees b ts) h =
        pair (post_order b) (trees_order ts) (tree_has as_expression b h.0) (some_has as_expression ts h.1)

    clauses_has : (ts : Trees) → ClausesShaped ts → Leads (trees_order ts)
    clauses_has no_trees h = absurd h
    clauses_has (more_trees b ts) h =
        pair (post_order b) (trees_order ts) (tree_has as_generator b h.0) (all_has as_clause ts h.1)

    holes_has : (hs : Holes) → AllHoles hs → Leads (holes_order hs)
    holes_has no_holes h = λ q. tt
    holes_has (more_holes b bs hs) h =
        pair (post_order b) (holes_order hs) (tree_has as_expression b h.0) (holes_has hs h.1)

    some_holes_has : (hs : Holes) → SomeHoles hs → Leads (holes_order hs)
    some_holes_has no_holes h = absurd h
    some_holes_has (more_holes b bs hs) h =
        pair (post_order b) (holes_order hs) (tree_has as_expression b h.0) (holes_has hs h.1)

    pairs_has : (ps : t.Pairs) → PairsShaped ps → Leads (pairs_order ps)
    pairs_has t.Pairs.no_pairs h = λ q. tt
    pairs_has (t.Pairs.more_pairs b c ps) h = pair (post_order b ++ post_order c) (pairs_order ps)
        (pair (post_order b) (post_order c) (tree_has as_expression b h.0) (tree_has as_expression c h.1))
        (pairs_has ps h.2)

    givens_has : (gs : Givens) → GivensShaped gs → Leads (givens_order gs)
    givens_has no_givens h = λ q. tt
    givens_has (more_givens x b gs) h =
        pair (post_order b) (givens_order gs) (tree_has as_expression b h.0) (givens_has gs h.1)

  -- ---- items

  default_has : (d : Option Tree) → DefaultShaped d → Leads (default_order d)
  default_has None h = λ q. tt
  default_has (Some b) h = tree_has as_expression b h

  params_has : (xs : List ParamTree) → Leads (params_order xs)
  params_has [] = λ q. tt
  params_has (x ∷ xs) = pair (param_order x) (params_order xs)
      (behind (written_order x.written) _ (λ q. written_has x.written) tt)
      (params_has xs)

  fun_has : (f : FunTree) → FunShaped f → Leads (fun_parts f)
  fun_has f h = pair (params_order f.params ++ written_order f.written) (post_order f.body)
      (pair (params_order f.params) (written_order f.written) (params_has f.params) (λ q. written_has f.written))
      (tree_has as_body f.body h.2)

  member_has : (m : MemberTree) → MemberShaped m → Leads (member_order m)
  member_has (field f) h = behind (field_parts f) _
      (pair (written_order f.written) (default_order f.default) (λ q. written_has f.written) (default_has f.default h.1))
      tt
  member_has (method f) h = behind (fun_parts f) _ (fun_has f h) tt

  members_has : (ms : List MemberTree) → AllOf MemberShaped ms → Leads (members_order ms)
  members_has [] h = λ q. tt
  members_has (m ∷ ms) h = pair (member_order m) (members_order ms) (member_has m h.0) (members_has ms h.1)

  item_has : (i : ItemTree) → ItemShaped i → Leads (item_order i)
  item_has (using u) h = λ q. (tt, tt)
  item_has (enumeration e) h = λ q. (tt, tt)
  item_has (class c) h = behind (members_order c.members) _ (members_has c.members h) tt
  item_has (function f) h = behind (fun_parts f) _ (fun_has f h) tt

  pub items_has : (is : List ItemTree) → ItemsShaped is → Leads (items_order is)
  items_has [] h = λ q. tt
  items_has (i ∷ is) h = pair (item_order i) (items_order is) (item_has i h.0) (items_has is h.1)
