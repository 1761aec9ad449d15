-- What is numbered has the numbers from the first on, and is the same but for them.
use Rattle.std.proofs.Common.{◌≡◌, ℕ, suc, zero, ◌+◌, List, [], ◌∷◌, ◌++◌, map, length, Option, Some, None, refl, sym, ap, ◌∙◌, arith}
use Rattle.std.specs.List.{range_with_len}
use Rattle.std.proofs.lemmas.List.FromFn.{length-range_with_len}
use Rattle.verse_tree.specs.Tree.{Written, Writtens, no_writtens, more_writtens, Tree, tree, Shape, Trees, no_trees, more_trees, Holes}
use Rattle.verse_tree.specs.Tree.{no_holes, more_holes, Pairs, no_pairs, more_pairs, Givens, no_givens, more_givens}
use Rattle.verse_tree.specs.Tree as t
use Rattle.verse_tree.specs.ItemTree.{FieldTree, ParamTree, FunTree, MemberTree, ItemTree}
use Rattle.verse_tree.specs.ItemTree as i
use Rattle.verse_tree.specs.Numbering.{written_nodes, writtens_nodes, nodes, shape_nodes, trees_nodes, holes_nodes, pairs_nodes}
use Rattle.verse_tree.specs.Numbering.{givens_nodes, written_numbered, writtens_numbered, numbered, shape_numbered, trees_numbered}
use Rattle.verse_tree.specs.Numbering.{holes_numbered, pairs_numbered, givens_numbered, list_nodes, list_numbered, default_nodes}
use Rattle.verse_tree.specs.Numbering.{default_numbered, field_numbered, param_nodes, param_numbered, fun_numbered, member_nodes}
use Rattle.verse_tree.specs.Numbering.{member_numbered, item_nodes, item_numbered, items_nodes, items_numbered}
use Rattle.verse_tree.specs.PostOrder.{Node, written_order, writtens_order, post_order, parts, trees_order, holes_order, pairs_order}
use Rattle.verse_tree.specs.PostOrder.{givens_order, default_order, field_parts, param_order, params_order, fun_parts, member_order}
use Rattle.verse_tree.specs.PostOrder.{members_order, item_order, items_order}
use Rattle.verse_tree.specs.Numbers.{numbers, written_cleared, writtens_cleared, cleared, shape_cleared, trees_cleared, holes_cleared}
use Rattle.verse_tree.specs.Numbers.{pairs_cleared, givens_cleared, default_cleared, field_cleared, param_cleared, fun_cleared}
use Rattle.verse_tree.specs.Numbers.{member_cleared, item_cleared, NumberedInOrder, ProgramInOrder, NumbersAlone}

counted : (n a b : ℕ) → range_with_len n (a + b) ≡ range_with_len n a ++ range_with_len (n + a) b
counted n zero b =
    let e : n ≡ n + 0 = omega arith in
    let f : 0 + b ≡ b = omega arith in
    ap (range_with_len n) f ∙ ap (λ k. range_with_len k b) e
counted n (suc a) b =
    let e : (n + 1) + a ≡ n + suc a = omega arith in
    let f : suc a + b ≡ suc (a + b) = omega arith in
    ap (range_with_len n) f ∙ ap (λ l. n ∷ l) (counted (n + 1) a b ∙ ap (λ k. range_with_len (n + 1) a ++ range_with_len k b) e)

numbers_append : (l m : List Node) → numbers (l ++ m) ≡ numbers l ++ numbers m
numbers_append [] m = refl
numbers_append (x ∷ l) m = ap (λ k. x.number ∷ k) (numbers_append l m)

both : (l m : List Node) (n a b : ℕ) → numbers l ≡ range_with_len n a → numbers m ≡ range_with_len (n + a) b →
    numbers (l ++ m) ≡ range_with_len n (a + b)
both l m n a b e f = numbers_append l m ∙ ap (λ k. k ++ numbers m) e ∙ ap (λ k. range_with_len n a ++ k) f ∙ sym (counted n a b)

all_three : (l m k : List Node) (n a b c : ℕ) → numbers l ≡ range_with_len n a → numbers m ≡ range_with_len (n + a) b →
    numbers k ≡ range_with_len (n + a + b) c → numbers (l ++ m ++ k) ≡ range_with_len n (a + (b + c))
all_three l m k n a b c e f g =
    let at : n + a + b ≡ n + (a + b) = omega arith in
    let all : (a + b) + c ≡ a + (b + c) = omega arith in
    both _ _ n (a + b) c (both _ _ n a b e f) (g ∙ ap (λ (i : ℕ). range_with_len i c) at) ∙ ap (range_with_len n) all

ap_two : {A B C : Type 0} (f : A → B → C) {a x : A} {b y : B} → a ≡ x → b ≡ y → f a b ≡ f x y
ap_two f {a} {x} {b} {y} d e = ap (λ k. f k b) d ∙ ap (f x) e

ap_three : {A B C D : Type 0} (f : A → B → C → D) {a x : A} {b y : B} {c z : C} → a ≡ x → b ≡ y → c ≡ z → f a b c ≡ f x y z
ap_three f {a} {x} {b} {y} {c} {z} d e g = ap (λ k. f k b c) d ∙ ap_two (f x) e g

mutual
  written_in_order : (w : Written) (next : ℕ) → numbers (written_order (written_numbered w next)) ≡ range_with_len next (written_nodes w)
  written_in_order t.Written.int next = refl
  written_in_order t.Written.logic next = refl
  written_in_order t.Written.char next = refl
  written_in_order t.Written.string next = refl
  written_in_order t.Written.void next = refl
  written_in_order (t.Written.named number place name) next = refl
  written_in_order (t.Written.option w) next = written_in_order w next
  written_in_order (t.Written.array w) next = written_in_order w next
  written_in_order (t.Written.map w v) next =
      both _ _ next (written_nodes w) (written_nodes v) (written_in_order w next) (written_in_order v (next + written_nodes w))
  written_in_order (t.Written.tuple ws) next = writtens_in_order ws next
  written_in_order (t.Written.task w) next = written_in_order w next
  written_in_order (t.Written.event w) next = written_in_order w next
  written_in_order t.Written.bare_event next = refl

  writtens_in_order : (ws : Writtens) (next : ℕ) →
      numbers (writtens_order (writtens_numbered ws next)) ≡ range_with_len next (writtens_nodes ws)
  writtens_in_order no_writtens next = refl
  writtens_in_order (more_writtens w ws) next =
      both _ _ next (written_nodes w) (writtens_nodes ws) (written_in_order w next) (writtens_in_order ws (next + written_nodes w))

mutual
  in_order : (s : Tree) (next : ℕ) → numbers (post_order (numbered s next)) ≡ range_with_len next (nodes s)
  in_order (tree number place s) next = both _ _ next (shape_nodes s) 1 (shape_in_order s next) refl

  shape_in_order : (s : Shape) (next : ℕ) → numbers (parts (shape_numbered s next)) ≡ range_with_len next (shape_nodes s)
  shape_in_order (t.Shape.block ts) next = trees_in_order ts next
  shape_in_order (t.Shape.defer a) next = in_order a next
  shape_in_order (t.Shape.definition x a) next = in_order a next
  shape_in_order (t.Shape.typed x w a) next =
      both _ _ next (written_nodes w) (nodes a) (written_in_order w next) (in_order a (next + written_nodes w))
  shape_in_order (t.Shape.variable x w a) next =
      both _ _ next (written_nodes w) (nodes a) (written_in_order w next) (in_order a (next + written_nodes w))
  shape_in_order (t.Shape.assignment x a b) next = both _ _ next (nodes a) (nodes b) (in_order a next) (in_order b (next + nodes a))
  shape_in_order (t.Shape.returned a) next = in_order a next
  shape_in_order t.Shape.returned_unit next = refl
  shape_in_order t.Shape.break_form next = refl
  shape_in_order (t.Shape.if_else ts a b) next =
      all_three _ _ _ next (trees_nodes ts) (nodes a) (nodes b) (trees_in_order ts next) (in_order a (next + trees_nodes ts))
      (in_order b (next + trees_nodes ts + nodes a))
  shape_in_order (t.Shape.if_alone ts a) next =
      both _ _ next (trees_nodes ts) (nodes a) (trees_in_order ts next) (in_order a (next + trees_nodes ts))
  shape_in_order (t.Shape.chained x a b) next = both _ _ next (nodes a) (nodes b) (in_order a next) (in_order b (next + nodes a))
  shape_in_order (t.Shape.compared x a b) next = both _ _ next (nodes a) (nodes b) (in_order a next) (in_order b (next + nodes a))
  shape_in_order (t.Shape.negation a) next = in_order a next
  shape_in_order (t.Shape.minus a) next = in_order a next
  shape_in_order (t.Shape.call a ts) next = both _ _ next (nodes a) (trees_nodes ts) (in_order a next) (trees_in_order ts (next + nodes a))
  shape_in_order (t.Shape.index a ts) next = both _ _ next (nodes a) (trees_nodes ts) (in_order a next) (trees_in_order ts (next + nodes a))
  shape_in_order (t.Shape.member a x) next = in_order a next
  shape_in_order (t.Shape.query a) next = in_order a next
  shape_in_order (t.Shape.integer x) next = refl
  shape_in_order (t.Shape.character x) next = refl
  shape_in_order (t.Shape.text x) next = refl
  shape_in_order (t.Shape.holes x hs) next = holes_in_order hs next
  shape_in_order t.Shape.truth next = refl
  shape_in_order t.Shape.falsehood next = refl
  shape_in_order t.Shape.this next = refl
  shape_in_order (t.Shape.name x) next = refl
  shape_in_order (t.Shape.tuple ts) next = trees_in_order ts next
  shape_in_order (t.Shape.array ts) next = trees_in_order ts next
  shape_in_order (t.Shape.option ts) next = trees_in_order ts next
  shape_in_order (t.Shape.logic ts) next = trees_in_order ts next
  shape_in_order (t.Shape.mapping ps) next = pairs_in_order ps next
  shape_in_order (t.Shape.instance x gs) next = givens_in_order gs next
  shape_in_order (t.Shape.event w) next = written_in_order w next
  shape_in_order t.Shape.bare_event next = refl
  shape_in_order (t.Shape.for_form ts a) next =
      both _ _ next (trees_nodes ts) (nodes a) (trees_in_order ts next) (in_order a (next + trees_nodes ts))
  shape_in_order (t.Shape.loop_form a) next = in_order a next
  shape_in_order (t.Shape.block_form a) next = in_order a next
  shape_in_order (t.Shape.branch a) next = in_order a next
  shape_in_order (t.Shape.sync ts) next = trees_in_order ts next
  shape_in_order (t.Shape.race ts) next = trees_in_order ts next
  shape_in_order (t.Shape.rush ts) next = trees_in_order ts next
  shape_in_order (t.Shape.cases a ts) next = both _ _ next (nodes a) (trees_nodes ts) (in_order a next) (trees_in_order ts (next + nodes a))
  shape_in_order (t.Shape.spawn a) next = in_order a next
  shape_in_order (t.Shape.sleep x) next = refl
  shape_in_order t.Shape.sleep_forever next = refl
  shape_in_order (t.Shape.elements x a) next = in_order a next
  shape_in_order (t.Shape.entries x y a) next = in_order a next
  shape_in_order (t.Shape.range x a b) next = both _ _ next (nodes a) (nodes b) (in_order a next) (in_order b (next + nodes a))
  shape_in_order (t.Shape.arm a b) next = both _ _ next (nodes a) (nodes b) (in_order a next) (in_order b (next + nodes a))
  shape_in_order (t.Shape.integer_pattern x) next = refl
  shape_in_order (t.Shape.minus_pattern x) next = refl
  shape_in_order (t.Shape.character_pattern x) next = refl
  shape_in_order (t.Shape.text_pattern x) next = refl
  shape_in_order t.Shape.truth_pattern next = refl
  shape_in_order t.Shape.falsehood_pattern next = refl
  shape_in_order t.Shape.any_pattern next = refl
  shape_in_order (t.Shape.enum_pattern x y) next = refl

  trees_in_order : (ts : Trees) (next : ℕ) → numbers (trees_order (trees_numbered ts next)) ≡ range_with_len next (trees_nodes ts)
  trees_in_order no_trees next = refl
  trees_in_order (more_trees a ts) next = both _ _ next (nodes a) (trees_nodes ts) (in_order a next) (trees_in_order ts (next + nodes a))

  holes_in_order : (hs : Holes) (next : ℕ) → numbers (holes_order (holes_numbered hs next)) ≡ range_with_len next (holes_nodes hs)
  holes_in_order no_holes next = refl
  holes_in_order (more_holes a x hs) next = both _ _ next (nodes a) (holes_nodes hs) (in_order a next) (holes_in_order hs (next + nodes a))

  pairs_in_order : (ps : Pairs) (next : ℕ) → numbers (pairs_order (pairs_numbered ps next)) ≡ range_with_len next (pairs_nodes ps)
  pairs_in_order no_pairs next = refl
  pairs_in_order (more_pairs a b ps) next =
      both _ _ next (nodes a + nodes b) (pairs_nodes ps) (both _ _ next (nodes a) (nodes b) (in_order a next) (in_order b (next + nodes a)))
      (pairs_in_order ps (next + (nodes a + nodes b)))

  givens_in_order : (gs : Givens) (next : ℕ) → numbers (givens_order (givens_numbered gs next)) ≡ range_with_len next (givens_nodes gs)
  givens_in_order no_givens next = refl
  givens_in_order (more_givens x a gs) next =
      both _ _ next (nodes a) (givens_nodes gs) (in_order a next) (givens_in_order gs (next + nodes a))

mutual
  written_kept : (w : Written) (next : ℕ) → written_cleared (written_numbered w next) ≡ written_cleared w
  written_kept t.Written.int next = refl
  written_kept t.Written.logic next = refl
  written_kept t.Written.char next = refl
  written_kept t.Written.string next = refl
  written_kept t.Written.void next = refl
  written_kept (t.Written.named number place name) next = refl
  written_kept (t.Written.option w) next = ap (λ (k : Written). t.Written.option k) (written_kept w next)
  written_kept (t.Written.array w) next = ap (λ (k : Written). t.Written.array k) (written_kept w next)
  written_kept (t.Written.map w v) next = ap_two (λ (k : Written) (l : Written). t.Written.map k l) (written_kept w next)
      (written_kept v (next + written_nodes w))
  written_kept (t.Written.tuple ws) next = ap (λ (k : Writtens). t.Written.tuple k) (writtens_kept ws next)
  written_kept (t.Written.task w) next = ap (λ (k : Written). t.Written.task k) (written_kept w next)
  written_kept (t.Written.event w) next = ap (λ (k : Written). t.Written.event k) (written_kept w next)
  written_kept t.Written.bare_event next = refl

  writtens_kept : (ws : Writtens) (next : ℕ) → writtens_cleared (writtens_numbered ws next) ≡ writtens_cleared ws
  writtens_kept no_writtens next = refl
  writtens_kept (more_writtens w ws) next = ap_two more_writtens (written_kept w next) (writtens_kept ws (next + written_nodes w))

mutual
  kept : (s : Tree) (next : ℕ) → cleared (numbered s next) ≡ cleared s
  kept (tree number place s) next = ap (tree 0 place) (shape_kept s next)

  shape_kept : (s : Shape) (next : ℕ) → shape_cleared (shape_numbered s next) ≡ shape_cleared s
  shape_kept (t.Shape.block ts) next = ap (λ (k : Trees). t.Shape.block k) (trees_kept ts next)
  shape_kept (t.Shape.defer a) next = ap (λ (k : Tree). t.Shape.defer k) (kept a next)
  shape_kept (t.Shape.definition x a) next = ap (λ (k : Tree). t.Shape.definition x k) (kept a next)
  shape_kept (t.Shape.typed x w a) next = ap_two (λ (k : Written) (l : Tree). t.Shape.typed x k l) (written_kept w next)
      (kept a (next + written_nodes w))
  shape_kept (t.Shape.variable x w a) next =
      ap_two (λ (k : Written) (l : Tree). t.Shape.variable x k l) (written_kept w next) (kept a (next + written_nodes w))
  shape_kept (t.Shape.assignment x a b) next =
      ap_two (λ (k : Tree) (l : Tree). t.Shape.assignment x k l) (kept a next) (kept b (next + nodes a))
  shape_kept (t.Shape.returned a) next = ap (λ (k : Tree). t.Shape.returned k) (kept a next)
  shape_kept t.Shape.returned_unit next = refl
  shape_kept t.Shape.break_form next = refl
  shape_kept (t.Shape.if_else ts a b) next =
      ap_three (λ (k : Trees) (l : Tree) (m : Tree). t.Shape.if_else k l m) (trees_kept ts next) (kept a (next + trees_nodes ts))
      (kept b (next + trees_nodes ts + nodes a))
  shape_kept (t.Shape.if_alone ts a) next =
      ap_two (λ (k : Trees) (l : Tree). t.Shape.if_alone k l) (trees_kept ts next) (kept a (next + trees_nodes ts))
  shape_kept (t.Shape.chained x a b) next = ap_two (λ (k : Tree) (l : Tree). t.Shape.chained x k l) (kept a next) (kept b (next + nodes a))
  shape_kept (t.Shape.compared x a b) next =
      ap_two (λ (k : Tree) (l : Tree). t.Shape.compared x k l) (kept a next) (kept b (next + nodes a))
  shape_kept (t.Shape.negation a) next = ap (λ (k : Tree). t.Shape.negation k) (kept a next)
  shape_kept (t.Shape.minus a) next = ap (λ (k : Tree). t.Shape.minus k) (kept a next)
  shape_kept (t.Shape.call a ts) next = ap_two (λ (k : Tree) (l : Trees). t.Shape.call k l) (kept a next) (trees_kept ts (next + nodes a))
  shape_kept (t.Shape.index a ts) next = ap_two (λ (k : Tree) (l : Trees). t.Shape.index k l) (kept a next) (trees_kept ts (next + nodes a))
  shape_kept (t.Shape.member a x) next = ap (λ (k : Tree). t.Shape.member k x) (kept a next)
  shape_kept (t.Shape.query a) next = ap (λ (k : Tree). t.Shape.query k) (kept a next)
  shape_kept (t.Shape.integer x) next = refl
  shape_kept (t.Shape.character x) next = refl
  shape_kept (t.Shape.text x) next = refl
  shape_kept (t.Shape.holes x hs) next = ap (λ (k : Holes). t.Shape.holes x k) (holes_kept hs next)
  shape_kept t.Shape.truth next = refl
  shape_kept t.Shape.falsehood next = refl
  shape_kept t.Shape.this next = refl
  shape_kept (t.Shape.name x) next = refl
  shape_kept (t.Shape.tuple ts) next = ap (λ (k : Trees). t.Shape.tuple k) (trees_kept ts next)
  shape_kept (t.Shape.array ts) next = ap (λ (k : Trees). t.Shape.array k) (trees_kept ts next)
  shape_kept (t.Shape.option ts) next = ap (λ (k : Trees). t.Shape.option k) (trees_kept ts next)
  shape_kept (t.Shape.logic ts) next = ap (λ (k : Trees). t.Shape.logic k) (trees_kept ts next)
  shape_kept (t.Shape.mapping ps) next = ap (λ (k : Pairs). t.Shape.mapping k) (pairs_kept ps next)
  shape_kept (t.Shape.instance x gs) next = ap (λ (k : Givens). t.Shape.instance x k) (givens_kept gs next)
  shape_kept (t.Shape.event w) next = ap (λ (k : Written). t.Shape.event k) (written_kept w next)
  shape_kept t.Shape.bare_event next = refl
  shape_kept (t.Shape.for_form ts a) next =
      ap_two (λ (k : Trees) (l : Tree). t.Shape.for_form k l) (trees_kept ts next) (kept a (next + trees_nodes ts))
  shape_kept (t.Shape.loop_form a) next = ap (λ (k : Tree). t.Shape.loop_form k) (kept a next)
  shape_kept (t.Shape.block_form a) next = ap (λ (k : Tree). t.Shape.block_form k) (kept a next)
  shape_kept (t.Shape.branch a) next = ap (λ (k : Tree). t.Shape.branch k) (kept a next)
  shape_kept (t.Shape.sync ts) next = ap (λ (k : Trees). t.Shape.sync k) (trees_kept ts next)
  shape_kept (t.Shape.race ts) next = ap (λ (k : Trees). t.Shape.race k) (trees_kept ts next)
  shape_kept (t.Shape.rush ts) next = ap (λ (k : Trees). t.Shape.rush k) (trees_kept ts next)
  shape_kept (t.Shape.cases a ts) next = ap_two (λ (k : Tree) (l : Trees). t.Shape.cases k l) (kept a next) (trees_kept ts (next + nodes a))
  shape_kept (t.Shape.spawn a) next = ap (λ (k : Tree). t.Shape.spawn k) (kept a next)
  shape_kept (t.Shape.sleep x) next = refl
  shape_kept t.Shape.sleep_forever next = refl
  shape_kept (t.Shape.elements x a) next = ap (λ (k : Tree). t.Shape.elements x k) (kept a next)
  shape_kept (t.Shape.entries x y a) next = ap (λ (k : Tree). t.Shape.entries x y k) (kept a next)
  shape_kept (t.Shape.range x a b) next = ap_two (λ (k : Tree) (l : Tree). t.Shape.range x k l) (kept a next) (kept b (next + nodes a))
  shape_kept (t.Shape.arm a b) next = ap_two (λ (k : Tree) (l : Tree). t.Shape.arm k l) (kept a next) (kept b (next + nodes a))
  shape_kept (t.Shape.integer_pattern x) next = refl
  shape_kept (t.Shape.minus_pattern x) next = refl
  shape_kept (t.Shape.character_pattern x) next = refl
  shape_kept (t.Shape.text_pattern x) next = refl
  shape_kept t.Shape.truth_pattern next = refl
  shape_kept t.Shape.falsehood_pattern next = refl
  shape_kept t.Shape.any_pattern next = refl
  shape_kept (t.Shape.enum_pattern x y) next = refl

  trees_kept : (ts : Trees) (next : ℕ) → trees_cleared (trees_numbered ts next) ≡ trees_cleared ts
  trees_kept no_trees next = refl
  trees_kept (more_trees a ts) next = ap_two more_trees (kept a next) (trees_kept ts (next + nodes a))

  holes_kept : (hs : Holes) (next : ℕ) → holes_cleared (holes_numbered hs next) ≡ holes_cleared hs
  holes_kept no_holes next = refl
  holes_kept (more_holes a x hs) next = ap_two (λ k l. more_holes k x l) (kept a next) (holes_kept hs (next + nodes a))

  pairs_kept : (ps : Pairs) (next : ℕ) → pairs_cleared (pairs_numbered ps next) ≡ pairs_cleared ps
  pairs_kept no_pairs next = refl
  pairs_kept (more_pairs a b ps) next = ap_three more_pairs (kept a next) (kept b (next + nodes a))
      (pairs_kept ps (next + (nodes a + nodes b)))

  givens_kept : (gs : Givens) (next : ℕ) → givens_cleared (givens_numbered gs next) ≡ givens_cleared gs
  givens_kept no_givens next = refl
  givens_kept (more_givens x a gs) next = ap_two (more_givens x) (kept a next) (givens_kept gs (next + nodes a))

-- lists of what is in order itself
module _ {X : Type 0} (step : X → ℕ → X) (size : X → ℕ) where
  list_kept : {Y : Type 0} (clear : X → Y) → ((x : X) (next : ℕ) → clear (step x next) ≡ clear x) → (xs : List X) (next : ℕ) →
      map clear (list_numbered step size xs next) ≡ map clear xs
  list_kept clear h [] next = refl
  list_kept clear h (x ∷ xs) next = ap_two (λ k l. k ∷ l) (h x next) (list_kept clear h xs (next + size x))

default_in_order : (o : Option Tree) (next : ℕ) → numbers (default_order (default_numbered o next)) ≡ range_with_len next (default_nodes o)
default_in_order None next = refl
default_in_order (Some a) next = in_order a next

field_in_order : (f : FieldTree) (next : ℕ) →
    numbers (field_parts (field_numbered f next)) ≡ range_with_len next (written_nodes f.written + default_nodes f.default)
field_in_order f next = both _ _ next (written_nodes f.written) (default_nodes f.default) (written_in_order f.written next)
    (default_in_order f.default (next + written_nodes f.written))

param_in_order : (p : ParamTree) (next : ℕ) → numbers (param_order (param_numbered p next)) ≡ range_with_len next (param_nodes p)
param_in_order p next = both _ _ next (written_nodes p.written) 1 (written_in_order p.written next) refl

params_in_order : (ps : List ParamTree) (next : ℕ) → numbers (params_order (list_numbered param_numbered param_nodes ps next)) ≡
    range_with_len next (list_nodes param_nodes ps)
params_in_order [] next = refl
params_in_order (p ∷ ps) next = both _ _ next (param_nodes p) (list_nodes param_nodes ps) (param_in_order p next)
    (params_in_order ps (next + param_nodes p))

fun_in_order : (f : FunTree) (next : ℕ) → numbers (fun_parts (fun_numbered f next)) ≡
    range_with_len next (list_nodes param_nodes f.params + (written_nodes f.written + nodes f.body))
fun_in_order f next =
    let behind = next + list_nodes param_nodes f.params in
    all_three _ _ _ next (list_nodes param_nodes f.params) (written_nodes f.written) (nodes f.body) (params_in_order f.params next)
    (written_in_order f.written behind) (in_order f.body (behind + written_nodes f.written))

member_in_order : (m : MemberTree) (next : ℕ) → numbers (member_order (member_numbered m next)) ≡ range_with_len next (member_nodes m)
member_in_order (i.MemberTree.field f) next =
    both _ _ next (written_nodes f.written + default_nodes f.default) 1 (field_in_order f next) refl
member_in_order (i.MemberTree.method f) next =
    both _ _ next (list_nodes param_nodes f.params + (written_nodes f.written + nodes f.body)) 1 (fun_in_order f next) refl

members_in_order : (ms : List MemberTree) (next : ℕ) → numbers (members_order (list_numbered member_numbered member_nodes ms next)) ≡
    range_with_len next (list_nodes member_nodes ms)
members_in_order [] next = refl
members_in_order (m ∷ ms) next = both _ _ next (member_nodes m) (list_nodes member_nodes ms) (member_in_order m next)
    (members_in_order ms (next + member_nodes m))

item_in_order : (x : ItemTree) (next : ℕ) → numbers (item_order (item_numbered x next)) ≡ range_with_len next (item_nodes x)
item_in_order (i.ItemTree.using u) next = refl
item_in_order (i.ItemTree.enumeration e) next = refl
item_in_order (i.ItemTree.class c) next = both _ _ next (list_nodes member_nodes c.members) 1 (members_in_order c.members next) refl
item_in_order (i.ItemTree.function f) next =
    both _ _ next (list_nodes param_nodes f.params + (written_nodes f.written + nodes f.body)) 1 (fun_in_order f next) refl

pub items_in_order : NumberedInOrder
items_in_order [] next = refl
items_in_order (x ∷ xs) next = both _ _ next (item_nodes x) (items_nodes xs) (item_in_order x next)
    (items_in_order xs (next + item_nodes x))

pub numbers_length : (ns : List Node) → length (numbers ns) ≡ length ns
numbers_length [] = refl
numbers_length (n ∷ ns) = ap suc (numbers_length ns)

pub program_in_order : ProgramInOrder
program_in_order items =
    let numbered_items = items_numbered items 0 in
    let before : numbers (items_order numbered_items) ≡ range_with_len 0 (items_nodes items) = items_in_order items 0 in
    let last : length (items_order numbered_items) ≡ items_nodes items =
    sym (numbers_length (items_order numbered_items)) ∙ ap length before ∙ length-range_with_len 0 (items_nodes items) in
    let behind : items_nodes items ≡ 0 + items_nodes items = omega arith in
    both _ _ 0 (items_nodes items) 1 before (ap (λ (n : ℕ). n ∷ []) (last ∙ behind))

default_kept : (o : Option Tree) (next : ℕ) → default_cleared (default_numbered o next) ≡ default_cleared o
default_kept None next = refl
default_kept (Some a) next = ap Some (kept a next)

field_kept : (f : FieldTree) (next : ℕ) → field_cleared (field_numbered f next) ≡ field_cleared f
field_kept f next = ap_two (λ (w : Written) (d : Option Tree). record f { number = 0; written = w; default = d })
    (written_kept f.written next) (default_kept f.default (next + written_nodes f.written))

param_kept : (p : ParamTree) (next : ℕ) → param_cleared (param_numbered p next) ≡ param_cleared p
param_kept p next = ap (λ (w : Written). record p { number = 0; written = w }) (written_kept p.written next)

fun_kept : (f : FunTree) (next : ℕ) → fun_cleared (fun_numbered f next) ≡ fun_cleared f
fun_kept f next = ap_three (λ (ps : List ParamTree) (w : Written) (b : Tree). record f { number = 0; params = ps; written = w; body = b })
    (list_kept param_numbered param_nodes param_cleared param_kept f.params next)
    (written_kept f.written (next + list_nodes param_nodes f.params))
    (kept f.body (next + list_nodes param_nodes f.params + written_nodes f.written))

member_kept : (m : MemberTree) (next : ℕ) → member_cleared (member_numbered m next) ≡ member_cleared m
member_kept (i.MemberTree.field f) next = ap i.MemberTree.field (field_kept f next)
member_kept (i.MemberTree.method f) next = ap i.MemberTree.method (fun_kept f next)

item_kept : (x : ItemTree) (next : ℕ) → item_cleared (item_numbered x next) ≡ item_cleared x
item_kept (i.ItemTree.using u) next = refl
item_kept (i.ItemTree.enumeration e) next = refl
item_kept (i.ItemTree.class c) next = ap (λ (ms : List MemberTree). i.ItemTree.class (record c { number = 0; members = ms }))
    (list_kept member_numbered member_nodes member_cleared member_kept c.members next)
item_kept (i.ItemTree.function f) next = ap i.ItemTree.function (fun_kept f next)

pub items_kept : NumbersAlone
items_kept items next = list_kept item_numbered item_nodes item_cleared item_kept items next

pub both_nodes : (is js : List ItemTree) → items_nodes (is ++ js) ≡ items_nodes is + items_nodes js
both_nodes [] js = omega arith
both_nodes (i ∷ is) js = let rest = both_nodes is js in omega arith
