-- Numbering leaves the count of nodes.
use Rattle.std.proofs.Common.{◌≡◌, ℕ, ◌+◌, List, [], ◌∷◌, Option, Some, None, map, refl, sym, ap, ◌∙◌, arith}
use Rattle.verse_tree.specs.Tree.{Written, Writtens, no_writtens, more_writtens, Tree, tree, Shape, Trees, no_trees, more_trees, Holes}
use Rattle.verse_tree.specs.Tree.{no_holes, more_holes, Pairs, no_pairs, more_pairs, Givens, no_givens, more_givens}
use Rattle.verse_tree.specs.Tree as t
use Rattle.verse_tree.specs.ItemTree.{FieldTree, ParamTree, FunTree, MemberTree, ItemTree}
use Rattle.verse_tree.specs.ItemTree as i
use Rattle.verse_tree.specs.ItemView.{item_of}
use Rattle.verse_tree.specs.declared.items.Item.{Item}
use Rattle.verse_tree.specs.Numbering.{written_nodes, written_numbered, writtens_nodes, writtens_numbered, nodes, numbered, shape_nodes}
use Rattle.verse_tree.specs.Numbering.{shape_numbered, trees_nodes, trees_numbered, holes_nodes, holes_numbered, pairs_nodes}
use Rattle.verse_tree.specs.Numbering.{pairs_numbered, givens_nodes, givens_numbered, list_nodes, list_numbered, default_nodes}
use Rattle.verse_tree.specs.Numbering.{default_numbered, field_nodes, field_numbered, param_nodes, param_numbered, fun_nodes, fun_numbered}
use Rattle.verse_tree.specs.Numbering.{member_nodes, member_numbered, item_nodes, item_numbered, items_numbered, program_nodes}

mutual
  same_written : (w : Written) (n : ℕ) → written_nodes (written_numbered w n) ≡ written_nodes w
  same_written t.Written.int n = refl
  same_written t.Written.logic n = refl
  same_written t.Written.char n = refl
  same_written t.Written.string n = refl
  same_written t.Written.void n = refl
  same_written (t.Written.named number place name) n = refl
  same_written (t.Written.option w) n = same_written w n
  same_written (t.Written.array w) n = same_written w n
  same_written (t.Written.map v w) n = let i = same_written v n in let j = same_written w (n + written_nodes v) in omega (arith, i, j)
  same_written (t.Written.tuple ws) n = same_writtens ws n
  same_written (t.Written.task w) n = same_written w n
  same_written (t.Written.event w) n = same_written w n
  same_written t.Written.bare_event n = refl

  same_writtens : (ws : Writtens) (n : ℕ) → writtens_nodes (writtens_numbered ws n) ≡ writtens_nodes ws
  same_writtens no_writtens n = refl
  same_writtens (more_writtens w ws) n = let i = same_written w n in let j = same_writtens ws (n + written_nodes w) in omega (arith, i, j)

mutual
  same_nodes : (e : Tree) (n : ℕ) → nodes (numbered e n) ≡ nodes e
  same_nodes (tree number place s) n = ap (λ k. k + 1) (same_parts s n)

  same_parts : (s : Shape) (n : ℕ) → shape_nodes (shape_numbered s n) ≡ shape_nodes s
  same_parts (t.Shape.block ts) n = same_trees ts n
  same_parts (t.Shape.defer a) n = same_nodes a n
  same_parts (t.Shape.definition x a) n = same_nodes a n
  same_parts (t.Shape.typed x w a) n = let i = same_written w n in let j = same_nodes a (n + written_nodes w) in omega (arith, i, j)
  same_parts (t.Shape.variable x w a) n = let i = same_written w n in let j = same_nodes a (n + written_nodes w) in omega (arith, i, j)
  same_parts (t.Shape.assignment x a b) n = let i = same_nodes a n in let j = same_nodes b (n + nodes a) in omega (arith, i, j)
  same_parts (t.Shape.returned a) n = same_nodes a n
  same_parts t.Shape.returned_unit n = refl
  same_parts t.Shape.break_form n = refl
  same_parts (t.Shape.if_else ts a b) n = let i = same_trees ts n in let j = same_nodes a (n + trees_nodes ts) in let k =
      same_nodes b (n + trees_nodes ts + nodes a) in omega (arith, i, j, k)
  same_parts (t.Shape.if_alone ts a) n = let i = same_trees ts n in let j = same_nodes a (n + trees_nodes ts) in omega (arith, i, j)
  same_parts (t.Shape.chained x a b) n = let i = same_nodes a n in let j = same_nodes b (n + nodes a) in omega (arith, i, j)
  same_parts (t.Shape.compared x a b) n = let i = same_nodes a n in let j = same_nodes b (n + nodes a) in omega (arith, i, j)
  same_parts (t.Shape.negation a) n = same_nodes a n
  same_parts (t.Shape.minus a) n = same_nodes a n
  same_parts (t.Shape.call a ts) n = let i = same_nodes a n in let j = same_trees ts (n + nodes a) in omega (arith, i, j)
  same_parts (t.Shape.index a ts) n = let i = same_nodes a n in let j = same_trees ts (n + nodes a) in omega (arith, i, j)
  same_parts (t.Shape.member a x) n = same_nodes a n
  same_parts (t.Shape.query a) n = same_nodes a n
  same_parts (t.Shape.integer x) n = refl
  same_parts (t.Shape.character x) n = refl
  same_parts (t.Shape.text x) n = refl
  same_parts (t.Shape.holes x hs) n = same_holes hs n
  same_parts t.Shape.truth n = refl
  same_parts t.Shape.falsehood n = refl
  same_parts t.Shape.this n = refl
  same_parts (t.Shape.name x) n = refl
  same_parts (t.Shape.tuple ts) n = same_trees ts n
  same_parts (t.Shape.array ts) n = same_trees ts n
  same_parts (t.Shape.option ts) n = same_trees ts n
  same_parts (t.Shape.logic ts) n = same_trees ts n
  same_parts (t.Shape.mapping ps) n = same_pairs ps n
  same_parts (t.Shape.instance x gs) n = same_givens gs n
  same_parts (t.Shape.event w) n = same_written w n
  same_parts t.Shape.bare_event n = refl
  same_parts (t.Shape.for_form ts a) n = let i = same_trees ts n in let j = same_nodes a (n + trees_nodes ts) in omega (arith, i, j)
  same_parts (t.Shape.loop_form a) n = same_nodes a n
  same_parts (t.Shape.block_form a) n = same_nodes a n
  same_parts (t.Shape.branch a) n = same_nodes a n
  same_parts (t.Shape.sync ts) n = same_trees ts n
  same_parts (t.Shape.race ts) n = same_trees ts n
  same_parts (t.Shape.rush ts) n = same_trees ts n
  same_parts (t.Shape.cases a ts) n = let i = same_nodes a n in let j = same_trees ts (n + nodes a) in omega (arith, i, j)
  same_parts (t.Shape.spawn a) n = same_nodes a n
  same_parts (t.Shape.sleep x) n = refl
  same_parts t.Shape.sleep_forever n = refl
  same_parts (t.Shape.elements x a) n = same_nodes a n
  same_parts (t.Shape.entries x y a) n = same_nodes a n
  same_parts (t.Shape.range x a b) n = let i = same_nodes a n in let j = same_nodes b (n + nodes a) in omega (arith, i, j)
  same_parts (t.Shape.arm a b) n = let i = same_nodes a n in let j = same_nodes b (n + nodes a) in omega (arith, i, j)
  same_parts (t.Shape.integer_pattern x) n = refl
  same_parts (t.Shape.minus_pattern x) n = refl
  same_parts (t.Shape.character_pattern x) n = refl
  same_parts (t.Shape.text_pattern x) n = refl
  same_parts t.Shape.truth_pattern n = refl
  same_parts t.Shape.falsehood_pattern n = refl
  same_parts t.Shape.any_pattern n = refl
  same_parts (t.Shape.enum_pattern x y) n = refl

  same_trees : (ts : Trees) (n : ℕ) → trees_nodes (trees_numbered ts n) ≡ trees_nodes ts
  same_trees no_trees n = refl
  same_trees (more_trees a ts) n = let i = same_nodes a n in let j = same_trees ts (n + nodes a) in omega (arith, i, j)

  same_holes : (hs : Holes) (n : ℕ) → holes_nodes (holes_numbered hs n) ≡ holes_nodes hs
  same_holes no_holes n = refl
  same_holes (more_holes a x hs) n = let i = same_nodes a n in let j = same_holes hs (n + nodes a) in omega (arith, i, j)

  same_pairs : (ps : Pairs) (n : ℕ) → pairs_nodes (pairs_numbered ps n) ≡ pairs_nodes ps
  same_pairs no_pairs n = refl
  same_pairs (more_pairs a b ps) n = let i = same_nodes a n in let j = same_nodes b (n + nodes a) in let k =
      same_pairs ps (n + (nodes a + nodes b)) in omega (arith, i, j, k)

  same_givens : (gs : Givens) (n : ℕ) → givens_nodes (givens_numbered gs n) ≡ givens_nodes gs
  same_givens no_givens n = refl
  same_givens (more_givens x a gs) n = let i = same_nodes a n in let j = same_givens gs (n + nodes a) in omega (arith, i, j)

same_list : {X : Type 0} (step : X → ℕ → X) (size : X → ℕ) → ((x : X) (n : ℕ) → size (step x n) ≡ size x) → (xs : List X) (n : ℕ) →
    list_nodes size (list_numbered step size xs n) ≡ list_nodes size xs
same_list step size f [] n = refl
same_list step size f (x ∷ xs) n = let i = f x n in let j = same_list step size f xs (n + size x) in omega (arith, i, j)

same_default : (d : Option Tree) (n : ℕ) → default_nodes (default_numbered d n) ≡ default_nodes d
same_default None n = refl
same_default (Some a) n = same_nodes a n

same_param : (p : ParamTree) (n : ℕ) → param_nodes (param_numbered p n) ≡ param_nodes p
same_param p n = ap (λ k. k + 1) (same_written p.written n)

same_field : (f : FieldTree) (n : ℕ) → field_nodes (field_numbered f n) ≡ field_nodes f
same_field f n = let i = same_written f.written n in let j = same_default f.default (n + written_nodes f.written) in omega (arith, i, j)

same_fun : (f : FunTree) (n : ℕ) → fun_nodes (fun_numbered f n) ≡ fun_nodes f
same_fun f n =
    let i = same_list param_numbered param_nodes same_param f.params n in
    let j = same_written f.written (n + list_nodes param_nodes f.params) in
    let k = same_nodes f.body (n + list_nodes param_nodes f.params + written_nodes f.written) in
    omega (arith, i, j, k)

same_member : (m : MemberTree) (n : ℕ) → member_nodes (member_numbered m n) ≡ member_nodes m
same_member (i.MemberTree.field f) n = same_field f n
same_member (i.MemberTree.method f) n = same_fun f n

same_item : (x : ItemTree) (n : ℕ) → item_nodes (item_numbered x n) ≡ item_nodes x
same_item (i.ItemTree.using u) n = refl
same_item (i.ItemTree.enumeration e) n = refl
same_item (i.ItemTree.class c) n = ap (λ k. k + 1) (same_list member_numbered member_nodes same_member c.members n)
same_item (i.ItemTree.function f) n = same_fun f n

-- the nodes of a program that is numbered are those of the program
same_program : (is : List ItemTree) (n : ℕ) → program_nodes (items_numbered is n) ≡ program_nodes is
same_program is n = ap (λ k. k + 1) (same_list item_numbered item_nodes same_item is n)

pub counted : (all : List ItemTree) (items : List Item) (count : ℕ) → map item_of items ≡ items_numbered all 0 → count ≡ program_nodes all →
    count ≡ program_nodes (map item_of items)
counted all items count e n = n ∙ sym (same_program all 0) ∙ ap program_nodes (sym e)
