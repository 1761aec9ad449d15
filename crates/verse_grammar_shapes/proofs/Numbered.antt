-- Numbering keeps the shapes of trees.
use Rattle.std.proofs.Common.{◌≡◌, ℕ, ◌+◌, true, List, [], ◌∷◌, Option, Some, None, refl, sym, subst}
use Rattle.verse_tree.specs.Tree.{Written, Writtens, no_writtens, more_writtens, Tree, tree, Shape, Trees, no_trees, more_trees, Holes}
use Rattle.verse_tree.specs.Tree.{no_holes, more_holes, Pairs, no_pairs, more_pairs, Givens, no_givens, more_givens}
use Rattle.verse_tree.specs.Tree as t
use Rattle.verse_tree.specs.ItemTree.{FieldTree, ParamTree, FunTree, MemberTree, ItemTree}
use Rattle.verse_tree.specs.ItemTree as i
use Rattle.verse_tree.specs.Numbering.{written_nodes, written_numbered, writtens_numbered, nodes, numbered, shape_numbered, trees_nodes}
use Rattle.verse_tree.specs.Numbering.{trees_numbered, holes_numbered, pairs_numbered, givens_numbered, list_nodes, list_numbered}
use Rattle.verse_tree.specs.Numbering.{default_numbered, field_numbered, param_nodes, param_numbered, fun_numbered, member_nodes}
use Rattle.verse_tree.specs.Numbering.{member_numbered, item_nodes, item_numbered}
use Rattle.verse_tree.specs.Shapes.{Sort, Stand, may_stand, sort, WrittenShaped, AllWritten, SomeWritten, TwoWritten, Shaped, PartsShaped}
use Rattle.verse_tree.specs.Shapes.{AllShaped, SomeShaped, TwoShaped, ClausesShaped, AllHoles, SomeHoles, PairsShaped, GivensShaped, AllOf}
use Rattle.verse_tree.specs.Shapes.{DefaultShaped, FieldShaped, ParamShaped, FunShaped, MemberShaped, ItemShaped}
use Rattle.verse_grammar_shapes.specs.ShapeLaws.{NumberingKeepsShapes}

mutual
  written_kept : (w : Written) (n : ℕ) → WrittenShaped w → WrittenShaped (written_numbered w n)
  written_kept (t.Written.option w) n h = written_kept w n h
  written_kept (t.Written.array w) n h = written_kept w n h
  written_kept (t.Written.map v w) n h = (written_kept v n h.0, written_kept w (n + written_nodes v) h.1)
  written_kept (t.Written.tuple ws) n h = two_written_kept ws n h
  written_kept (t.Written.task w) n h = written_kept w n h
  written_kept (t.Written.event w) n h = written_kept w n h
  written_kept _ n h = tt

  all_written_kept : (ws : Writtens) (n : ℕ) → AllWritten ws → AllWritten (writtens_numbered ws n)
  all_written_kept no_writtens n h = tt
  all_written_kept (more_writtens w ws) n h = (written_kept w n h.0, all_written_kept ws (n + written_nodes w) h.1)

  some_written_kept : (ws : Writtens) (n : ℕ) → SomeWritten ws → SomeWritten (writtens_numbered ws n)
  some_written_kept no_writtens n h = h
  some_written_kept (more_writtens w ws) n h = (written_kept w n h.0, all_written_kept ws (n + written_nodes w) h.1)

  two_written_kept : (ws : Writtens) (n : ℕ) → TwoWritten ws → TwoWritten (writtens_numbered ws n)
  two_written_kept no_writtens n h = h
  two_written_kept (more_writtens w ws) n h = (written_kept w n h.0, some_written_kept ws (n + written_nodes w) h.1)

-- a numbered form is a form of the same sort
same_sort : (shape : Shape) (n : ℕ) → sort (shape_numbered shape n) ≡ sort shape
same_sort (t.Shape.block ts) n = refl
same_sort (t.Shape.defer a) n = refl
same_sort (t.Shape.definition x a) n = refl
same_sort (t.Shape.typed x w a) n = refl
same_sort (t.Shape.variable x w a) n = refl
same_sort (t.Shape.assignment x a b) n = refl
same_sort (t.Shape.returned a) n = refl
same_sort t.Shape.returned_unit n = refl
same_sort t.Shape.break_form n = refl
same_sort (t.Shape.if_else ts a b) n = refl
same_sort (t.Shape.if_alone ts a) n = refl
same_sort (t.Shape.chained x a b) n = refl
same_sort (t.Shape.compared x a b) n = refl
same_sort (t.Shape.negation a) n = refl
same_sort (t.Shape.minus a) n = refl
same_sort (t.Shape.call a ts) n = refl
same_sort (t.Shape.index a ts) n = refl
same_sort (t.Shape.member a x) n = refl
same_sort (t.Shape.query a) n = refl
same_sort (t.Shape.integer x) n = refl
same_sort (t.Shape.character x) n = refl
same_sort (t.Shape.text x) n = refl
same_sort (t.Shape.holes x hs) n = refl
same_sort t.Shape.truth n = refl
same_sort t.Shape.falsehood n = refl
same_sort t.Shape.this n = refl
same_sort (t.Shape.name x) n = refl
same_sort (t.Shape.tuple ts) n = refl
same_sort (t.Shape.array ts) n = refl
same_sort (t.Shape.option ts) n = refl
same_sort (t.Shape.logic ts) n = refl
same_sort (t.Shape.mapping ps) n = refl
same_sort (t.Shape.instance x gs) n = refl
same_sort (t.Shape.event w) n = refl
same_sort t.Shape.bare_event n = refl
same_sort (t.Shape.for_form ts a) n = refl
same_sort (t.Shape.loop_form a) n = refl
same_sort (t.Shape.block_form a) n = refl
same_sort (t.Shape.branch a) n = refl
same_sort (t.Shape.sync ts) n = refl
same_sort (t.Shape.race ts) n = refl
same_sort (t.Shape.rush ts) n = refl
same_sort (t.Shape.cases a ts) n = refl
same_sort (t.Shape.spawn a) n = refl
same_sort (t.Shape.sleep x) n = refl
same_sort t.Shape.sleep_forever n = refl
same_sort (t.Shape.elements x a) n = refl
same_sort (t.Shape.entries x y a) n = refl
same_sort (t.Shape.range x a b) n = refl
same_sort (t.Shape.arm a b) n = refl
same_sort (t.Shape.integer_pattern x) n = refl
same_sort (t.Shape.minus_pattern x) n = refl
same_sort (t.Shape.character_pattern x) n = refl
same_sort (t.Shape.text_pattern x) n = refl
same_sort t.Shape.truth_pattern n = refl
same_sort t.Shape.falsehood_pattern n = refl
same_sort t.Shape.any_pattern n = refl
same_sort (t.Shape.enum_pattern x y) n = refl

stands : (s : Stand) (shape : Shape) (n : ℕ) → may_stand s (sort shape) ≡ true → may_stand s (sort (shape_numbered shape n)) ≡ true
stands s shape n h = subst (λ (x : Sort). may_stand s x ≡ true) (sym (same_sort shape n)) h

mutual
  pub kept : (s : Stand) (e : Tree) (n : ℕ) → Shaped s e → Shaped s (numbered e n)
  kept s (tree number place shape) n h = (stands s shape n h.0, parts_kept shape n h.1)

  parts_kept : (shape : Shape) (n : ℕ) → PartsShaped shape → PartsShaped (shape_numbered shape n)
  parts_kept (t.Shape.block ts) n h = all_kept _ ts n h
  parts_kept (t.Shape.defer a) n h = kept _ a n h
  parts_kept (t.Shape.definition x a) n h = kept _ a n h
  parts_kept (t.Shape.typed x w a) n h = (written_kept w n h.0, kept _ a (n + written_nodes w) h.1)
  parts_kept (t.Shape.variable x w a) n h = (written_kept w n h.0, kept _ a (n + written_nodes w) h.1)
  parts_kept (t.Shape.assignment x a b) n h = (kept _ a n h.0, kept _ b (n + nodes a) h.1)
  parts_kept (t.Shape.returned a) n h = kept _ a n h
  parts_kept (t.Shape.if_else ts a b) n h =
      (some_kept _ ts n h.0, kept _ a (n + trees_nodes ts) h.1, kept _ b (n + trees_nodes ts + nodes a) h.2)
  parts_kept (t.Shape.if_alone ts a) n h = (some_kept _ ts n h.0, kept _ a (n + trees_nodes ts) h.1)
  parts_kept (t.Shape.chained x a b) n h = (kept _ a n h.0, kept _ b (n + nodes a) h.1)
  parts_kept (t.Shape.compared x a b) n h = (kept _ a n h.0, kept _ b (n + nodes a) h.1)
  parts_kept (t.Shape.negation a) n h = kept _ a n h
  parts_kept (t.Shape.minus a) n h = kept _ a n h
  parts_kept (t.Shape.call a ts) n h = (kept _ a n h.0, all_kept _ ts (n + nodes a) h.1)
  parts_kept (t.Shape.index a ts) n h = (kept _ a n h.0, all_kept _ ts (n + nodes a) h.1)
  parts_kept (t.Shape.member a x) n h = kept _ a n h
  parts_kept (t.Shape.query a) n h = kept _ a n h
  parts_kept (t.Shape.holes x hs) n h = some_holes_kept hs n h
  parts_kept (t.Shape.tuple ts) n h = two_kept ts n h
  parts_kept (t.Shape.array ts) n h = all_kept _ ts n h
  parts_kept (t.Shape.option ts) n h = some_kept _ ts n h
  parts_kept (t.Shape.logic ts) n h = some_kept _ ts n h
  parts_kept (t.Shape.mapping ps) n h = pairs_kept ps n h
  parts_kept (t.Shape.instance x gs) n h = givens_kept gs n h
  parts_kept (t.Shape.event w) n h = written_kept w n h
  parts_kept (t.Shape.for_form ts a) n h = (clauses_kept ts n h.0, kept _ a (n + trees_nodes ts) h.1)
  parts_kept (t.Shape.loop_form a) n h = kept _ a n h
  parts_kept (t.Shape.block_form a) n h = kept _ a n h
  parts_kept (t.Shape.branch a) n h = kept _ a n h
  parts_kept (t.Shape.sync ts) n h = all_kept _ ts n h
  parts_kept (t.Shape.race ts) n h = all_kept _ ts n h
  parts_kept (t.Shape.rush ts) n h = all_kept _ ts n h
  parts_kept (t.Shape.cases a ts) n h = (kept _ a n h.0, some_kept _ ts (n + nodes a) h.1)
  parts_kept (t.Shape.spawn a) n h = kept _ a n h
  parts_kept (t.Shape.elements x a) n h = kept _ a n h
  parts_kept (t.Shape.entries x y a) n h = kept _ a n h
  parts_kept (t.Shape.range x a b) n h = (kept _ a n h.0, kept _ b (n + nodes a) h.1)
  parts_kept (t.Shape.arm a b) n h = (kept _ a n h.0, kept _ b (n + nodes a) h.1)
  parts_kept _ n h = tt

  all_kept : (s : Stand) (ts : Trees) (n : ℕ) → AllShaped s ts → AllShaped s (trees_numbered ts n)
  all_kept s no_trees n h = tt
  all_kept s (more_trees a ts) n h = (kept s a n h.0, all_kept s ts (n + nodes a) h.1)

  some_kept : (s : Stand) (ts : Trees) (n : ℕ) → SomeShaped s ts → SomeShaped s (trees_numbered ts n)
  some_kept s no_trees n h = h
  some_kept s (more_trees a ts) n h = (kept s a n h.0, all_kept s ts (n + nodes a) h.1)

  two_kept : (ts : Trees) (n : ℕ) → TwoShaped ts → TwoShaped (trees_numbered ts n)
  two_kept no_trees n h = h
  two_kept (more_trees a ts) n h = (kept _ a n h.0, some_kept _ ts (n + nodes a) h.1)

  clauses_kept : (ts : Trees) (n : ℕ) → ClausesShaped ts → ClausesShaped (trees_numbered ts n)
  clauses_kept no_trees n h = h
  clauses_kept (more_trees a ts) n h = (kept _ a n h.0, all_kept _ ts (n + nodes a) h.1)

  all_holes_kept : (hs : Holes) (n : ℕ) → AllHoles hs → AllHoles (holes_numbered hs n)
  all_holes_kept no_holes n h = tt
  all_holes_kept (more_holes a x hs) n h = (kept _ a n h.0, all_holes_kept hs (n + nodes a) h.1)

  some_holes_kept : (hs : Holes) (n : ℕ) → SomeHoles hs → SomeHoles (holes_numbered hs n)
  some_holes_kept no_holes n h = h
  some_holes_kept (more_holes a x hs) n h = (kept _ a n h.0, all_holes_kept hs (n + nodes a) h.1)

  pairs_kept : (ps : Pairs) (n : ℕ) → PairsShaped ps → PairsShaped (pairs_numbered ps n)
  pairs_kept no_pairs n h = tt
  pairs_kept (more_pairs a b ps) n h = (kept _ a n h.0, kept _ b (n + nodes a) h.1, pairs_kept ps (n + (nodes a + nodes b)) h.2)

  givens_kept : (gs : Givens) (n : ℕ) → GivensShaped gs → GivensShaped (givens_numbered gs n)
  givens_kept no_givens n h = tt
  givens_kept (more_givens x a gs) n h = (kept _ a n h.0, givens_kept gs (n + nodes a) h.1)

default_kept : (d : Option Tree) (n : ℕ) → DefaultShaped d → DefaultShaped (default_numbered d n)
default_kept None n h = tt
default_kept (Some a) n h = kept _ a n h

-- each of a list is kept, whatever its number
list_kept : {X : Type 0} (Each : X → Type 0) (step : X → ℕ → X) (size : X → ℕ) → ((x : X) (n : ℕ) → Each x → Each (step x n)) →
    (xs : List X) (n : ℕ) → AllOf Each xs → AllOf Each (list_numbered step size xs n)
list_kept Each step size f [] n h = tt
list_kept Each step size f (x ∷ xs) n h = (f x n h.0, list_kept Each step size f xs (n + size x) h.1)

param_kept : (p : ParamTree) (n : ℕ) → ParamShaped p → ParamShaped (param_numbered p n)
param_kept p n h = written_kept p.written n h

field_kept : (f : FieldTree) (n : ℕ) → FieldShaped f → FieldShaped (field_numbered f n)
field_kept f n h = (written_kept f.written n h.0, default_kept f.default (n + written_nodes f.written) h.1)

fun_kept : (f : FunTree) (n : ℕ) → FunShaped f → FunShaped (fun_numbered f n)
fun_kept f n h = (
  list_kept ParamShaped param_numbered param_nodes param_kept f.params n h.0,
  written_kept f.written (n + list_nodes param_nodes f.params) h.1,
  kept _ f.body (n + list_nodes param_nodes f.params + written_nodes f.written) h.2,
)

member_kept : (m : MemberTree) (n : ℕ) → MemberShaped m → MemberShaped (member_numbered m n)
member_kept (i.MemberTree.field f) n h = field_kept f n h
member_kept (i.MemberTree.method f) n h = fun_kept f n h

item_kept : (x : ItemTree) (n : ℕ) → ItemShaped x → ItemShaped (item_numbered x n)
item_kept (i.ItemTree.using u) n h = h
item_kept (i.ItemTree.enumeration e) n h = tt
item_kept (i.ItemTree.class c) n h = list_kept MemberShaped member_numbered member_nodes member_kept c.members n h
item_kept (i.ItemTree.function f) n h = fun_kept f n h

pub numbering_keeps : NumberingKeepsShapes
numbering_keeps is n h = list_kept ItemShaped item_numbered item_nodes item_kept is n h
