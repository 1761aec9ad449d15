-- What a value of the code stands for.
use Rattle.std.specs.Prelude.{ℕ, List, [], ◌∷◌, Option, Some, None}
use Rattle.verse_tree.specs.Tree.{Bytes, Written, Writtens, no_writtens, more_writtens, Tree, tree}
use Rattle.verse_tree.specs.Tree.{Shape, Trees, no_trees, more_trees}
use Rattle.verse_tree.specs.Tree.{Holes, no_holes, more_holes, Pairs, no_pairs, more_pairs, Givens}
use Rattle.verse_tree.specs.Tree.{no_givens, more_givens}
use Rattle.verse_tree.specs.Tree as t
use Rattle.verse_tree.specs.declared.types.TyExpr.{TyExpr, TyExpr-F, fold-TyExpr}
use Rattle.verse_tree.specs.declared.types.MapTy.{MapTy-F}
use Rattle.verse_tree.specs.declared.types.TyExpr.TheOpen as ty
use Rattle.verse_tree.specs.declared.exprs.Expr.{Expr, Expr-F, fold-Expr}
use Rattle.verse_tree.specs.declared.exprs.Form.{Form, Form-F, fold-Form}
use Rattle.verse_tree.specs.declared.exprs.Form.TheOpen as form
use Rattle.verse_tree.specs.declared.exprs.Applied.{Applied, Applied-F, fold-Applied}
use Rattle.verse_tree.specs.declared.exprs.Cases.{Cases, Cases-F, fold-Cases}
use Rattle.verse_tree.specs.declared.exprs.IfParts.{IfParts, IfParts-F, fold-IfParts}
use Rattle.verse_tree.specs.declared.exprs.ForParts.{ForParts, ForParts-F, fold-ForParts}
use Rattle.verse_tree.specs.declared.exprs.Given.{Given, Given-F, fold-Given}
use Rattle.verse_tree.specs.declared.exprs.Hole.{Hole, Hole-F, fold-Hole}
use Rattle.verse_tree.specs.declared.exprs.Pair.{Pair, Pair-F, fold-Pair}
use Rattle.verse_tree.specs.declared.exprs.Two.{Two, Two-F, fold-Two}
use Rattle.verse_tree.specs.declared.exprs.TypedValue.{TypedValue, TypedValue-F, fold-TypedValue}

abbrev pub writtens : List Written → Writtens
writtens [] = no_writtens
writtens (w ∷ ws) = more_writtens w (writtens ws)

abbrev pub event_written : Option Written → Written
event_written None = t.Written.bare_event
event_written (Some w) = t.Written.event w

abbrev pub written_step : TyExpr-F Written (Written × Written) → Written
written_step ty.Int = t.Written.int
written_step ty.Logic = t.Written.logic
written_step ty.Char = t.Written.char
written_step ty.String = t.Written.string
written_step ty.Void = t.Written.void
written_step (ty.Name n) = t.Written.named n.node n.place n.name
written_step (ty.Option k) = t.Written.option k
written_step (ty.Array k) = t.Written.array k
written_step (ty.Map m) = t.Written.map m.0 m.1
written_step (ty.Tuple ks) = t.Written.tuple (writtens ks)
written_step (ty.Task k) = t.Written.task k
written_step (ty.Event o) = event_written o

abbrev pub map_written : MapTy-F Written (Written × Written) → Written × Written
map_written m = (m.key, m.value)

abbrev pub written_of : TyExpr → Written
written_of = fold-TyExpr Written (Written × Written) written_step map_written

abbrev pub trees : List Tree → Trees
trees [] = no_trees
trees (t ∷ ts) = more_trees t (trees ts)

abbrev pub holes : List (Tree × Bytes) → Holes
holes [] = no_holes
holes (h ∷ hs) = more_holes h.0 h.1 (holes hs)

abbrev pub pairs : List (Tree × Tree) → Pairs
pairs [] = no_pairs
pairs (p ∷ ps) = more_pairs p.0 p.1 (pairs ps)

abbrev pub givens : List (Bytes × Tree) → Givens
givens [] = no_givens
givens (g ∷ gs) = more_givens g.0 g.1 (givens gs)

abbrev pub return_shape : Option Tree → Shape
return_shape None = t.Shape.returned_unit
return_shape (Some e) = t.Shape.returned e

abbrev pub if_shape : Trees → Tree → Option Tree → Shape
if_shape cs e None = t.Shape.if_alone cs e
if_shape cs e (Some o) = t.Shape.if_else cs e o

abbrev pub event_shape : Option TyExpr → Shape
event_shape None = t.Shape.bare_event
event_shape (Some w) = t.Shape.event (written_of w)

abbrev pub sleep_shape : Option ℕ → Shape
sleep_shape None = t.Shape.sleep_forever
sleep_shape (Some n) = t.Shape.sleep n

-- the conditions, the part taken where they hold, and the other part where there is one
pub record Parts : Type 0 where
  pub conditions : List Tree
  pub taken : Tree
  pub otherwise : Option Tree

-- one layer, whose parts are trees already
abbrev pub shape_step : Form-F Shape (Tree × List Tree) (Tree × List Tree) Tree (List Tree × Tree)
    (Bytes × Tree) (Tree × Bytes) Parts (Tree × Tree) (Tree × Tree) (Written × Tree) → Shape
shape_step (form.Block es) = t.Shape.block (trees es)
shape_step (form.Defer e) = t.Shape.defer e
shape_step (form.Let n e) = t.Shape.definition n e
shape_step (form.Def n d) = t.Shape.typed n d.0 d.1
shape_step (form.VarDef n d) = t.Shape.variable n d.0 d.1
shape_step (form.Set m p) = t.Shape.assignment m p.0 p.1
shape_step (form.Return o) = return_shape o
shape_step form.Break = t.Shape.break_form
shape_step (form.If c) = if_shape (trees c.conditions) c.taken c.otherwise
shape_step (form.Chain o p) = t.Shape.chained o p.0 p.1
shape_step (form.Compare o p) = t.Shape.compared o p.0 p.1
shape_step (form.Not e) = t.Shape.negation e
shape_step (form.Neg e) = t.Shape.minus e
shape_step (form.Call a) = t.Shape.call a.0 (trees a.1)
shape_step (form.Index a) = t.Shape.index a.0 (trees a.1)
shape_step (form.Member e n) = t.Shape.member e n
shape_step (form.Query e) = t.Shape.query e
shape_step (form.Int n) = t.Shape.integer n
shape_step (form.Char n) = t.Shape.character n
shape_step (form.Text bs) = t.Shape.text bs
shape_step (form.Holes bs hs) = t.Shape.holes bs (holes hs)
shape_step form.True = t.Shape.truth
shape_step form.False = t.Shape.falsehood
shape_step form.This = t.Shape.this
shape_step (form.Name n) = t.Shape.name n
shape_step (form.Tuple es) = t.Shape.tuple (trees es)
shape_step (form.Array es) = t.Shape.array (trees es)
shape_step (form.Map ps) = t.Shape.mapping (pairs ps)
shape_step (form.Option es) = t.Shape.option (trees es)
shape_step (form.Logic es) = t.Shape.logic (trees es)
shape_step (form.Instance n gs) = t.Shape.instance n (givens gs)
shape_step (form.Event o) = event_shape o
shape_step (form.For e) = t.Shape.for_form (trees e.0) e.1
shape_step (form.Loop e) = t.Shape.loop_form e
shape_step (form.BlockForm e) = t.Shape.block_form e
shape_step (form.Branch e) = t.Shape.branch e
shape_step (form.Sync es) = t.Shape.sync (trees es)
shape_step (form.Race es) = t.Shape.race (trees es)
shape_step (form.Rush es) = t.Shape.rush (trees es)
shape_step (form.Case c) = t.Shape.cases c.0 (trees c.1)
shape_step (form.Spawn e) = t.Shape.spawn e
shape_step (form.Sleep o) = sleep_shape o
shape_step (form.Elements n e) = t.Shape.elements n e
shape_step (form.Entries k v e) = t.Shape.entries k v e
shape_step (form.Range n p) = t.Shape.range n p.0 p.1
shape_step (form.Arm p) = t.Shape.arm p.0 p.1
shape_step (form.IntPattern n) = t.Shape.integer_pattern n
shape_step (form.MinusPattern n) = t.Shape.minus_pattern n
shape_step (form.CharPattern n) = t.Shape.character_pattern n
shape_step (form.TextPattern bs) = t.Shape.text_pattern bs
shape_step form.TruePattern = t.Shape.truth_pattern
shape_step form.FalsePattern = t.Shape.falsehood_pattern
shape_step (form.EnumPattern n v) = t.Shape.enum_pattern n v
shape_step form.AnyPattern = t.Shape.any_pattern

abbrev pub applied_step : Applied-F Shape (Tree × List Tree) (Tree × List Tree) Tree
    (List Tree × Tree) (Bytes × Tree) (Tree × Bytes) Parts (Tree × Tree) (Tree × Tree)
    (Written × Tree) → Tree × List Tree
applied_step a = (a.callee, a.args)

abbrev pub cases_step : Cases-F Shape (Tree × List Tree) (Tree × List Tree) Tree (List Tree × Tree)
    (Bytes × Tree) (Tree × Bytes) Parts (Tree × Tree) (Tree × Tree) (Written × Tree) → Tree ×
    List Tree
cases_step a = (a.subject, a.arms)

abbrev pub if_step : IfParts-F Shape (Tree × List Tree) (Tree × List Tree) Tree (List Tree × Tree)
    (Bytes × Tree) (Tree × Bytes) Parts (Tree × Tree) (Tree × Tree) (Written × Tree) → Parts
if_step a = record { conditions = a.conditions; taken = a.then; otherwise = a.otherwise }

abbrev pub for_step : ForParts-F Shape (Tree × List Tree) (Tree × List Tree) Tree (List Tree × Tree)
    (Bytes × Tree) (Tree × Bytes) Parts (Tree × Tree) (Tree × Tree) (Written × Tree) → List Tree ×
    Tree
for_step a = (a.clauses, a.body)

abbrev pub tree_step : Expr-F Shape (Tree × List Tree) (Tree × List Tree) Tree (List Tree × Tree)
    (Bytes × Tree) (Tree × Bytes) Parts (Tree × Tree) (Tree × Tree) (Written × Tree) → Tree
tree_step a = tree a.node a.place a.form

abbrev pub given_step : Given-F Shape (Tree × List Tree) (Tree × List Tree) Tree (List Tree × Tree)
    (Bytes × Tree) (Tree × Bytes) Parts (Tree × Tree) (Tree × Tree) (Written × Tree) → Bytes × Tree
given_step a = (a.name, a.value)

abbrev pub hole_step : Hole-F Shape (Tree × List Tree) (Tree × List Tree) Tree (List Tree × Tree)
    (Bytes × Tree) (Tree × Bytes) Parts (Tree × Tree) (Tree × Tree) (Written × Tree) → Tree × Bytes
hole_step a = (a.value, a.behind)

abbrev pub pair_step : Pair-F Shape (Tree × List Tree) (Tree × List Tree) Tree (List Tree × Tree)
    (Bytes × Tree) (Tree × Bytes) Parts (Tree × Tree) (Tree × Tree) (Written × Tree) → Tree × Tree
pair_step a = (a.key, a.value)

abbrev pub two_step : Two-F Shape (Tree × List Tree) (Tree × List Tree) Tree (List Tree × Tree)
    (Bytes × Tree) (Tree × Bytes) Parts (Tree × Tree) (Tree × Tree) (Written × Tree) → Tree × Tree
two_step a = (a.left, a.right)

abbrev pub typed_value_step : TypedValue-F Shape (Tree × List Tree) (Tree × List Tree) Tree
    (List Tree × Tree) (Bytes × Tree) (Tree × Bytes) Parts (Tree × Tree) (Tree × Tree)
    (Written × Tree) → Written × Tree
typed_value_step a = (written_of a.ty, a.value)

abbrev pub shape_of : Form → Shape
shape_of = fold-Form Shape (Tree × List Tree) (Tree × List Tree) Tree (List Tree × Tree)
    (Bytes × Tree) (Tree × Bytes) Parts (Tree × Tree) (Tree × Tree) (Written × Tree) shape_step
    applied_step cases_step tree_step for_step given_step hole_step if_step pair_step two_step
    typed_value_step

abbrev pub applied_of : Applied → Tree × List Tree
applied_of = fold-Applied Shape (Tree × List Tree) (Tree × List Tree) Tree (List Tree × Tree)
    (Bytes × Tree) (Tree × Bytes) Parts (Tree × Tree) (Tree × Tree) (Written × Tree) shape_step
    applied_step cases_step tree_step for_step given_step hole_step if_step pair_step two_step
    typed_value_step

abbrev pub cases_of : Cases → Tree × List Tree
cases_of = fold-Cases Shape (Tree × List Tree) (Tree × List Tree) Tree (List Tree × Tree)
    (Bytes × Tree) (Tree × Bytes) Parts (Tree × Tree) (Tree × Tree) (Written × Tree) shape_step
    applied_step cases_step tree_step for_step given_step hole_step if_step pair_step two_step
    typed_value_step

abbrev pub if_of : IfParts → Parts
if_of = fold-IfParts Shape (Tree × List Tree) (Tree × List Tree) Tree (List Tree × Tree)
    (Bytes × Tree) (Tree × Bytes) Parts (Tree × Tree) (Tree × Tree) (Written × Tree) shape_step
    applied_step cases_step tree_step for_step given_step hole_step if_step pair_step two_step
    typed_value_step

abbrev pub for_of : ForParts → List Tree × Tree
for_of = fold-ForParts Shape (Tree × List Tree) (Tree × List Tree) Tree (List Tree × Tree)
    (Bytes × Tree) (Tree × Bytes) Parts (Tree × Tree) (Tree × Tree) (Written × Tree) shape_step
    applied_step cases_step tree_step for_step given_step hole_step if_step pair_step two_step
    typed_value_step

abbrev pub tree_of : Expr → Tree
tree_of = fold-Expr Shape (Tree × List Tree) (Tree × List Tree) Tree (List Tree × Tree)
    (Bytes × Tree) (Tree × Bytes) Parts (Tree × Tree) (Tree × Tree) (Written × Tree) shape_step
    applied_step cases_step tree_step for_step given_step hole_step if_step pair_step two_step
    typed_value_step

abbrev pub given_of : Given → Bytes × Tree
given_of = fold-Given Shape (Tree × List Tree) (Tree × List Tree) Tree (List Tree × Tree)
    (Bytes × Tree) (Tree × Bytes) Parts (Tree × Tree) (Tree × Tree) (Written × Tree) shape_step
    applied_step cases_step tree_step for_step given_step hole_step if_step pair_step two_step
    typed_value_step

abbrev pub hole_of : Hole → Tree × Bytes
hole_of = fold-Hole Shape (Tree × List Tree) (Tree × List Tree) Tree (List Tree × Tree)
    (Bytes × Tree) (Tree × Bytes) Parts (Tree × Tree) (Tree × Tree) (Written × Tree) shape_step
    applied_step cases_step tree_step for_step given_step hole_step if_step pair_step two_step
    typed_value_step

abbrev pub pair_of : Pair → Tree × Tree
pair_of = fold-Pair Shape (Tree × List Tree) (Tree × List Tree) Tree (List Tree × Tree)
    (Bytes × Tree) (Tree × Bytes) Parts (Tree × Tree) (Tree × Tree) (Written × Tree) shape_step
    applied_step cases_step tree_step for_step given_step hole_step if_step pair_step two_step
    typed_value_step

abbrev pub two_of : Two → Tree × Tree
two_of = fold-Two Shape (Tree × List Tree) (Tree × List Tree) Tree (List Tree × Tree) (Bytes × Tree)
    (Tree × Bytes) Parts (Tree × Tree) (Tree × Tree) (Written × Tree) shape_step applied_step
    cases_step tree_step for_step given_step hole_step if_step pair_step two_step typed_value_step

abbrev pub typed_value_of : TypedValue → Written × Tree
typed_value_of = fold-TypedValue Shape (Tree × List Tree) (Tree × List Tree) Tree (List Tree × Tree)
    (Bytes × Tree) (Tree × Bytes) Parts (Tree × Tree) (Tree × Tree) (Written × Tree) shape_step
    applied_step cases_step tree_step for_step given_step hole_step if_step pair_step two_step
    typed_value_step
