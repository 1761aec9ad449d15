-- The view of a tree and of each form of it.
use Rattle.std.proofs.Common.{◌≡◌, ℕ, List, map, Option, rules, sym, ap, ◌∙◌}
use Rattle.std.specs.Option.{option_map}
use Rattle.verse_tree.specs.Tree as t
use Rattle.verse_tree.specs.Tree.{Bytes, Tree, tree}
use Rattle.verse_tree.specs.View.{tree_of, trees, two_of, typed_value_of, applied_of, cases_of}
use Rattle.verse_tree.specs.View.{if_of, for_of, hole_of, holes, pair_of, pairs, given_of, givens}
use Rattle.verse_tree.specs.View.{shape_of, return_shape, if_shape, event_shape, sleep_shape}
use Rattle.verse_tree.specs.declared.exprs.Applied.{Applied}
use Rattle.verse_tree.specs.declared.exprs.Assign.{Assign}
use Rattle.verse_tree.specs.declared.exprs.Cases.{Cases}
use Rattle.verse_tree.specs.declared.exprs.Comparison.{Comparison}
use Rattle.verse_tree.specs.declared.exprs.Expr.{Expr, the_lemmas}
use Rattle.verse_tree.specs.declared.exprs.ForParts.{ForParts}
use Rattle.verse_tree.specs.declared.exprs.Form as form
use Rattle.verse_tree.specs.declared.exprs.Form.{Form}
use Rattle.verse_tree.specs.declared.exprs.Given.{Given}
use Rattle.verse_tree.specs.declared.exprs.Hole.{Hole}
use Rattle.verse_tree.specs.declared.exprs.IfParts.{IfParts}
use Rattle.verse_tree.specs.declared.exprs.Operator.{Operator}
use Rattle.verse_tree.specs.declared.exprs.Pair.{Pair}
use Rattle.verse_tree.specs.declared.exprs.Two.{Two}
use Rattle.verse_tree.specs.declared.exprs.TypedValue.{TypedValue}
use Rattle.verse_tree.specs.declared.types.TyExpr.{TyExpr}

pub tree_is : (e : Expr) → tree_of e ≡ tree e.node e.place (shape_of e.form)
tree_is e = search (rules, the_lemmas)

shape_block : (es : List Expr) → shape_of (form.Block es) ≡ t.Shape.block (trees (map tree_of es))
shape_block es = search (rules, the_lemmas)

pub is_block : (f : Form) (es : List Expr) (there : List Expr) → f ≡ form.Block es → there ≡ es →
    shape_of f ≡ t.Shape.block (trees (map tree_of there))
is_block f es there h g = ap shape_of h ∙ shape_block es ∙ ap (λ k. t.Shape.block (trees (map tree_of k))) (sym g)

shape_defer : (e : Expr) → shape_of (form.Defer e) ≡ t.Shape.defer (tree_of e)
shape_defer e = search (rules, the_lemmas)

pub is_defer : (f : Form) (e : Expr) → f ≡ form.Defer e → shape_of f ≡ t.Shape.defer (tree_of e)
is_defer f e h = ap shape_of h ∙ shape_defer e

shape_let : (x : Bytes) (e : Expr) → shape_of (form.Let x e) ≡ t.Shape.definition x (tree_of e)
shape_let x e = search (rules, the_lemmas)

pub is_let : (f : Form) (x : Bytes) (e : Expr) (there : Expr) → f ≡ form.Let x e → there ≡ e →
    shape_of f ≡ t.Shape.definition x (tree_of there)
is_let f x e there h g = ap shape_of h ∙ shape_let x e ∙ ap (λ k. t.Shape.definition x (tree_of k)) (sym g)

shape_def : (x : Bytes) (d : TypedValue) →
    shape_of (form.Def x d) ≡ t.Shape.typed x (typed_value_of d).0 (typed_value_of d).1
shape_def x d = search (rules, the_lemmas)

pub is_def : (f : Form) (x : Bytes) (d : TypedValue) (b : Tree) → f ≡ form.Def x d → b ≡ (typed_value_of d).1 →
    shape_of f ≡
    t.Shape.typed x (typed_value_of d).0 b
is_def f x d b h g = ap shape_of h ∙ shape_def x d ∙ ap (λ k. t.Shape.typed x (typed_value_of d).0 k) (sym g)

shape_vardef : (x : Bytes) (d : TypedValue) →
    shape_of (form.VarDef x d) ≡ t.Shape.variable x (typed_value_of d).0 (typed_value_of d).1
shape_vardef x d = search (rules, the_lemmas)

pub is_vardef : (f : Form) (x : Bytes) (d : TypedValue) (b : Tree) → f ≡ form.VarDef x d → b ≡ (typed_value_of d).1 →
    shape_of f ≡ t.Shape.variable x (typed_value_of d).0 b
is_vardef f x d b h g = ap shape_of h ∙ shape_vardef x d ∙ ap (λ k. t.Shape.variable x (typed_value_of d).0 k) (sym g)

shape_set : (m : Assign) (p : Two) → shape_of (form.Set m p) ≡ t.Shape.assignment m (two_of p).0 (two_of p).1
shape_set m p = search (rules, the_lemmas)

pub is_set : (f : Form) (m : Assign) (p : Two) → f ≡ form.Set m p →
    shape_of f ≡ t.Shape.assignment m (two_of p).0 (two_of p).1
is_set f m p h = ap shape_of h ∙ shape_set m p

shape_return : (o : Option Expr) → shape_of (form.Return o) ≡ return_shape (option_map tree_of o)
shape_return o = search (rules, the_lemmas)

pub is_return : (f : Form) (o : Option Expr) → f ≡ form.Return o → shape_of f ≡ return_shape (option_map tree_of o)
is_return f o h = ap shape_of h ∙ shape_return o

shape_if : (c : IfParts) →
    shape_of (form.If c) ≡ if_shape (trees (if_of c).conditions) (if_of c).taken (if_of c).otherwise
shape_if c = search (rules, the_lemmas)

pub is_if : (f : Form) (c : IfParts) → f ≡ form.If c →
    shape_of f ≡ if_shape (trees (if_of c).conditions) (if_of c).taken (if_of c).otherwise
is_if f c h = ap shape_of h ∙ shape_if c

shape_chain : (o : Operator) (p : Two) → shape_of (form.Chain o p) ≡ t.Shape.chained o (two_of p).0 (two_of p).1
shape_chain o p = search (rules, the_lemmas)

pub is_chain : (f : Form) (o : Operator) (p : Two) → f ≡ form.Chain o p →
    shape_of f ≡ t.Shape.chained o (two_of p).0 (two_of p).1
is_chain f o p h = ap shape_of h ∙ shape_chain o p

shape_compare : (o : Comparison) (p : Two) → shape_of (form.Compare o p) ≡ t.Shape.compared o (two_of p).0 (two_of p).1
shape_compare o p = search (rules, the_lemmas)

pub is_compare : (f : Form) (o : Comparison) (p : Two) → f ≡ form.Compare o p →
    shape_of f ≡ t.Shape.compared o (two_of p).0 (two_of p).1
is_compare f o p h = ap shape_of h ∙ shape_compare o p

shape_not : (e : Expr) → shape_of (form.Not e) ≡ t.Shape.negation (tree_of e)
shape_not e = search (rules, the_lemmas)

pub is_not : (f : Form) (e : Expr) (there : Expr) → f ≡ form.Not e → there ≡ e →
    shape_of f ≡ t.Shape.negation (tree_of there)
is_not f e there h g = ap shape_of h ∙ shape_not e ∙ ap (λ k. t.Shape.negation (tree_of k)) (sym g)

shape_neg : (e : Expr) → shape_of (form.Neg e) ≡ t.Shape.minus (tree_of e)
shape_neg e = search (rules, the_lemmas)

pub is_neg : (f : Form) (e : Expr) (there : Expr) → f ≡ form.Neg e → there ≡ e →
    shape_of f ≡ t.Shape.minus (tree_of there)
is_neg f e there h g = ap shape_of h ∙ shape_neg e ∙ ap (λ k. t.Shape.minus (tree_of k)) (sym g)

shape_call : (a : Applied) → shape_of (form.Call a) ≡ t.Shape.call (applied_of a).0 (trees (applied_of a).1)
shape_call a = search (rules, the_lemmas)

pub is_call : (f : Form) (a : Applied) → f ≡ form.Call a →
    shape_of f ≡ t.Shape.call (applied_of a).0 (trees (applied_of a).1)
is_call f a h = ap shape_of h ∙ shape_call a

shape_index : (a : Applied) → shape_of (form.Index a) ≡ t.Shape.index (applied_of a).0 (trees (applied_of a).1)
shape_index a = search (rules, the_lemmas)

pub is_index : (f : Form) (a : Applied) → f ≡ form.Index a →
    shape_of f ≡ t.Shape.index (applied_of a).0 (trees (applied_of a).1)
is_index f a h = ap shape_of h ∙ shape_index a

shape_member : (e : Expr) (x : Bytes) → shape_of (form.Member e x) ≡ t.Shape.member (tree_of e) x
shape_member e x = search (rules, the_lemmas)

pub is_member : (f : Form) (e : Expr) (x : Bytes) (there : Expr) (name : Bytes) → f ≡ form.Member e x →
    there ≡ e → name ≡ x →
    shape_of f ≡ t.Shape.member (tree_of there) name
is_member f e x there name h g i = ap shape_of h ∙ shape_member e x ∙ ap (λ k. t.Shape.member (tree_of k) x) (sym g)
    ∙ ap (λ k. t.Shape.member (tree_of there) k) (sym i)

shape_query : (e : Expr) → shape_of (form.Query e) ≡ t.Shape.query (tree_of e)
shape_query e = search (rules, the_lemmas)

pub is_query : (f : Form) (e : Expr) (there : Expr) → f ≡ form.Query e → there ≡ e →
    shape_of f ≡ t.Shape.query (tree_of there)
is_query f e there h g = ap shape_of h ∙ shape_query e ∙ ap (λ k. t.Shape.query (tree_of k)) (sym g)

shape_holes : (bs : Bytes) (hs : List Hole) → shape_of (form.Holes bs hs) ≡ t.Shape.holes bs (holes (map hole_of hs))
shape_holes bs hs = search (rules, the_lemmas)

pub is_holes : (f : Form) (bs : Bytes) (hs : List Hole) (there : List Hole) (name : Bytes) → f ≡ form.Holes bs hs →
    there ≡ hs →
    name ≡ bs →
    shape_of f ≡ t.Shape.holes name (holes (map hole_of there))
is_holes f bs hs there name h g i =
    ap shape_of h ∙ shape_holes bs hs ∙ ap (λ k. t.Shape.holes bs (holes (map hole_of k))) (sym g)
    ∙ ap (λ k. t.Shape.holes k (holes (map hole_of there))) (sym i)

shape_name : (x : Bytes) → shape_of (form.Name x) ≡ t.Shape.name x
shape_name x = search (rules, the_lemmas)

pub is_name : (f : Form) (x : Bytes) (name : Bytes) → f ≡ form.Name x → name ≡ x → shape_of f ≡ t.Shape.name name
is_name f x name h g = ap shape_of h ∙ shape_name x ∙ ap t.Shape.name (sym g)

shape_tuple : (es : List Expr) → shape_of (form.Tuple es) ≡ t.Shape.tuple (trees (map tree_of es))
shape_tuple es = search (rules, the_lemmas)

pub is_tuple : (f : Form) (es : List Expr) (there : List Expr) → f ≡ form.Tuple es → there ≡ es →
    shape_of f ≡ t.Shape.tuple (trees (map tree_of there))
is_tuple f es there h g = ap shape_of h ∙ shape_tuple es ∙ ap (λ k. t.Shape.tuple (trees (map tree_of k))) (sym g)

shape_array : (es : List Expr) → shape_of (form.Array es) ≡ t.Shape.array (trees (map tree_of es))
shape_array es = search (rules, the_lemmas)

pub is_array : (f : Form) (es : List Expr) (there : List Expr) → f ≡ form.Array es → there ≡ es →
    shape_of f ≡ t.Shape.array (trees (map tree_of there))
is_array f es there h g = ap shape_of h ∙ shape_array es ∙ ap (λ k. t.Shape.array (trees (map tree_of k))) (sym g)

shape_map : (ps : List Pair) → shape_of (form.Map ps) ≡ t.Shape.mapping (pairs (map pair_of ps))
shape_map ps = search (rules, the_lemmas)

pub is_map : (f : Form) (ps : List Pair) (there : List Pair) → f ≡ form.Map ps → there ≡ ps →
    shape_of f ≡ t.Shape.mapping (pairs (map pair_of there))
is_map f ps there h g = ap shape_of h ∙ shape_map ps ∙ ap (λ k. t.Shape.mapping (pairs (map pair_of k))) (sym g)

shape_option : (es : List Expr) → shape_of (form.Option es) ≡ t.Shape.option (trees (map tree_of es))
shape_option es = search (rules, the_lemmas)

pub is_option : (f : Form) (es : List Expr) (there : List Expr) → f ≡ form.Option es → there ≡ es →
    shape_of f ≡ t.Shape.option (trees (map tree_of there))
is_option f es there h g = ap shape_of h ∙ shape_option es ∙ ap (λ k. t.Shape.option (trees (map tree_of k))) (sym g)

shape_logic : (es : List Expr) → shape_of (form.Logic es) ≡ t.Shape.logic (trees (map tree_of es))
shape_logic es = search (rules, the_lemmas)

pub is_logic : (f : Form) (es : List Expr) (there : List Expr) → f ≡ form.Logic es → there ≡ es →
    shape_of f ≡ t.Shape.logic (trees (map tree_of there))
is_logic f es there h g = ap shape_of h ∙ shape_logic es ∙ ap (λ k. t.Shape.logic (trees (map tree_of k))) (sym g)

shape_instance : (x : Bytes) (gs : List Given) →
    shape_of (form.Instance x gs) ≡ t.Shape.instance x (givens (map given_of gs))
shape_instance x gs = search (rules, the_lemmas)

pub is_instance : (f : Form) (x : Bytes) (gs : List Given) (there : List Given) → f ≡ form.Instance x gs → there ≡ gs →
    shape_of f ≡ t.Shape.instance x (givens (map given_of there))
is_instance f x gs there h g =
    ap shape_of h ∙ shape_instance x gs ∙ ap (λ k. t.Shape.instance x (givens (map given_of k))) (sym g)

shape_event : (o : Option TyExpr) → shape_of (form.Event o) ≡ event_shape o
shape_event o = search (rules, the_lemmas)

pub is_event : (f : Form) (o : Option TyExpr) → f ≡ form.Event o → shape_of f ≡ event_shape o
is_event f o h = ap shape_of h ∙ shape_event o

shape_for : (e : ForParts) → shape_of (form.For e) ≡ t.Shape.for_form (trees (for_of e).0) (for_of e).1
shape_for e = search (rules, the_lemmas)

pub is_for : (f : Form) (e : ForParts) → f ≡ form.For e →
    shape_of f ≡ t.Shape.for_form (trees (for_of e).0) (for_of e).1
is_for f e h = ap shape_of h ∙ shape_for e

shape_loop : (e : Expr) → shape_of (form.Loop e) ≡ t.Shape.loop_form (tree_of e)
shape_loop e = search (rules, the_lemmas)

pub is_loop : (f : Form) (e : Expr) (there : Expr) → f ≡ form.Loop e → there ≡ e →
    shape_of f ≡ t.Shape.loop_form (tree_of there)
is_loop f e there h g = ap shape_of h ∙ shape_loop e ∙ ap (λ k. t.Shape.loop_form (tree_of k)) (sym g)

shape_blockform : (e : Expr) → shape_of (form.BlockForm e) ≡ t.Shape.block_form (tree_of e)
shape_blockform e = search (rules, the_lemmas)

pub is_blockform : (f : Form) (e : Expr) (there : Expr) → f ≡ form.BlockForm e → there ≡ e →
    shape_of f ≡ t.Shape.block_form (tree_of there)
is_blockform f e there h g = ap shape_of h ∙ shape_blockform e ∙ ap (λ k. t.Shape.block_form (tree_of k)) (sym g)

shape_branch : (e : Expr) → shape_of (form.Branch e) ≡ t.Shape.branch (tree_of e)
shape_branch e = search (rules, the_lemmas)

pub is_branch : (f : Form) (e : Expr) (there : Expr) → f ≡ form.Branch e → there ≡ e →
    shape_of f ≡ t.Shape.branch (tree_of there)
is_branch f e there h g = ap shape_of h ∙ shape_branch e ∙ ap (λ k. t.Shape.branch (tree_of k)) (sym g)

shape_sync : (es : List Expr) → shape_of (form.Sync es) ≡ t.Shape.sync (trees (map tree_of es))
shape_sync es = search (rules, the_lemmas)

pub is_sync : (f : Form) (es : List Expr) (there : List Expr) → f ≡ form.Sync es → there ≡ es →
    shape_of f ≡ t.Shape.sync (trees (map tree_of there))
is_sync f es there h g = ap shape_of h ∙ shape_sync es ∙ ap (λ k. t.Shape.sync (trees (map tree_of k))) (sym g)

shape_race : (es : List Expr) → shape_of (form.Race es) ≡ t.Shape.race (trees (map tree_of es))
shape_race es = search (rules, the_lemmas)

pub is_race : (f : Form) (es : List Expr) (there : List Expr) → f ≡ form.Race es → there ≡ es →
    shape_of f ≡ t.Shape.race (trees (map tree_of there))
is_race f es there h g = ap shape_of h ∙ shape_race es ∙ ap (λ k. t.Shape.race (trees (map tree_of k))) (sym g)

shape_rush : (es : List Expr) → shape_of (form.Rush es) ≡ t.Shape.rush (trees (map tree_of es))
shape_rush es = search (rules, the_lemmas)

pub is_rush : (f : Form) (es : List Expr) (there : List Expr) → f ≡ form.Rush es → there ≡ es →
    shape_of f ≡ t.Shape.rush (trees (map tree_of there))
is_rush f es there h g = ap shape_of h ∙ shape_rush es ∙ ap (λ k. t.Shape.rush (trees (map tree_of k))) (sym g)

shape_case : (c : Cases) → shape_of (form.Case c) ≡ t.Shape.cases (cases_of c).0 (trees (cases_of c).1)
shape_case c = search (rules, the_lemmas)

pub is_case : (f : Form) (c : Cases) → f ≡ form.Case c →
    shape_of f ≡ t.Shape.cases (cases_of c).0 (trees (cases_of c).1)
is_case f c h = ap shape_of h ∙ shape_case c

shape_spawn : (e : Expr) → shape_of (form.Spawn e) ≡ t.Shape.spawn (tree_of e)
shape_spawn e = search (rules, the_lemmas)

pub is_spawn : (f : Form) (e : Expr) (there : Expr) → f ≡ form.Spawn e → there ≡ e →
    shape_of f ≡ t.Shape.spawn (tree_of there)
is_spawn f e there h g = ap shape_of h ∙ shape_spawn e ∙ ap (λ k. t.Shape.spawn (tree_of k)) (sym g)

shape_sleep : (o : Option ℕ) → shape_of (form.Sleep o) ≡ sleep_shape o
shape_sleep o = search (rules, the_lemmas)

pub is_sleep : (f : Form) (o : Option ℕ) → f ≡ form.Sleep o → shape_of f ≡ sleep_shape o
is_sleep f o h = ap shape_of h ∙ shape_sleep o

shape_elements : (x : Bytes) (e : Expr) → shape_of (form.Elements x e) ≡ t.Shape.elements x (tree_of e)
shape_elements x e = search (rules, the_lemmas)

pub is_elements : (f : Form) (x : Bytes) (e : Expr) → f ≡ form.Elements x e →
    shape_of f ≡ t.Shape.elements x (tree_of e)
is_elements f x e h = ap shape_of h ∙ shape_elements x e

shape_entries : (k x : Bytes) (e : Expr) → shape_of (form.Entries k x e) ≡ t.Shape.entries k x (tree_of e)
shape_entries k x e = search (rules, the_lemmas)

pub is_entries : (f : Form) (k x : Bytes) (e : Expr) → f ≡ form.Entries k x e →
    shape_of f ≡ t.Shape.entries k x (tree_of e)
is_entries f k x e h = ap shape_of h ∙ shape_entries k x e

shape_range : (x : Bytes) (p : Two) → shape_of (form.Range x p) ≡ t.Shape.range x (two_of p).0 (two_of p).1
shape_range x p = search (rules, the_lemmas)

pub is_range : (f : Form) (x : Bytes) (p : Two) → f ≡ form.Range x p →
    shape_of f ≡ t.Shape.range x (two_of p).0 (two_of p).1
is_range f x p h = ap shape_of h ∙ shape_range x p

shape_arm : (p : Two) → shape_of (form.Arm p) ≡ t.Shape.arm (two_of p).0 (two_of p).1
shape_arm p = search (rules, the_lemmas)

pub is_arm : (f : Form) (p : Two) → f ≡ form.Arm p → shape_of f ≡ t.Shape.arm (two_of p).0 (two_of p).1
is_arm f p h = ap shape_of h ∙ shape_arm p
