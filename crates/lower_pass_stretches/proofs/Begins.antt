-- The states of a tree begin with the state in which it is entered: one clause a form.
use Rattle.std.proofs.Common.{ℕ, zero, suc, List, [], ◌∷◌, ◌++◌, Bool, true, false, nat_lt, length, Option, Some, None}
use Rattle.verse_base.specs.declared.places.Place.{Place}
use Rattle.verse_tree.specs.Tree.{Tree, tree, Shape, Trees, no_trees, more_trees, Holes, no_holes, more_holes, Givens, Bytes}
use Rattle.verse_tree.specs.Tree.{no_givens, more_givens}
use Rattle.verse_tree.specs.Tree as t
use Rattle.verse_tree.specs.ItemTree.{FieldTree}
use Rattle.verse_tree.specs.declared.exprs.Operator.TheVariants as op
use Rattle.verse_tree.specs.declared.tables.Ref.{Ref}
use Rattle.verse_tree.specs.declared.tables.Ref.TheVariants as ref
use Rattle.verse_value.specs.Val.{Val, enum}
use Rattle.verse_sorts.specs.Sorts.{Sort}
use Rattle.verse_meaning.specs.Programs.{Program, ref_at, fields_of}
use Rattle.verse_meaning.specs.Residuals as form
use Rattle.verse_meaning.specs.Residuals.{Form, Base, in_variable, in_self, in_object, nowhere, a_constant, a_variable}
use Rattle.verse_meaning.specs.Evaluating.{Statement, plain, defines, defers, generates, statement_of_shape, picked, callee_of}
use Rattle.verse_meaning.specs.Evaluating.{spawned_callee}
use Rattle.verse_meaning.specs.Evaluating.{member_form, Callee, alone, of_object, of_value, of_quotient, no_callee, enum_member, class_ref}
use Rattle.verse_meaning.specs.Evaluating.{base_of}
use Rattle.verse_sound_rules.specs.Found.{Found}
use Rattle.lower_code.specs.declared.arounds.Around.{Around}
use Rattle.lower_code.specs.Scopes.{Scope, fixed, varies, absent, find, this_found, hidden}
use Rattle.lower_code.specs.Scopes as scopes
use Rattle.lower_code.specs.Arounds.{raised, enclosed}
use Rattle.lower_code.specs.Applied.{started}
use Rattle.lower_code.specs.Lowering.{is_text, one_if, given_local, how_many, form_fits}
use Rattle.verse_sorts.specs.Sorts as sort
use Rattle.lower_notes.specs.States.{State, Change, gives}
use Rattle.lower_notes.specs.Stretches as n
use Rattle.lower_notes.specs.Stretches.{Walk, Stretch}
use Rattle.lower_notes.specs.Applied as walks
use Rattle.lower_notes.specs.Noting as notes
use Rattle.lower_notes.proofs.Counted.{walk_then}
use Rattle.lower_sound.proofs.Counts.{IsAlone, IsCallee, callee_is, spawned_is}

-- the first of these states
pub data Starts (x : Option State) : List (Option State) → Type 0 where
  starts : {rest : List (Option State)} → Starts x (x ∷ rest)

abbrev pub Begins : Walk → Type 0
Begins g = (at : ℕ) (x : Option State) → Starts x (g at x).states

-- what goes on behind
more : {x : Option State} {xs : List (Option State)} (ys : List (Option State)) → Starts x xs → Starts x (xs ++ ys)
more ys starts = starts

pub else_begins : (g : Walk) (b : Bool) → Begins g → Begins (n.when_else b g)
else_begins g true h at x = h at x
else_begins g false h at x = starts

-- ---- names, and forms that are applied

pushes_fixed : (r : scopes.Found) → Begins (walks.push_fixed r)
pushes_fixed (fixed l) at x = starts
pushes_fixed (varies l) at x = starts
pushes_fixed absent at x = starts

pushes_varies : (r : scopes.Found) → Begins (walks.push_varies r)
pushes_varies (fixed l) at x = starts
pushes_varies (varies l) at x = starts
pushes_varies absent at x = starts

reads_found : (r : scopes.Found) → Begins (walks.read_found r)
reads_found (fixed l) at x = starts
reads_found (varies l) at x = starts
reads_found absent at x = starts

reads_this : (r : scopes.Found) → Begins (walks.read_this r)
reads_this (fixed l) at x = starts
reads_this (varies l) at x = starts
reads_this absent at x = starts

reads_field : (r : scopes.Found) → Begins (walks.field_of_this r)
reads_field (fixed l) at x = starts
reads_field (varies l) at x = starts
reads_field absent at x = starts

reads_name : (r : Option Ref) (x : Bytes) (sc : Scope) → Begins (notes.named r x sc)
unfolding notes.named
reads_name (Some (ref.Field c k)) x sc = reads_field (this_found sc)
reads_name r x sc = reads_found (find x sc)

reads_base : (b : Base) (sc : Scope) → Begins (walks.base_walk b sc)
reads_base (in_variable x) sc at y = pushes_varies (find x sc) at y
reads_base (in_self k) sc at y = pushes_fixed (this_found sc) at y
reads_base (in_object k) sc at y = starts
reads_base nowhere sc at y = starts

with_one_begins : (m : ℕ) → Begins (walks.with_one m n.last)
with_one_begins zero at y = starts
with_one_begins (suc zero) at y = starts
with_one_begins (suc (suc m)) at y = starts

with_two_begins : (m : ℕ) → Begins (walks.with_two m n.last)
with_two_begins zero at y = starts
with_two_begins (suc zero) at y = starts
with_two_begins (suc (suc zero)) at y = starts
with_two_begins (suc (suc (suc m))) at y = starts

last_or_ends : (b : Bool) → Begins (n.when_else b n.last)
last_or_ends true at y = starts
last_or_ends false at y = starts

-- what has a name of its own, and no operands
alone_begins : (x : Form) → IsAlone x → (m : ℕ) (b : Bool) → Begins (walks.finish x m b)
alone_begins (form.calling g) i m b = last_or_ends b
alone_begins (form.calling_own k) i m b = last_or_ends b
alone_begins (form.printing pl) i m b = with_one_begins m
alone_begins form.taking_modulo i m b = with_two_begins m
alone_begins (form.spawning g) i m b = last_or_ends b
alone_begins (form.spawning_own k) i m b = last_or_ends b
alone_begins x i m b = elim i [ ]

-- deferred blocks that run, where there are any
leave_first : (g : Walk) (b : Bool) (m : ℕ) → Begins g → Begins (walk_then (n.when b (n.leave m)) g)
leave_first g true m h at y = starts
leave_first g false m h at y = h at y

returns_begin : (z : Around) → Begins (walks.returning z)
returns_begin z = leave_first n.ends (nat_lt z.base z.defers) z.base (λ at y. starts)

breaks_begin : (z : Around) → Begins (walks.breaking z)
breaks_begin z = leave_first (n.when_else z.in_loop (n.leave_loop z.height)) (nat_lt z.floor z.defers) z.floor
    (else_begins (n.leave_loop z.height) z.in_loop (λ at y. starts))

enum_begins : (v : Val) → Begins (notes.enum_walk v)
enum_begins (enum e i) at y = starts
enum_begins v at y = starts

member_begins : (v : Option Val) (g : Walk) → Begins g → Begins (notes.membered v g)
unfolding notes.membered
member_begins (Some v) g h = enum_begins v
member_begins None g h = h

text_begins : (b : Bool) (h : Change) (g : Walk) → Begins g → Begins (walk_then (n.when b (n.one h)) g)
text_begins true h g i at y = starts
text_begins false h g i at y = i at y

by_callee : (whole : Form) (k : Callee) (on_alone on_object on_value on_quotient : Form → Walk) → IsCallee whole k →
    ((x : Form) → IsAlone x → Begins (on_alone x)) → ((x : Form) → Begins (on_object x)) → ((x : Form) → Begins (on_value x)) →
    ((x : Form) → Begins (on_quotient x)) → Begins (notes.by_callee k on_alone on_object on_value on_quotient)
unfolding notes.by_callee
by_callee whole (alone x) f g h j i a b d e at y = a x i at y
by_callee whole (of_object x) f g h j i a b d e at y = b x at y
by_callee whole (of_value x) f g h j i a b d e at y = d x at y
by_callee whole (of_quotient x) f g h j i a b d e at y = e x at y
by_callee whole no_callee f g h j i a b d e at y = starts

starts_begin : (x : Form) (sc : Scope) (g : Walk) → Begins g → Begins (walk_then (walks.start x sc) g)
starts_begin (form.calling_own k) sc g h at y = more _ (pushes_fixed (this_found sc) at y)
starts_begin (form.spawning_own k) sc g h at y = more _ (pushes_fixed (this_found sc) at y)
starts_begin x sc g h at y = h at y

stated_begins : (p : Program) (found : Found) (differ : ℕ → ℕ → Bool) (s : Statement) (q : Sort) (sc : Scope) (whole inner : Walk) →
    Begins whole → Begins inner → Begins (notes.stated p found differ s q sc whole inner)
unfolding notes.stated
stated_begins p found differ plain q sc whole inner h i at y = h at y
stated_begins p found differ (defines b) q sc whole inner h i at y = more _ (i at y)
stated_begins p found differ (defers d) q sc whole inner h i at y = starts
stated_begins p found differ (generates g) q sc whole inner h i at y = starts

field_begins : (p : Program) (found : Found) (differ : ℕ → ℕ → Bool) (o : Option ℕ) (d : Option Tree) →
    Begins (notes.field_walk p found differ o d)
field_begins p found differ None None at y = starts
field_begins p found differ None (Some b) at y = starts
field_begins p found differ (Some l) d at y = starts

fields_begin : (p : Program) (found : Found) (differ : ℕ → ℕ → Bool) (ds : List FieldTree) (gs : Givens) (l : ℕ) →
    Begins (walk_then (notes.field_walks p found differ ds gs l) n.last)
fields_begin p found differ [] gs l at y = starts
fields_begin p found differ (d ∷ ds) gs l at y = more _ (more _ (field_begins p found differ (given_local d.name gs l) d.default at y))

module _ (p : Program) (found : Found) (differ : ℕ → ℕ → Bool) where
  call_begins : (x : Form) → IsAlone x → (ts : Trees) (sc : Scope) (a : Around) →
      ((g : Walk) → Begins g → Begins (walk_then (notes.args p found differ ts sc (started x a)) g)) →
      Begins (walk_then (walks.start x sc)
      (walk_then (notes.args p found differ ts sc (started x a)) (walks.finish x (how_many ts) (form_fits p differ x (how_many ts) sc))))
  call_begins x k ts sc a args =
      let ends = walks.finish x (how_many ts) (form_fits p differ x (how_many ts) sc) in
      starts_begin x sc (walk_then (notes.args p found differ ts sc (started x a)) ends)
      (args ends (alone_begins x k (how_many ts) (form_fits p differ x (how_many ts) sc)))

  mutual
    unfolding notes.instance_of

    pub tree_begins : (b : Tree) (sc : Scope) (a : Around) → Begins (notes.walk p found differ b sc a)
    tree_begins (tree i pl x) sc a at y = shape_begins x i pl sc a at y

    pub shape_begins : (x : Shape) (i : ℕ) (pl : Place) (sc : Scope) (a : Around) → Begins (notes.shape_walk p found differ x i pl sc a)
    shape_begins (t.Shape.block cs) i pl sc a at y = all_begin cs sc a at y
    shape_begins (t.Shape.definition x b) i pl sc a at y = more _ (tree_begins b sc a at y)
    shape_begins (t.Shape.typed x w b) i pl sc a at y = more _ (tree_begins b sc a at y)
    shape_begins (t.Shape.variable x w b) i pl sc a at y = more _ (tree_begins b sc a at y)
    shape_begins (t.Shape.assignment x b c) i pl sc a at y = more _ (target_begins b (base_of p b) sc a at y)
    shape_begins (t.Shape.returned b) i pl sc a at y = more _ (tree_begins b sc a at y)
    shape_begins t.Shape.returned_unit i pl sc a at y = starts
    shape_begins t.Shape.break_form i pl sc a at y = breaks_begin a at y
    shape_begins (t.Shape.if_else cs b c) i pl sc a at y = starts
    shape_begins (t.Shape.if_alone cs b) i pl sc a at y = starts
    shape_begins (t.Shape.negation b) i pl sc a at y = starts
    shape_begins (t.Shape.option cs) i pl sc a at y = starts
    shape_begins (t.Shape.logic cs) i pl sc a at y = starts
    shape_begins (t.Shape.chained op.Or b c) i pl sc a at y = starts
    shape_begins (t.Shape.for_form cs b) i pl sc a at y = starts
    shape_begins (t.Shape.chained op.Div b c) i pl sc a at y = starts
    shape_begins (t.Shape.chained op.And b c) i pl sc a at y = more _ (tree_begins b sc a at y)
    shape_begins (t.Shape.chained op.Add b c) i pl sc a at y = more _ (tree_begins b sc a at y)
    shape_begins (t.Shape.chained op.Sub b c) i pl sc a at y = more _ (tree_begins b sc a at y)
    shape_begins (t.Shape.chained op.Mul b c) i pl sc a at y = more _ (tree_begins b sc a at y)
    shape_begins (t.Shape.compared x b c) i pl sc a at y = more _ (tree_begins b sc a at y)
    shape_begins (t.Shape.minus b) i pl sc a at y = more _ (tree_begins b sc a at y)
    shape_begins (t.Shape.query b) i pl sc a at y = more _ (tree_begins b sc a at y)
    shape_begins (t.Shape.member b x) i pl sc a at y =
        member_begins (enum_member p b x) (walk_then (notes.walk p found differ b sc a) (walks.finish (member_form (ref_at p i) x) 1 true))
        (λ at y. more _ (tree_begins b sc a at y)) at y
    shape_begins (t.Shape.call b ts) i pl sc a at y =
        (by_callee (picked ts) (callee_of p b (picked ts) pl) _ _ _ _ (callee_is p b (picked ts) pl)
        (λ x k. call_begins x k ts sc a (args_begin ts sc (started x a)))
        (λ x at y. more _ (inner_begins b sc a at y)) (λ x at y. more _ (tree_begins b sc a at y))
        (λ x at y. more _ (quotient_begins ts sc a at y))) at y
    shape_begins (t.Shape.index b ts) i pl sc a at y =
        (by_callee form.indexing (callee_of p b form.indexing pl) _ _ _ _ (callee_is p b form.indexing pl)
        (λ x k. call_begins x k ts sc a (args_begin ts sc (started x a)))
        (λ x at y. more _ (inner_begins b sc a at y)) (λ x at y. more _ (tree_begins b sc a at y))
        (λ x at y. more _ (quotient_begins ts sc a at y))) at y
    shape_begins (t.Shape.integer z) i pl sc a at y = starts
    shape_begins (t.Shape.character z) i pl sc a at y = starts
    shape_begins (t.Shape.text bs) i pl sc a at y = starts
    shape_begins (t.Shape.holes bs hs) i pl sc a at y = text_begins (is_text bs) (gives 0 (sort.list sort.char))
        (walk_then (notes.holed p found differ hs sc (raised (one_if (is_text bs) 0) a)) n.last)
        (holes_begin hs sc (raised (one_if (is_text bs) 0) a)) at y
    shape_begins t.Shape.truth i pl sc a at y = starts
    shape_begins t.Shape.falsehood i pl sc a at y = starts
    shape_begins t.Shape.this i pl sc a at y = reads_this (this_found sc) at y
    shape_begins (t.Shape.name x) i pl sc a at y = reads_name (ref_at p i) x sc at y
    shape_begins (t.Shape.tuple ts) i pl sc a at y = args_begin ts sc a n.last (λ at y. starts) at y
    shape_begins (t.Shape.array ts) i pl sc a at y = args_begin ts sc a n.last (λ at y. starts) at y
    shape_begins (t.Shape.mapping ps) i pl sc a at y = pairs_begin (notes.key_in (found.sort i)) ps sc a at y
    shape_begins (t.Shape.instance x gs) i pl sc a at y = made_begins (class_ref p (ref_at p i)) gs (length sc) sc a at y
    shape_begins (t.Shape.event w) i pl sc a at y = starts
    shape_begins t.Shape.bare_event i pl sc a at y = starts
    shape_begins (t.Shape.loop_form b) i pl sc a at y = starts
    shape_begins (t.Shape.block_form b) i pl sc a at y = tree_begins b sc a at y
    shape_begins (t.Shape.cases b ts) i pl sc a at y = more _ (tree_begins b sc a at y)
    shape_begins (t.Shape.branch b) i pl sc a at y = starts
    shape_begins (t.Shape.sync ts) i pl sc a at y = starts
    shape_begins (t.Shape.race ts) i pl sc a at y = starts
    shape_begins (t.Shape.rush ts) i pl sc a at y = starts
    shape_begins (t.Shape.spawn b) i pl sc a at y = spawned_begins b sc a at y
    shape_begins (t.Shape.sleep d) i pl sc a at y = starts
    shape_begins t.Shape.sleep_forever i pl sc a at y = starts
    shape_begins x i pl sc a at y = starts

    pub all_begin : (ts : Trees) (sc : Scope) (a : Around) → Begins (notes.statements p found differ ts sc a)
    all_begin no_trees sc a at y = starts
    all_begin (more_trees (tree i pl x) cs) sc a at y = more _
        (stated_begins p found differ (statement_of_shape x pl) (found.sort i) sc (notes.walk p found differ (tree i pl x) sc a)
        (notes.inner_shape p found differ x sc a) (tree_begins (tree i pl x) sc a)
        (inner_shape_begins x sc a) at y)

    pub inner_begins : (b : Tree) (sc : Scope) (a : Around) → Begins (notes.inner p found differ b sc a)
    inner_begins (tree i pl x) sc a = inner_shape_begins x sc a

    pub inner_shape_begins : (x : Shape) (sc : Scope) (a : Around) → Begins (notes.inner_shape p found differ x sc a)
    inner_shape_begins (t.Shape.definition x b) sc a at y = tree_begins b sc a at y
    inner_shape_begins (t.Shape.typed x w b) sc a at y = tree_begins b sc a at y
    inner_shape_begins (t.Shape.variable x w b) sc a at y = tree_begins b sc a at y
    inner_shape_begins (t.Shape.defer b) sc a at y = tree_begins b sc (enclosed a) at y
    inner_shape_begins (t.Shape.member b x) sc a at y = tree_begins b sc a at y
    inner_shape_begins (t.Shape.elements x b) sc a at y = tree_begins b sc a at y
    inner_shape_begins (t.Shape.entries x z b) sc a at y = tree_begins b sc a at y
    inner_shape_begins (t.Shape.range x b c) sc a at y = more _ (tree_begins b sc a at y)
    inner_shape_begins x sc a at y = starts

    pub args_begin : (ts : Trees) (sc : Scope) (a : Around) (g : Walk) → Begins g → Begins (walk_then (notes.args p found differ ts sc a) g)
    args_begin no_trees sc a g h at y = h at y
    args_begin (more_trees b ts) sc a g h at y = more _ (more _ (tree_begins b sc a at y))

    pub holes_begin : (hs : Holes) (sc : Scope) (a : Around) → Begins (walk_then (notes.holed p found differ hs sc a) n.last)
    holes_begin no_holes sc a at y = starts
    holes_begin (more_holes b bs hs) sc a at y = more _ (more _ (tree_begins b sc a at y))

    pub pairs_begin : (k : Sort) (ps : t.Pairs) (sc : Scope) (a : Around) →
        Begins (walk_then (notes.paired_args p found differ k ps sc a) n.last)
    pairs_begin k t.Pairs.no_pairs sc a at y = starts
    pairs_begin k (t.Pairs.more_pairs b c ps) sc a at y = more _ (more _ (tree_begins b sc a at y))

    pub made_begins : (o : Option ℕ) (gs : Givens) (l : ℕ) (sc : Scope) (a : Around) →
        Begins (notes.instance_of p found differ o gs l (notes.given_args p found differ gs sc a))
    made_begins None gs l sc a at y = starts
    made_begins (Some c) no_givens l sc a at y = fields_begin p found differ (fields_of p c) no_givens l at y
    made_begins (Some c) (more_givens x b gs) l sc a at y = more _ (more _ (tree_begins b sc a at y))

    pub quotient_begins : (ts : Trees) (sc : Scope) (a : Around) → Begins (notes.quotient p found differ ts sc a)
    quotient_begins no_trees sc a at y = starts
    quotient_begins (more_trees (tree i pl x) ts) sc a at y = quotient_shape_begins x sc a at y

    pub quotient_shape_begins : (x : Shape) (sc : Scope) (a : Around) → Begins (notes.quotient_shape p found differ x sc a)
    quotient_shape_begins (t.Shape.chained x b c) sc a at y = more _ (tree_begins b sc a at y)
    quotient_shape_begins x sc a at y = starts

    pub target_begins : (b : Tree) (base : Base) (sc : Scope) (a : Around) → Begins (notes.target_walk p found differ b base sc a)
    target_begins (tree i pl x) base sc a = target_shape_begins x base sc a

    pub target_shape_begins : (x : Shape) (base : Base) (sc : Scope) (a : Around) → Begins (notes.target_shape p found differ x base sc a)
    target_shape_begins (t.Shape.name x) base sc a at y = reads_base base sc at y
    target_shape_begins (t.Shape.member b x) base sc a at y = tree_begins b sc a at y
    target_shape_begins (t.Shape.index b ts) base sc a at y = more _ (target_begins b base sc a at y)
    target_shape_begins x base sc a at y = starts

    pub spawned_begins : (b : Tree) (sc : Scope) (a : Around) → Begins (notes.spawned p found differ b sc a)
    spawned_begins (tree i pl x) sc a = spawned_shape_begins x pl sc a

    pub spawned_shape_begins : (x : Shape) (pl : Place) (sc : Scope) (a : Around) → Begins (notes.spawned_shape p found differ x pl sc a)
    spawned_shape_begins (t.Shape.call b ts) pl sc a at y =
        (by_callee (form.picking None) (spawned_callee (callee_of p b (form.picking None) pl))
        _ _ _ _ (spawned_is (form.picking None) (callee_of p b (form.picking None) pl) (callee_is p b (form.picking None) pl))
        (λ x k. call_begins x k ts sc a (args_begin ts sc (started x a)))
        (λ x at y. more _ (inner_begins b sc a at y)) (λ x at y. starts) (λ x at y. starts)) at y
    spawned_shape_begins x pl sc a at y = starts
