-- What is kept by statements, clauses, callees and the fields of an instance, where their parts keep it.
use Rattle.std.proofs.Common.{◌≡◌, ℕ, zero, suc, ◌+◌, ◌≤◌, List, [], ◌∷◌, length, Bool, true, false, Option, Some, None, refl, arith, sym}
use Rattle.std.proofs.Common.{true≢false, neg_ℤ, cond}
use Rattle.verse_base.specs.declared.places.Place.{Place}
use Rattle.verse_tree.specs.Tree.{Bytes, Tree, tree, Shape, Trees, no_trees, more_trees, Givens}
use Rattle.verse_tree.specs.Tree as t
use Rattle.verse_tree.specs.ItemTree.{FieldTree}
use Rattle.verse_tree.specs.PostOrder.{Node, trees_order, post_order}
use Rattle.verse_tree.specs.declared.tables.Ref.{Ref}
use Rattle.verse_tree.specs.declared.tables.Ref.TheVariants as ref
use Rattle.verse_code.specs.declared.operations.Op.TheVariants as o
use Rattle.verse_value.specs.Val as v
use Rattle.verse_value.specs.Val.{Val}
use Rattle.verse_meaning.specs.Programs.{Program, fields_of, same_name, pattern_value, ref_at}
use Rattle.verse_meaning.specs.Residuals as form
use Rattle.verse_meaning.specs.Residuals.{Form, Binder, no_name, a_constant, a_variable, Generator, of_elements, of_entries, of_range}
use Rattle.verse_meaning.specs.Evaluating.{Statement, statement_of, statement_of_shape, plain, defines, defers, generates, Callee, alone}
use Rattle.verse_meaning.specs.Evaluating.{of_object, of_value, of_quotient, no_callee, builtin, named_callee, member_callee, callee_of}
use Rattle.verse_meaning.specs.Evaluating.{number_of, callee_of_shape, class_ref}
use Rattle.verse_meaning.specs.Evaluating.{await_name, signal_name, length_name, member_form, spawned_form, spawned_callee, picked}
use Rattle.lower_code.specs.declared.arounds.Around.{Around}
use Rattle.lower_code.specs.Pieces.{Maker, turning}
use Rattle.lower_code.specs.Scopes.{Scope}
use Rattle.lower_code.specs.Lowering.{by_callee, bind, with_binder, with_generator, taking, scope_stated, scope_behind, how_many}
use Rattle.lower_code.specs.Lowering.{around_stated, stated, claused, field_op, field_ops, given_local, default_op, any_defer, is_defer}
use Rattle.lower_code.specs.Lowering.{is_defer_shape, enum_op, enum_pattern, pattern_op, membered, instance_of, arm_by, is_any, arm_of}
use Rattle.lower_bounds.proofs.Lists.{Each, each_first, each_rest, node, own, on_cond}
use Rattle.lower_bounds.proofs.Kept.{Kept}
use Rattle.lower_bounds.proofs.Leaves.{more, and, get, load, unit, drop, kept_kept, FormFits, NoCall}

module _ {p : Program} {differ : ℕ → ℕ → Bool} {Good : Node → Type 0} {Plain : Around → Type 0} {Q : (k l h n : ℕ) → Maker → Type 0}
    {Site : Place → Type 0} {Piece : Bytes → Type 0} {Defers : Type 0} (q : Kept p differ Good Plain Q Site Piece Defers) where
  -- what a statement needs of its node
  abbrev pub BinderFits : Binder → Type 0
  BinderFits no_name = Unit {0}
  BinderFits (a_constant x) = Unit {0}
  BinderFits (a_variable x pl) = Site pl

  abbrev pub StatementFits : Statement → Type 0
  StatementFits plain = Unit {0}
  StatementFits (defines b) = BinderFits b
  StatementFits (defers d) = Defers
  StatementFits (generates g) = Unit {0}

  pub statement_fits : (n : ℕ) (pl : Place) (s : Shape) → Good (node n pl s) → StatementFits (statement_of_shape s pl)
  statement_fits n pl (t.Shape.variable x w b) g = q.site _ g
  statement_fits n pl (t.Shape.defer b) g = q.defer n pl b g
  statement_fits n pl s g = tt

  pub tree_fits : (b : Tree) → Each Good (post_order b) → StatementFits (statement_of b)
  tree_fits (tree n pl s) g = statement_fits n pl s (own Good n pl s g)

  pub bind_kept : {k l h : ℕ} (b : Binder) → BinderFits b → Q k l h 4 (bind b l)
  bind_kept no_name f = more q (omega arith) q.none
  bind_kept (a_constant x) f = more q (omega arith) (kept_kept q)
  bind_kept (a_variable x pl) f = and q (q.placed pl o.New f (λ m. ((λ z at e. e), refl))) (and q (kept_kept q) (load q 0))

  pub stated_kept : {k h : ℕ} {whole inner : Maker} (n : ℕ) (s : Statement) (sc : Scope) → StatementFits s →
      Q k (length sc) h (12 + n) whole → Q k (length sc) h (1 + n) inner → Q k (length sc) h (12 + n) (stated p differ s sc whole inner)
  unfolding stated
  stated_kept n plain sc f x y = x
  stated_kept n (defines b) sc f x y = more q (omega arith) (and q y (bind_kept b f))
  stated_kept n (defers d) sc f x y = more q (omega arith) (and q (q.deferred f y) (unit q))
  stated_kept n (generates g) sc f x y = more q (omega arith) q.stuck

  -- the scope behind a statement
  pub binder_grows : (b : Binder) (sc : Scope) → length (with_binder b sc) ≤ 1 + length sc
  binder_grows no_name sc = omega arith
  binder_grows (a_constant x) sc = omega arith
  binder_grows (a_variable x pl) sc = omega arith

  pub generator_grows : (g : Generator) (sc : Scope) → length (with_generator g sc) ≤ 4 + length sc
  generator_grows (of_elements x) sc = omega arith
  generator_grows (of_entries y x) sc = omega arith
  generator_grows (of_range x) sc = omega arith

  pub statement_grows : (s : Statement) (sc : Scope) → length (scope_stated s sc) ≤ 1 + length sc
  statement_grows plain sc = omega arith
  statement_grows (defines b) sc = binder_grows b sc
  statement_grows (defers d) sc = omega arith
  statement_grows (generates g) sc = omega arith

  pub scope_grows : (cs : Trees) (sc : Scope) → length (scope_behind cs sc) ≤ how_many cs + length sc
  scope_grows no_trees sc = omega arith
  scope_grows (more_trees b cs) sc = omega (arith, statement_grows (statement_of b) sc, scope_grows cs (scope_stated (statement_of b) sc))

  pub around_plain : (s : Statement) (a : Around) → StatementFits s → Plain a → Plain (around_stated p differ s a)
  around_plain plain a f x = x
  around_plain (defines b) a f x = x
  around_plain (defers d) a f x = q.deferring a f x
  around_plain (generates g) a f x = x

  pub around_height : (s : Statement) (a : Around) → (around_stated p differ s a).height ≡ a.height
  around_height plain a = refl
  around_height (defines b) a = refl
  around_height (defers d) a = refl
  around_height (generates g) a = refl

  pub shape_defers : (n : ℕ) (pl : Place) (s : Shape) → Good (node n pl s) → is_defer_shape s ≡ true → Defers
  shape_defers n pl (t.Shape.defer b) g e = q.defer n pl b g
  shape_defers n pl s g e = elim (true≢false (sym e)) [ ]

  -- a clause of a `for`, with r for what is behind it
  pub taking_kept : {k h r : ℕ} {f : Maker} (g : Generator) (sc : Scope) → Q k (length (with_generator g sc)) h r f →
      Q k (length sc) h (9 + r) (turning (taking g (length sc)) (length sc) f)
  taking_kept (of_elements x) sc y = q.turning (o.Each (length sc)) ((λ z at. refl), refl) (omega arith) y
  taking_kept (of_entries y x) sc z = q.turning (o.Each (length sc)) ((λ z at. refl), refl) (omega arith) z
  taking_kept (of_range x) sc y = q.turning (o.Range (length sc)) ((λ z at. refl), refl) (omega arith) y

  pub claused_kept : {k h r : ℕ} {whole inner : Maker} {rest : Scope → Maker} (n : ℕ) (s : Statement) (sc : Scope) → StatementFits s →
      Q k (length sc) h (12 + n) whole → Q k (length sc) h (1 + n) inner → ((sc : Scope) → Q k (length sc) h r (rest sc)) →
      Q k (length sc) h (16 + n + r) (claused p differ s sc whole inner rest)
  unfolding claused
  claused_kept n plain sc f x y z = more q (omega arith) (and q x (and q (drop q) (z sc)))
  claused_kept n (defines b) sc f x y z = more q (omega arith) (and q y (q.over 0 (bind_kept b f) (and q (drop q) (z (with_binder b sc)))
      (omega arith)
      (omega (arith, binder_grows b sc))))
  claused_kept n (defers d) sc f x y z = more q (omega arith) q.stuck
  claused_kept n (generates g) sc f x y z = more q (omega arith) (and q y (taking_kept g sc (z (with_generator g sc))))

  -- a text with holes, values of an enum, patterns
  pub enum_op_kept : {k l h : ℕ} (w : Val) → Q k l h 1 (enum_op w)
  enum_op_kept (v.enum e i) = q.op (o.Enum e i) ((λ z at. refl), refl)
  enum_op_kept w = q.stuck

  pub enum_pattern_kept : {k l h : ℕ} (w : Option Val) → Q k l h 1 (enum_pattern w)
  enum_pattern_kept None = q.stuck
  enum_pattern_kept (Some w) = enum_op_kept w

  pub pattern_kept : {k l h : ℕ} (n : ℕ) (pl : Place) (s : Shape) → Good (node n pl s) → Q k l h 1 (pattern_op p differ s)
  pattern_kept n pl (t.Shape.integer_pattern z) g = q.op (o.Int z) ((λ z at. refl), refl)
  pattern_kept n pl (t.Shape.minus_pattern z) g = q.op (o.Int (neg_ℤ z)) ((λ z at. refl), refl)
  pattern_kept n pl (t.Shape.character_pattern c) g = q.char_pattern n pl c g
  pattern_kept n pl (t.Shape.text_pattern bs) g = q.texted bs (q.text_pattern n pl bs g)
  pattern_kept n pl t.Shape.truth_pattern g = q.op o.True ((λ z at. refl), refl)
  pattern_kept n pl t.Shape.falsehood_pattern g = q.op o.False ((λ z at. refl), refl)
  pattern_kept n pl (t.Shape.enum_pattern x y) g = enum_pattern_kept (pattern_value p x y)
  pattern_kept n pl s g = q.stuck

  pub arm_by_kept : {k l h n m : ℕ} {body rest : Maker} (i : ℕ) (pl : Place) (s : Shape) (x : ℕ) (last any : Bool) → Good (node i pl s) →
      Q k l h n body → Q k l h m rest → Q k l h (4 + n + m) (arm_by p differ s x last any body rest)
  unfolding arm_by
  arm_by_kept i pl s x true any g y z = more q (omega arith) y
  arm_by_kept i pl s x false true g y z = more q (omega arith) (and q y (q.ahead o.Jump (λ m. ((λ z at e. e), refl)) z))
  arm_by_kept i pl s x false false g y z = more q (omega arith) (and q (pattern_kept i pl s g) (and q (get q x) (q.either o.Same (λ m.
      ((λ z at e. e), refl)) y z)))

  pub arm_of_kept : {k l h n m : ℕ} {body rest : Maker} (b : Tree) (x : ℕ) (last : Bool) → Each Good (post_order b) →
      Q k l h n body → Q k l h m rest → Q k l h (4 + n + m) (arm_of p differ b x last body rest)
  arm_of_kept (tree i pl s) x last g y z = arm_by_kept i pl s x last (is_any p differ s) (own Good i pl s g) y z

  -- the fields of an instance
  pub field_op_kept : {k l h : ℕ} (x : Option ℕ) (d : Option Tree) (f : ℕ) → Q k l h 1 (default_op p differ d f) → Q k l h 1
      (field_op p differ x d f)
  field_op_kept None d f y = y
  field_op_kept (Some x) d f y = get q x

  pub field_ops_kept : {k l h : ℕ} (fs : List FieldTree) (gs : Givens) (x : ℕ) →
      Each (λ f. (k l h : ℕ) → Q k l h 1 (default_op p differ f.default f.number)) fs → Q k l h (length fs) (field_ops p differ fs gs x)
  field_ops_kept [] gs x y = q.none
  field_ops_kept (f ∷ fs) gs x y = more q (omega arith) (and q (field_op_kept (given_local f.name gs x) f.default f.number (y.0 _ _ _))
      (field_ops_kept fs gs x y.1))

  pub instance_kept : {k l h m : ℕ} {given : Maker} (i n : ℕ) (c : Option ℕ) (pl : Place) (gs : Givens) (x : ℕ) → c ≡ class_ref p
      (ref_at p i) →
      ((c : ℕ) → class_ref p (ref_at p i) ≡ Some c → length (fields_of p c) ≤ n) → Site pl → Q k l h m given →
      Q k l h (2 + n + m) (instance_of p differ c pl gs x given)
  unfolding instance_of
  instance_kept i n None pl gs x e few s y = more q (omega arith) q.stuck
  instance_kept i n (Some c) pl gs x e few s y = more q (omega (arith, few c (sym e)))
      (and q y (and q (field_ops_kept (fields_of p c) gs x (q.defaults c))
      (q.object i c pl (sym e) s)))

  pub membered_kept : {k l h n : ℕ} {f : Maker} (w : Option Val) → Q k l h n f → Q k l h (suc n) (membered p differ w f)
  unfolding membered
  membered_kept None x = more q (omega arith) x
  membered_kept (Some w) x = more q (omega arith) (enum_op_kept w)

  -- callees
  abbrev pub CalleeFits : Callee → Type 0
  CalleeFits (alone f) = FormFits q f
  CalleeFits (of_object f) = FormFits q f × NoCall q f
  CalleeFits (of_value f) = FormFits q f × NoCall q f
  CalleeFits (of_quotient f) = FormFits q f × NoCall q f
  CalleeFits no_callee = Unit {0}

  builtin_fits : (b : ℕ) (pl : Place) → Site pl → CalleeFits (builtin b pl)
  builtin_fits zero pl s = s
  builtin_fits (suc zero) pl s = (s, tt)
  builtin_fits (suc (suc zero)) pl s = (s, tt)
  builtin_fits (suc (suc (suc n))) pl s = tt

  named_fits : (r : Option Ref) (whole : Form) (pl : Place) → Site pl → FormFits q whole × NoCall q whole → CalleeFits
      (named_callee r whole pl)
  named_fits (Some (ref.Fun f)) whole pl s w = tt
  named_fits (Some (ref.Method c m)) whole pl s w = tt
  named_fits (Some (ref.Builtin b)) whole pl s w = builtin_fits b pl s
  named_fits r whole pl s w = w

  member_fits : (r : Option Ref) (of_event : Bool) (x : Bytes) (whole : Form) → FormFits q whole × NoCall q whole →
      CalleeFits (member_callee r of_event x whole)
  member_fits (Some (ref.Method c m)) b x whole w = (tt, tt)
  member_fits (Some r) b x whole w = w
  member_fits None b x whole w = on_cond CalleeFits (same_name x await_name) (tt, tt)
      (on_cond CalleeFits (same_name x signal_name) (tt, tt) w)

  shape_callee_fits : (n : ℕ) (b : Shape) (whole : Form) (pl : Place) → Site pl → FormFits q whole × NoCall q whole →
      CalleeFits (callee_of_shape p n b whole pl)
  shape_callee_fits n (t.Shape.name x) whole pl s w = named_fits (ref_at p n) whole pl s w
  shape_callee_fits n (t.Shape.member b x) whole pl s w = member_fits (ref_at p n) (p.is_event (number_of b)) x whole w
  shape_callee_fits n b whole pl s w = w

  pub callee_fits : (b : Tree) (whole : Form) (pl : Place) → Site pl → FormFits q whole × NoCall q whole → CalleeFits
      (callee_of p b whole pl)
  callee_fits (tree n i b) whole pl s w = shape_callee_fits n b whole pl s w

  spawned_fits : (f : Form) → FormFits q f → FormFits q (spawned_form f)
  spawned_fits (form.calling f) s = tt
  spawned_fits (form.calling_own m) s = tt
  spawned_fits (form.calling_method m) s = tt
  spawned_fits f s = s

  spawned_no_call : (f : Form) → NoCall q f → NoCall q (spawned_form f)
  spawned_no_call (form.calling f) s = s
  spawned_no_call (form.calling_own m) s = tt
  spawned_no_call (form.calling_method m) s = tt
  spawned_no_call f s = s

  pub spawned_callee_fits : (c : Callee) → CalleeFits c → CalleeFits (spawned_callee c)
  spawned_callee_fits (alone f) s = spawned_fits f s
  spawned_callee_fits (of_object f) s = (spawned_fits f s.0, spawned_no_call f s.1)
  spawned_callee_fits (of_value f) s = tt
  spawned_callee_fits (of_quotient f) s = tt
  spawned_callee_fits no_callee s = tt

  pub member_form_fits : (r : Option Ref) (x : Bytes) → FormFits q (member_form r x) × NoCall q (member_form r x)
  member_form_fits (Some (ref.Field c n)) x = (tt, tt)
  member_form_fits r x = on_cond (λ f. FormFits q f × NoCall q f) (same_name x length_name) (tt, tt) (tt, tt)

  pub called_kept : {k l h : ℕ} (n : ℕ) {on_alone on_object on_value on_quotient : Form → Maker} (c : Callee) → CalleeFits c →
      ((f : Form) → FormFits q f → Q k l h (suc n) (on_alone f)) → ((f : Form) → FormFits q f → NoCall q f → Q k l h (suc n)
      (on_object f)) →
      ((f : Form) → FormFits q f → NoCall q f → Q k l h (suc n) (on_value f)) →
      ((f : Form) → FormFits q f → NoCall q f → Q k l h (suc n) (on_quotient f)) →
      Q k l h (suc n) (by_callee c on_alone on_object on_value on_quotient)
  unfolding by_callee
  called_kept n (alone f) s w x y z = w f s
  called_kept n (of_object f) s w x y z = x f s.0 s.1
  called_kept n (of_value f) s w x y z = y f s.0 s.1
  called_kept n (of_quotient f) s w x y z = z f s.0 s.1
  called_kept n no_callee s w x y z = more q (omega arith) q.stuck

  pub picked_fits : (ts : Trees) → FormFits q (picked ts) × NoCall q (picked ts)
  picked_fits no_trees = (tt, tt)
  picked_fits (more_trees a no_trees) = (tt, tt)
  picked_fits (more_trees a (more_trees b ts)) = (tt, tt)

  -- a list of statements that defers
  either_defers : (b c : Bool) → (b ≡ true → Defers) → (c ≡ true → Defers) → cond b true c ≡ true → Defers
  either_defers true c f g e = f refl
  either_defers false c f g e = g e

  tree_defers : (b : Tree) → Each Good (post_order b) → is_defer b ≡ true → Defers
  tree_defers (tree n pl s) g e = shape_defers n pl s (own Good n pl s g) e

  pub any_defers : (cs : Trees) → Each Good (trees_order cs) → any_defer cs ≡ true → Defers
  any_defers no_trees g e = elim (true≢false (sym e)) [ ]
  any_defers (more_trees b cs) g e = either_defers (is_defer b) (any_defer cs)
      (tree_defers b (each_first Good (post_order b) (trees_order cs) g))
      (any_defers cs (each_rest Good (post_order b) (trees_order cs) g)) e
