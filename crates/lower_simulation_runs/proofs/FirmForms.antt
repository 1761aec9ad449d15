-- The code of each form is firm where it stands in no loop.
use Rattle.std.proofs.Common.{◌≡◌, ℕ, zero, suc, List, [], ◌∷◌, length, Option, Some, None, Bool, true, false, refl}
use Rattle.verse_base.specs.declared.places.Place.{Place}
use Rattle.verse_tree.specs.Tree.{Bytes, Tree, tree, Shape, Trees, no_trees, more_trees, Holes, no_holes, more_holes, Givens, no_givens}
use Rattle.verse_tree.specs.Tree.{more_givens}
use Rattle.verse_tree.specs.Tree as t
use Rattle.verse_tree.specs.ItemTree.{FieldTree}
use Rattle.verse_tree.specs.declared.exprs.Operator.TheVariants as op
use Rattle.verse_tree.specs.declared.tables.Ref.{Ref}
use Rattle.verse_tree.specs.declared.tables.Ref.TheVariants as ref
use Rattle.verse_code.specs.declared.operations.Op.TheVariants as o
use Rattle.verse_value.specs.Val.{Val}
use Rattle.verse_meaning.specs.Programs.{Program, pattern_value, fields_of, ref_at}
use Rattle.verse_meaning.specs.Residuals as form
use Rattle.verse_meaning.specs.Residuals.{Form, Base, in_variable, in_self, in_object, nowhere, Binder, a_constant, a_variable}
use Rattle.verse_meaning.specs.Evaluating.{Statement, statement_of, plain, defines, defers, generates, Callee, alone, of_object, of_value}
use Rattle.verse_meaning.specs.Evaluating.{of_quotient, no_callee, none_left, number_of, picked, member_form, callee_of, spawned_callee}
use Rattle.verse_meaning.specs.Evaluating.{base_of, mode_of, enum_member, class_ref}
use Rattle.lower_code.specs.Pieces.{Maker, when_else, numbering, ◌then◌}
use Rattle.lower_code.specs.declared.arounds.Around.{Around}
use Rattle.lower_code.specs.Scopes.{Scope, hidden, find, this_found}
use Rattle.lower_code.specs.Arounds.{fresh, up, raised, looped, enclosed}
use Rattle.lower_code.specs.Applied.{finish, start, started, slot_of, mode_number, storing}
use Rattle.lower_code.specs.Lowering as low
use Rattle.lower_code.specs.Lowering.{how_many, is_text, any_defer, text_if, with_binder, with_generator, taking, scope_stated}
use Rattle.lower_code.specs.Lowering.{scope_behind}
use Rattle.lower_code.specs.Lowering.{enum_pattern, given_local}
use Rattle.lower_simulation_runs.proofs.Firm.{Firm, and, one_firm, none_firm, stuck_firm, placed_firm, texted_firm, put_firm}
use Rattle.lower_simulation_runs.proofs.Firm.{numbering_firm}
use Rattle.lower_simulation_runs.proofs.Firm.{when_firm, else_firm, ahead_firm, either_firm, looping_firm, turning_firm, grouped_firm}
use Rattle.lower_simulation_runs.proofs.Firm.{bind_firm, read_firm, this_firm, field_firm, push_fixed_firm, push_varies_firm, enum_firm}
use Rattle.lower_simulation_runs.proofs.Firm.{returning_firm, breaking_firm, storing_firm, finish_firm, start_firm}

abbrev Loopless : Around → Type 0
Loopless a = a.in_loop ≡ false

raised_loopless : (n : ℕ) (a : Around) → Loopless a → Loopless (raised n a)
raised_loopless zero a h = h
raised_loopless (suc n) a h = raised_loopless n (up a) h

started_loopless : (f : Form) (a : Around) → Loopless a → Loopless (started f a)
started_loopless (form.calling_own m) a h = h
started_loopless (form.spawning_own m) a h = h
started_loopless f a h = h

text_firm : (bs : Bytes) → Firm (text_if bs)
text_firm bs = when_firm (is_text bs) _ (texted_firm bs)

callee_firm : (q : Callee) {f1 f2 f3 f4 : Form → Maker} → ((f : Form) → Firm (f1 f)) → ((f : Form) → Firm (f2 f)) →
    ((f : Form) → Firm (f3 f)) → ((f : Form) → Firm (f4 f)) → Firm (low.by_callee q f1 f2 f3 f4)
unfolding low.by_callee
callee_firm (alone f) h1 h2 h3 h4 = h1 f
callee_firm (of_object f) h1 h2 h3 h4 = h2 f
callee_firm (of_value f) h1 h2 h3 h4 = h3 f
callee_firm (of_quotient f) h1 h2 h3 h4 = h4 f
callee_firm no_callee h1 h2 h3 h4 = stuck_firm

module _ (p : Program) (differ : ℕ → ℕ → Bool) where
  pattern_firm : (s : Shape) → Firm (low.pattern_op p differ s)
  pattern_firm (t.Shape.integer_pattern x) = one_firm _
  pattern_firm (t.Shape.minus_pattern x) = one_firm _
  pattern_firm (t.Shape.character_pattern x) = one_firm _
  pattern_firm (t.Shape.text_pattern bs) = texted_firm bs
  pattern_firm t.Shape.truth_pattern = one_firm _
  pattern_firm t.Shape.falsehood_pattern = one_firm _
  pattern_firm (t.Shape.enum_pattern x y) = by (pattern_value p x y)
    where
      by : (u : Option Val) → Firm (enum_pattern u)
      by None = stuck_firm
      by (Some u) = enum_firm u
  pattern_firm s = stuck_firm

  arm_by_firm : (s : Shape) (l : ℕ) (last any : Bool) {body rest : Maker} → Firm body → Firm rest →
      Firm (low.arm_by p differ s l last any body rest)
  unfolding low.arm_by
  arm_by_firm s l true any x y = x
  arm_by_firm s l false true x y = and x (ahead_firm o.Jump y)
  arm_by_firm s l false false x y = and (pattern_firm s) (and (one_firm (o.Get l)) (either_firm o.Same x y))

  arm_of_firm : (b : Tree) (l : ℕ) (last : Bool) {body rest : Maker} → Firm body → Firm rest →
      Firm (low.arm_of p differ b l last body rest)
  arm_of_firm (tree n pl s) l last x y = arm_by_firm s l last _ x y

  default_firm : (d : Option Tree) (f : ℕ) → Firm (low.default_op p differ d f)
  default_firm None f = stuck_firm
  default_firm (Some a) f = one_firm _

  field_op_firm : (g : Option ℕ) (d : Option Tree) (f : ℕ) → Firm (low.field_op p differ g d f)
  field_op_firm None d f = default_firm d f
  field_op_firm (Some l) d f = one_firm _

  fields_firm : (fs : List FieldTree) (gs : Givens) (l : ℕ) → Firm (low.field_ops p differ fs gs l)
  fields_firm [] gs l = none_firm
  fields_firm (f ∷ fs) gs l = and (field_op_firm (given_local f.name gs l) f.default f.number) (fields_firm fs gs l)

  instance_firm : (c : Option ℕ) (pl : Place) (gs : Givens) (l : ℕ) {given : Maker} → Firm given →
      Firm (low.instance_of p differ c pl gs l given)
  unfolding low.instance_of
  instance_firm None pl gs l h = stuck_firm
  instance_firm (Some c) pl gs l h = and h (and (fields_firm (fields_of p c) gs l) (placed_firm pl (o.Object c)))

  named_firm : (r : Option Ref) (x : Bytes) (sc : Scope) → Firm (low.named p differ r x sc)
  unfolding low.named
  named_firm (Some (ref.Field c n)) x sc = field_firm (this_found sc) n
  named_firm None x sc = read_firm (find x sc)
  named_firm (Some (ref.Local q)) x sc = read_firm (find x sc)
  named_firm (Some (ref.Key q)) x sc = read_firm (find x sc)
  named_firm (Some (ref.Method q u)) x sc = read_firm (find x sc)
  named_firm (Some (ref.Fun q)) x sc = read_firm (find x sc)
  named_firm (Some (ref.Class q)) x sc = read_firm (find x sc)
  named_firm (Some (ref.Enum q)) x sc = read_firm (find x sc)
  named_firm (Some (ref.Builtin q)) x sc = read_firm (find x sc)

  membered_firm : (u : Option Val) {f : Maker} → Firm f → Firm (low.membered p differ u f)
  unfolding low.membered
  membered_firm (Some u) h = enum_firm u
  membered_firm None h = h

  base_firm : (b : Base) (sc : Scope) → Firm (low.base_code p differ b sc)
  base_firm (in_variable x) sc = push_varies_firm (find x sc)
  base_firm (in_self n) sc = push_fixed_firm (this_found sc)
  base_firm (in_object n) sc = one_firm o.Unit
  base_firm nowhere sc = one_firm o.Unit

  store_firm : (there : Bool) (pl : Place) (slot operands mode : ℕ) (stays : Bool) (l : ℕ) →
      Firm (when_else there (numbering pl (λ m. storing (o.Store slot operands mode m) stays l)))
  store_firm there pl slot operands mode stays l = else_firm there (numbering pl (λ m. storing (o.Store slot operands mode m) stays l))
      (λ e. numbering_firm pl (λ m. storing (o.Store slot operands mode m) stays l)
      (λ m. storing_firm (o.Store slot operands mode m) stays l))

  stated_firm : (q : Statement) (sc : Scope) {whole inner : Maker} → Firm whole → Firm inner →
      Firm (low.stated p differ q sc whole inner)
  unfolding low.stated
  stated_firm plain sc x y = x
  stated_firm (defines b) sc x y = and y (bind_firm b (length sc))
  stated_firm (defers d) sc x y = and (ahead_firm o.Defer (and y (and (one_firm o.Drop) (one_firm o.DeferEnd)))) (one_firm o.Unit)
  stated_firm (generates g) sc x y = stuck_firm

  around_loopless : (q : Statement) (a : Around) → Loopless a → Loopless (low.around_stated p differ q a)
  around_loopless (defers d) a h = h
  around_loopless plain a h = h
  around_loopless (defines b) a h = h
  around_loopless (generates g) a h = h

  claused_firm : (q : Statement) (sc : Scope) {whole inner : Maker} (rest : Scope → Maker) → Firm whole → Firm inner →
      ((sc : Scope) → Firm (rest sc)) → Firm (low.claused p differ q sc whole inner rest)
  unfolding low.claused
  claused_firm plain sc rest x y h = and x (and (one_firm o.Drop) (h sc))
  claused_firm (defines b) sc rest x y h = and y (and (bind_firm b (length sc)) (and (one_firm o.Drop) (h (with_binder b sc))))
  claused_firm (defers d) sc rest x y h = stuck_firm
  claused_firm (generates g) sc rest x y h = and y (turning_firm (taking g (length sc)) (length sc) (h (with_generator g sc)))

  alone_firm : (ts : Trees) (f : Form) (sc : Scope) (a : Around) → Firm (low.args p differ ts sc (started f a)) →
      Firm (start f sc then low.args p differ ts sc (started f a) then finish f (how_many ts) (low.form_fits p differ f (how_many ts) sc))
  alone_firm ts f sc a h = and (start_firm f sc) (and h (finish_firm f (how_many ts) (low.form_fits p differ f (how_many ts) sc)))

  mutual
    pub piece_firm : (b : Tree) (sc : Scope) (a : Around) → Loopless a → Firm (low.piece p differ b sc a)
    piece_firm (tree n pl s) sc a h = shape_firm s n pl sc a h

    shape_firm : (s : Shape) (n : ℕ) (pl : Place) (sc : Scope) (a : Around) → Loopless a → Firm (low.shape_piece p differ s n pl sc a)
    shape_firm (t.Shape.block cs) n pl sc a h = statements_firm cs sc a h
    shape_firm (t.Shape.defer b) n pl sc a h = stuck_firm
    shape_firm (t.Shape.definition x b) n pl sc a h = and (piece_firm b sc a h) (bind_firm (a_constant x) (length sc))
    shape_firm (t.Shape.typed x w b) n pl sc a h = and (piece_firm b sc a h) (bind_firm (a_constant x) (length sc))
    shape_firm (t.Shape.variable x w b) n pl sc a h = and (piece_firm b sc a h) (bind_firm (a_variable x pl) (length sc))
    shape_firm (t.Shape.assignment x b c) n pl sc a h = and (target_firm b (base_of p b) sc a h)
        (and (piece_firm c sc (up (raised (low.target_operands b) a)) (raised_loopless (low.target_operands b) a h))
        (store_firm (low.has_base p differ b (base_of p b) sc) pl (slot_of (base_of p b)) (low.target_operands b)
        (mode_number (mode_of x)) (low.keeps x (differ (number_of b) (number_of c))) (length sc)))
    shape_firm (t.Shape.returned b) n pl sc a h = and (piece_firm b sc a h) (returning_firm a)
    shape_firm t.Shape.returned_unit n pl sc a h = and (one_firm o.Unit) (returning_firm a)
    shape_firm t.Shape.break_form n pl sc a h = breaking_firm a h
    shape_firm (t.Shape.if_else cs b c) n pl sc a h = either_firm o.Try (and (statements_firm cs sc (enclosed a) refl)
        (and (one_firm o.Drop) (and (one_firm o.Commit) (piece_firm b (scope_behind cs sc) a h)))) (piece_firm c sc a h)
    shape_firm (t.Shape.if_alone cs b) n pl sc a h = either_firm o.Try (and (statements_firm cs sc (enclosed a) refl)
        (and (one_firm o.Drop) (and (one_firm o.Commit) (piece_firm b (scope_behind cs sc) a h)))) (one_firm o.Unit)
    shape_firm (t.Shape.negation b) n pl sc a h = and (ahead_firm o.Try (and (piece_firm b sc (enclosed a) refl)
        (and (one_firm o.Drop) (and (one_firm o.Undo) (one_firm o.Fail))))) (one_firm o.Unit)
    shape_firm (t.Shape.option cs) n pl sc a h = either_firm o.Try (and (statements_firm cs sc (enclosed a) refl)
        (and (one_firm o.Commit) (placed_firm pl o.Some))) (one_firm o.False)
    shape_firm (t.Shape.logic cs) n pl sc a h = either_firm o.Try (and (statements_firm cs sc (enclosed a) refl)
        (and (one_firm o.Drop) (and (one_firm o.Commit) (one_firm o.True)))) (one_firm o.False)
    shape_firm (t.Shape.chained op.Or b c) n pl sc a h =
        either_firm o.Try (and (piece_firm b sc (enclosed a) refl) (one_firm o.Commit)) (piece_firm c sc a h)
    shape_firm (t.Shape.for_form cs b) n pl sc a h = numbering_firm pl _ (λ m. and (one_firm (o.Array 0 m)) (and (put_firm (length sc))
        (and (ahead_firm o.Try (levels_firm cs (hidden ∷ sc) (enclosed a) refl _ (λ inside. and (one_firm o.Commit)
        (and (piece_firm b inside a h) (one_firm (o.Append (length sc) m)))))) (one_firm (o.Get (length sc))))))
    shape_firm (t.Shape.chained op.Div b c) n pl sc a h = stuck_firm
    shape_firm (t.Shape.chained op.And b c) n pl sc a h =
        and (piece_firm b sc a h) (and (one_firm o.Drop) (piece_firm c sc a h))
    shape_firm (t.Shape.chained op.Add b c) n pl sc a h = and (piece_firm b sc a h)
        (and (piece_firm c sc (up a) h) (finish_firm (form.computing op.Add (p.is_array n) pl) 2 true))
    shape_firm (t.Shape.chained op.Sub b c) n pl sc a h = and (piece_firm b sc a h)
        (and (piece_firm c sc (up a) h) (finish_firm (form.computing op.Sub (p.is_array n) pl) 2 true))
    shape_firm (t.Shape.chained op.Mul b c) n pl sc a h = and (piece_firm b sc a h)
        (and (piece_firm c sc (up a) h) (finish_firm (form.computing op.Mul (p.is_array n) pl) 2 true))
    shape_firm (t.Shape.compared x b c) n pl sc a h = and (piece_firm b sc a h)
        (and (piece_firm c sc (up a) h) (finish_firm (form.comparing x) 2 true))
    shape_firm (t.Shape.minus b) n pl sc a h = and (piece_firm b sc a h) (finish_firm (form.negating pl) 1 true)
    shape_firm (t.Shape.query b) n pl sc a h = and (piece_firm b sc a h) (finish_firm form.querying 1 true)
    shape_firm (t.Shape.member b x) n pl sc a h = membered_firm (enum_member p b x)
        (and (piece_firm b sc a h) (finish_firm (member_form (ref_at p n) x) 1 true))
    shape_firm (t.Shape.call b ts) n pl sc a h = callee_firm (callee_of p b (picked ts) pl)
        (λ f. alone_firm ts f sc a (args_firm ts sc (started f a) (started_loopless f a h)))
        (λ f. and (inner_firm b sc a h) (and (args_firm ts sc (up a) h) (finish_firm f (how_many ts) true)))
        (λ f. and (piece_firm b sc a h) (finish_firm f 0 true))
        (λ f. and (quotient_firm ts sc a h) (finish_firm f 2 true))
    shape_firm (t.Shape.index b ts) n pl sc a h = callee_firm (callee_of p b form.indexing pl)
        (λ f. alone_firm ts f sc a (args_firm ts sc (started f a) (started_loopless f a h)))
        (λ f. and (inner_firm b sc a h) (and (args_firm ts sc (up a) h) (finish_firm f (how_many ts) true)))
        (λ f. and (piece_firm b sc a h) (and (args_firm ts sc (up a) h) (finish_firm f (how_many ts) true)))
        (λ f. and (quotient_firm ts sc a h) (finish_firm f 2 true))
    shape_firm (t.Shape.integer x) n pl sc a h = one_firm _
    shape_firm (t.Shape.character x) n pl sc a h = one_firm _
    shape_firm (t.Shape.text bs) n pl sc a h = texted_firm bs
    shape_firm (t.Shape.holes bs hs) n pl sc a h = and (text_firm bs)
        (and (holed_firm hs sc (raised (low.one_if (is_text bs) 0) a) (raised_loopless (low.one_if (is_text bs) 0) a h))
        (finish_firm (form.joining [] pl) (low.one_if (is_text bs) (low.joined_parts hs)) true))
    shape_firm t.Shape.truth n pl sc a h = one_firm _
    shape_firm t.Shape.falsehood n pl sc a h = one_firm _
    shape_firm t.Shape.this n pl sc a h = this_firm (this_found sc)
    shape_firm (t.Shape.name x) n pl sc a h = named_firm (ref_at p n) x sc
    shape_firm (t.Shape.tuple ts) n pl sc a h = and (args_firm ts sc a h) (finish_firm (form.making_tuple pl) (how_many ts) true)
    shape_firm (t.Shape.array ts) n pl sc a h = and (args_firm ts sc a h) (finish_firm (form.making_array pl) (how_many ts) true)
    shape_firm (t.Shape.mapping ps) n pl sc a h = and (pairs_firm ps sc a h) (finish_firm (form.making_map pl) (low.pairs_in ps) true)
    shape_firm (t.Shape.instance x gs) n pl sc a h =
        instance_firm (class_ref p (ref_at p n)) pl gs (length sc) (givens_firm gs sc a h)
    shape_firm (t.Shape.event w) n pl sc a h = placed_firm pl o.Event
    shape_firm t.Shape.bare_event n pl sc a h = placed_firm pl o.Event
    shape_firm (t.Shape.loop_form b) n pl sc a h = looping_firm (low.piece p differ b sc (looped a))
    shape_firm (t.Shape.block_form b) n pl sc a h = piece_firm b sc a h
    shape_firm (t.Shape.cases b ts) n pl sc a h = and (piece_firm b sc a h)
        (and (put_firm (length sc)) (arms_firm ts (length sc) (hidden ∷ sc) a h))
    shape_firm (t.Shape.branch b) n pl sc a h = ahead_firm o.Branch (and (piece_firm b sc fresh refl) (one_firm o.ArmEnd))
    shape_firm (t.Shape.sync ts) n pl sc a h = grouped_firm 0 (how_many ts) pl (low.arm_spots p differ ts sc) (tasks_firm ts sc)
    shape_firm (t.Shape.race ts) n pl sc a h = grouped_firm 1 (how_many ts) pl (low.arm_spots p differ ts sc) (tasks_firm ts sc)
    shape_firm (t.Shape.rush ts) n pl sc a h = grouped_firm 2 (how_many ts) pl (low.arm_spots p differ ts sc) (tasks_firm ts sc)
    shape_firm (t.Shape.spawn b) n pl sc a h = spawned_firm b sc a h
    shape_firm (t.Shape.sleep d) n pl sc a h = one_firm _
    shape_firm t.Shape.sleep_forever n pl sc a h = one_firm _
    shape_firm s n pl sc a h = stuck_firm

    statements_firm : (cs : Trees) (sc : Scope) (a : Around) → Loopless a → Firm (low.statements p differ cs sc a)
    statements_firm no_trees sc a h = one_firm o.Unit
    statements_firm (more_trees b cs) sc a h = and (stated_firm (statement_of b) sc (piece_firm b sc a h) (inner_firm b sc a h))
        (and (more_firm cs (scope_stated (statement_of b) sc) (low.around_stated p differ (statement_of b) a)
        (around_loopless (statement_of b) a h)) (when_firm (any_defer (more_trees b cs)) _ (one_firm (o.Leave a.defers))))

    more_firm : (cs : Trees) (sc : Scope) (a : Around) → Loopless a → Firm (low.more_statements p differ cs sc a)
    more_firm no_trees sc a h = none_firm
    more_firm (more_trees b cs) sc a h = and (one_firm o.Drop)
        (and (stated_firm (statement_of b) sc (piece_firm b sc a h) (inner_firm b sc a h))
        (more_firm cs (scope_stated (statement_of b) sc) (low.around_stated p differ (statement_of b) a)
        (around_loopless (statement_of b) a h)))

    inner_firm : (b : Tree) (sc : Scope) (a : Around) → Loopless a → Firm (low.inner p differ b sc a)
    inner_firm (tree n pl s) sc a h = inner_shape_firm s sc a h

    inner_shape_firm : (s : Shape) (sc : Scope) (a : Around) → Loopless a → Firm (low.inner_shape p differ s sc a)
    inner_shape_firm (t.Shape.definition x b) sc a h = piece_firm b sc a h
    inner_shape_firm (t.Shape.typed x w b) sc a h = piece_firm b sc a h
    inner_shape_firm (t.Shape.variable x w b) sc a h = piece_firm b sc a h
    inner_shape_firm (t.Shape.defer b) sc a h = piece_firm b sc (enclosed a) refl
    inner_shape_firm (t.Shape.member b x) sc a h = piece_firm b sc a h
    inner_shape_firm (t.Shape.elements x b) sc a h = piece_firm b sc a h
    inner_shape_firm (t.Shape.entries x y b) sc a h = piece_firm b sc a h
    inner_shape_firm (t.Shape.range x b c) sc a h = and (piece_firm b sc a h) (piece_firm c sc (up a) h)
    inner_shape_firm s sc a h = stuck_firm

    args_firm : (ts : Trees) (sc : Scope) (a : Around) → Loopless a → Firm (low.args p differ ts sc a)
    args_firm no_trees sc a h = none_firm
    args_firm (more_trees b ts) sc a h = and (piece_firm b sc a h) (args_firm ts sc (up a) h)

    holed_firm : (hs : Holes) (sc : Scope) (a : Around) → Loopless a → Firm (low.holed p differ hs sc a)
    holed_firm no_holes sc a h = none_firm
    holed_firm (more_holes b bs hs) sc a h = and (piece_firm b sc a h) (and (text_firm bs)
        (holed_firm hs sc (raised (suc (low.one_if (is_text bs) 0)) a) (raised_loopless (suc (low.one_if (is_text bs) 0)) a h)))

    pairs_firm : (ps : t.Pairs) (sc : Scope) (a : Around) → Loopless a → Firm (low.paired_args p differ ps sc a)
    pairs_firm t.Pairs.no_pairs sc a h = none_firm
    pairs_firm (t.Pairs.more_pairs b c ps) sc a h = and (piece_firm b sc a h)
        (and (piece_firm c sc (up a) h) (pairs_firm ps sc (up (up a)) h))

    givens_firm : (gs : Givens) (sc : Scope) (a : Around) → Loopless a → Firm (low.given_args p differ gs sc a)
    givens_firm no_givens sc a h = none_firm
    givens_firm (more_givens x b gs) sc a h =
        and (piece_firm b sc a h) (and (put_firm (length sc)) (givens_firm gs (hidden ∷ sc) a h))

    quotient_firm : (ts : Trees) (sc : Scope) (a : Around) → Loopless a → Firm (low.quotient p differ ts sc a)
    quotient_firm no_trees sc a h = stuck_firm
    quotient_firm (more_trees b ts) sc a h = quotient_tree_firm b sc a h

    quotient_tree_firm : (b : Tree) (sc : Scope) (a : Around) → Loopless a → Firm (low.quotient_tree p differ b sc a)
    quotient_tree_firm (tree n pl s) sc a h = quotient_shape_firm s sc a h

    quotient_shape_firm : (s : Shape) (sc : Scope) (a : Around) → Loopless a → Firm (low.quotient_shape p differ s sc a)
    quotient_shape_firm (t.Shape.chained x b c) sc a h = and (piece_firm b sc a h) (piece_firm c sc (up a) h)
    quotient_shape_firm s sc a h = stuck_firm

    target_firm : (b : Tree) (base : Base) (sc : Scope) (a : Around) → Loopless a → Firm (low.target_piece p differ b base sc a)
    target_firm (tree n pl s) base sc a h = target_shape_firm s base sc a h

    target_shape_firm : (s : Shape) (base : Base) (sc : Scope) (a : Around) → Loopless a → Firm (low.target_shape p differ s base sc a)
    target_shape_firm (t.Shape.name x) base sc a h = base_firm base sc
    target_shape_firm (t.Shape.member b x) base sc a h = piece_firm b sc a h
    target_shape_firm (t.Shape.index b ts) base sc a h = and (target_firm b base sc a h)
        (args_firm ts sc (up (raised (low.target_operands b) a)) (raised_loopless (low.target_operands b) a h))
    target_shape_firm s base sc a h = stuck_firm

    levels_firm : (cs : Trees) (sc : Scope) (a : Around) → Loopless a → (body : Scope → Maker) → ((sc : Scope) → Firm (body sc)) →
        Firm (low.levels p differ cs sc a body)
    levels_firm no_trees sc a h body k = k sc
    levels_firm (more_trees c cs) sc a h body k = claused_firm (statement_of c) sc _ (piece_firm c sc a h) (inner_firm c sc a h)
        (λ sc. levels_firm cs sc a h body k)

    arms_firm : (ts : Trees) (l : ℕ) (sc : Scope) (a : Around) → Loopless a → Firm (low.arms p differ ts l sc a)
    arms_firm no_trees l sc a h = stuck_firm
    arms_firm (more_trees b ts) l sc a h = arm_tree_firm b ts l sc a h (arms_firm ts l sc a h)

    arm_tree_firm : (b : Tree) (ts : Trees) (l : ℕ) (sc : Scope) (a : Around) → Loopless a → {rest : Maker} → Firm rest →
        Firm (low.arm_tree p differ b ts l sc a rest)
    arm_tree_firm (tree n pl s) ts l sc a h k = arm_shape_firm s ts l sc a h k

    arm_shape_firm : (s : Shape) (ts : Trees) (l : ℕ) (sc : Scope) (a : Around) → Loopless a → {rest : Maker} → Firm rest →
        Firm (low.arm_shape p differ s ts l sc a rest)
    arm_shape_firm (t.Shape.arm b c) ts l sc a h k = arm_of_firm b l (none_left ts) (piece_firm c sc a h) k
    arm_shape_firm s ts l sc a h k = stuck_firm

    tasks_firm : (ts : Trees) (sc : Scope) → Firm (low.task_arms p differ ts sc)
    tasks_firm no_trees sc = none_firm
    tasks_firm (more_trees b ts) sc = and (and (piece_firm b sc fresh refl) (one_firm o.ArmEnd)) (tasks_firm ts sc)

    spawned_firm : (b : Tree) (sc : Scope) (a : Around) → Loopless a → Firm (low.spawned p differ b sc a)
    spawned_firm (tree n pl s) sc a h = spawned_shape_firm s pl sc a h

    spawned_shape_firm : (s : Shape) (pl : Place) (sc : Scope) (a : Around) → Loopless a → Firm (low.spawned_shape p differ s pl sc a)
    spawned_shape_firm (t.Shape.call b ts) pl sc a h = callee_firm (spawned_callee (callee_of p b (form.picking None) pl))
        (λ f. alone_firm ts f sc a (args_firm ts sc (started f a) (started_loopless f a h)))
        (λ f. and (inner_firm b sc a h) (and (args_firm ts sc (up a) h) (finish_firm f (how_many ts) true)))
        (λ f. stuck_firm) (λ f. stuck_firm)
    spawned_shape_firm s pl sc a h = stuck_firm
