-- The code of each form keeps what the combinators keep: one clause a form.
use Rattle.std.proofs.Common.{◌≡◌, ℕ, zero, suc, ◌+◌, ◌≤◌, [], ◌∷◌, ◌++◌, length, Bool, true, Some, None, refl, arith}
use Rattle.verse_base.specs.declared.places.Place.{Place}
use Rattle.verse_tree.specs.Tree.{Bytes, Tree, tree, Shape, Trees, no_trees, more_trees, Holes, no_holes, more_holes, Givens, no_givens}
use Rattle.verse_tree.specs.Tree.{more_givens}
use Rattle.verse_tree.specs.Tree as t
use Rattle.verse_tree.specs.PostOrder.{Node, post_order, parts, trees_order, holes_order, pairs_order, givens_order, written_order}
use Rattle.verse_tree.specs.declared.exprs.Operator.TheVariants as op
use Rattle.verse_code.specs.declared.operations.Op.TheVariants as o
use Rattle.verse_meaning.specs.Programs.{Program, ref_at, fields_of}
use Rattle.verse_meaning.specs.Residuals as form
use Rattle.verse_meaning.specs.Residuals.{Form, Base, Binder, a_constant, a_variable}
use Rattle.verse_meaning.specs.Evaluating.{statement_of, statement_of_shape, callee_of, spawned_callee, picked, member_form, class_ref}
use Rattle.verse_meaning.specs.Evaluating.{enum_member}
use Rattle.verse_meaning.specs.Evaluating.{base_of, mode_of, none_left, number_of}
use Rattle.lower_code.specs.declared.arounds.Around.{Around}
use Rattle.lower_code.specs.Pieces.{Maker, ◌then◌}
use Rattle.lower_code.specs.Scopes.{Scope, hidden, this_found}
use Rattle.lower_code.specs.Arounds.{fresh, up, raised, looped, enclosed}
use Rattle.lower_code.specs.Applied.{start, started, finish, slot_of}
use Rattle.lower_code.specs.Lowering.{how_many, is_text, joined_parts, text_if, pairs_in, target_operands, scope_stated, scope_behind}
use Rattle.lower_code.specs.Lowering.{keeps}
use Rattle.lower_code.specs.Lowering.{stated, around_stated, any_defer, has_base, form_fits, task_arms, arm_spots}
use Rattle.lower_code.specs.Lowering.{piece, shape_piece, statements, more_statements, inner, inner_shape, args, holed, paired_args}
use Rattle.lower_code.specs.Lowering.{given_args}
use Rattle.lower_code.specs.Lowering.{quotient, quotient_tree, quotient_shape, target_piece, target_shape, levels, arms, arm_tree}
use Rattle.lower_code.specs.Lowering.{arm_shape}
use Rattle.lower_code.specs.Lowering.{spawned, spawned_shape}
use Rattle.lower_bounds.proofs.Lists.{Each, each_first, each_rest, node, own, inside}
use Rattle.lower_bounds.proofs.Costs.{parts_weight, trees_weight, holes_weight, pairs_weight, givens_weight, weight, cost, inner_cost}
use Rattle.lower_bounds.proofs.Costs.{operands_cost}
use Rattle.lower_bounds.proofs.Costs.{target_cost, cost_is, inner_cost_is, operands_cost_is, target_cost_is}
use Rattle.lower_bounds.proofs.Kept.{Kept, PiecesAre}
use Rattle.lower_bounds.proofs.Arms.{arms_many, arms_between}
use Rattle.lower_bounds.proofs.Leaves.{more, ground, and, when_else_kept, dropped_few, finish_kept, no_call, fits_call, get}
use Rattle.lower_bounds.proofs.Leaves.{unit, drop, commit}
use Rattle.lower_bounds.proofs.Leaves.{read_this_kept, named_kept, base_code_kept, start_kept, FormFits, NoCall, started_plain}
use Rattle.lower_bounds.proofs.Leaves.{storing_kept, returning_kept, breaking_kept}
use Rattle.lower_bounds.proofs.Statements.{statement_fits, tree_fits, bind_kept, stated_kept, statement_grows, scope_grows, around_plain}
use Rattle.lower_bounds.proofs.Statements.{around_height}
use Rattle.lower_bounds.proofs.Statements.{any_defers, claused_kept, arm_of_kept, instance_kept, membered_kept, callee_fits}
use Rattle.lower_bounds.proofs.Statements.{spawned_callee_fits}
use Rattle.lower_bounds.proofs.Statements.{member_form_fits, called_kept, picked_fits}

pub raised_height : (n : ℕ) (a : Around) → (raised n a).height ≡ n + a.height
raised_height zero a = omega arith
raised_height (suc n) a = omega (arith, raised_height n (up a))

pub started_height : (f : Form) (a : Around) → (started f a).height ≤ 1 + a.height
started_height (form.calling_own m) a = omega arith
started_height (form.spawning_own m) a = omega arith
started_height f a = omega arith

pub cost_some : (fields : ℕ → ℕ) (b : Tree) → 12 ≤ cost fields b
cost_some fields (tree n pl s) = omega arith

-- fields are no fewer than those of the class of an instance, by the number of its node
module _ {p : Program} {differ : ℕ → ℕ → Bool} {Good : Node → Type 0} {Plain : Around → Type 0} {Q : (k l h n : ℕ) → Maker → Type 0}
    {Site : Place → Type 0} {Piece : Bytes → Type 0} {Defers : Type 0} (q : Kept p differ Good Plain Q Site Piece Defers) (fields : ℕ → ℕ)
    (few : (n c : ℕ) → class_ref p (ref_at p n) ≡ Some c → length (fields_of p c) ≤ fields n) where
  abbrev pub AllGood : Tree → Type 0
  AllGood b = Each Good (post_order b)

  abbrev pub AllOf : Trees → Type 0
  AllOf ts = Each Good (trees_order ts)

  raised_plain : (n : ℕ) (a : Around) → Plain a → Plain (raised n a)
  raised_plain zero a x = x
  raised_plain (suc n) a x = raised_plain n (up a) (q.up a x)

  text_kept : {k l h : ℕ} (bs : Bytes) → Piece bs → Q k l h 1 (text_if bs)
  text_kept bs x = q.when (is_text bs) (λ e. q.texted bs x)

  -- a call whose callee is no operand, and one whose object is
  alone_kept : (ts : Trees) (f : Form) (k : ℕ) (sc : Scope) (a : Around) → FormFits q f →
      Q k (length sc) (started f a).height (operands_cost fields ts) (args p differ ts sc (started f a)) → Q k (length sc) a.height
      (4 + how_many ts + operands_cost fields ts)
      (start f sc then args p differ ts sc (started f a) then finish f (how_many ts) (form_fits p differ f (how_many ts) sc))
  alone_kept ts f k sc a s y = more q (omega (arith, dropped_few q f (how_many ts))) (q.over 1 (start_kept q f sc) (and q y
      (finish_kept q f (how_many ts) (form_fits p differ f (how_many ts) sc) s (fits_call q f (how_many ts) sc)))
      (omega (arith, started_height f a)) (omega arith))

  object_kept : (b : Tree) (ts : Trees) (f : Form) (k : ℕ) (sc : Scope) (a : Around) → FormFits q f → NoCall q f →
      Q k (length sc) a.height (inner_cost fields b) (inner p differ b sc a) → Q k (length sc) (up a).height (operands_cost fields ts)
      (args p differ ts sc (up a)) →
      Q k (length sc) a.height (3 + how_many ts + inner_cost fields b + operands_cost fields ts)
      (inner p differ b sc a then args p differ ts sc (up a) then finish f (how_many ts) true)
  object_kept b ts f k sc a s n y z = more q (omega (arith, dropped_few q f (how_many ts))) (q.over 1 y (and q z
      (finish_kept q f (how_many ts) true s (no_call q f (how_many ts) true n)))
      (omega arith) (omega arith))

  mutual
    pub piece_kept : (b : Tree) → AllGood b → (k : ℕ) (sc : Scope) (a : Around) → Plain a → Q k (length sc) a.height (cost fields b)
        (piece p differ b sc a)
    piece_kept (tree n pl s) g k sc a x = shape_kept s n pl (own Good n pl s g) (inside Good n pl s g) k sc a x

    shape_kept : (s : Shape) (n : ℕ) (pl : Place) → Good (node n pl s) → Each Good (parts s) → (k : ℕ) (sc : Scope) (a : Around) →
        Plain a →
        Q k (length sc) a.height (12 + parts_weight fields n s) (shape_piece p differ s n pl sc a)
    -- blocks and statements
    shape_kept (t.Shape.block cs) n pl v g k sc a x = more q (omega arith) (statements_kept cs g k sc a x)
    shape_kept (t.Shape.defer b) n pl v g k sc a x = more q (omega arith) q.stuck
    shape_kept (t.Shape.definition y b) n pl v g k sc a x = more q (omega (arith, cost_is fields b))
        (and q (piece_kept b g k sc a x) (bind_kept q (a_constant y) tt))
    shape_kept (t.Shape.typed y w b) n pl v g k sc a x = more q (omega (arith, cost_is fields b))
        (and q (piece_kept b (each_rest Good (written_order w) (post_order b) g) k sc a x) (bind_kept q (a_constant y) tt))
    shape_kept (t.Shape.variable y w b) n pl v g k sc a x = more q (omega (arith, cost_is fields b))
        (and q (piece_kept b (each_rest Good (written_order w) (post_order b) g) k sc a x) (bind_kept q (a_variable y pl) (q.site _ v)))
    shape_kept (t.Shape.assignment y b c) n pl v g k sc a x =
        let e = target_operands b in
        q.lower (omega (arith, target_cost_is fields b, cost_is fields c)) (omega (arith, target_cost_is fields b, cost_is fields c))
        (q.over 0 (target_kept b (each_first Good (post_order b) (post_order c) g) (base_of p b) k sc a (suc (e + a.height)) x
        (omega arith))
        (and q (piece_kept c (each_rest Good (post_order b) (post_order c) g) k sc (up (raised e a)) (q.up _ (raised_plain e a x)))
        (when_else_kept q (has_base p differ b (base_of p b) sc) (λ is. q.numbering pl _ (q.site _ v)
        (λ m. storing_kept q (mode_of y) (slot_of (base_of p b)) e m
        (keeps y (differ (number_of b) (number_of c)))))))
        (omega (arith, raised_height e a)) (omega arith))
    shape_kept (t.Shape.returned b) n pl v g k sc a x = more q (omega (arith, cost_is fields b))
        (and q (piece_kept b g k sc a x) (returning_kept q a x))
    shape_kept t.Shape.returned_unit n pl v g k sc a x = more q (omega arith) (and q (unit q) (returning_kept q a x))
    shape_kept t.Shape.break_form n pl v g k sc a x = more q (omega arith) (breaking_kept q a x)
    -- failure contexts
    shape_kept (t.Shape.if_else cs b c) n pl v g k sc a x =
        let h = each_first Good (trees_order cs ++ post_order b) (post_order c) g in
        more q (omega (arith, cost_is fields b, cost_is fields c)) (q.either o.Try (λ m. ((λ z at e. e), refl))
        (q.over 0 (ground q (statements_kept cs (each_first Good (trees_order cs) (post_order b) h) k sc (enclosed a) (q.enclosed a x)))
        (and q (drop q) (and q (commit q) (piece_kept b (each_rest Good (trees_order cs) (post_order b) h) k (scope_behind cs sc) a x)))
        (omega arith) (omega (arith, scope_grows q cs sc, operands_cost_is fields cs)))
        (piece_kept c (each_rest Good (trees_order cs ++ post_order b) (post_order c) g) k sc a x))
    shape_kept (t.Shape.if_alone cs b) n pl v g k sc a x = more q (omega (arith, cost_is fields b))
        (q.either o.Try (λ m. ((λ z at e. e), refl))
        (q.over 0 (ground q (statements_kept cs (each_first Good (trees_order cs) (post_order b) g) k sc (enclosed a) (q.enclosed a x)))
        (and q (drop q) (and q (commit q) (piece_kept b (each_rest Good (trees_order cs) (post_order b) g) k (scope_behind cs sc) a x)))
        (omega arith) (omega (arith, scope_grows q cs sc, operands_cost_is fields cs)))
        (unit q))
    shape_kept (t.Shape.negation b) n pl v g k sc a x = more q (omega (arith, cost_is fields b))
        (and q (q.ahead o.Try (λ m. ((λ z at e. e), refl))
        (ground q (and q (piece_kept b g k sc (enclosed a) (q.enclosed a x)) (and q (drop q) (and q (q.op o.Undo ((λ z at. refl), refl))
        (q.op o.Fail ((λ z at. refl), refl))))))) (unit q))
    shape_kept (t.Shape.option cs) n pl v g k sc a x = more q (omega arith) (q.either o.Try (λ m. ((λ z at e. e), refl))
        (ground q (and q (statements_kept cs g k sc (enclosed a) (q.enclosed a x)) (and q (commit q)
        (q.placed pl o.Some (q.site _ v) (λ m. ((λ z at e. e), refl)))))) (q.op o.False ((λ z at. refl), refl)))
    shape_kept (t.Shape.logic cs) n pl v g k sc a x = more q (omega arith) (q.either o.Try (λ m. ((λ z at e. e), refl))
        (ground q (and q (statements_kept cs g k sc (enclosed a) (q.enclosed a x))
        (and q (drop q) (and q (commit q) (q.op o.True ((λ z at. refl), refl))))))
        (q.op o.False ((λ z at. refl), refl)))
    shape_kept (t.Shape.chained op.Or b c) n pl v g k sc a x = more q (omega (arith, cost_is fields b, cost_is fields c))
        (q.either o.Try (λ m. ((λ z at e. e), refl))
        (ground q (and q (piece_kept b (each_first Good (post_order b) (post_order c) g) k sc (enclosed a) (q.enclosed a x)) (commit q)))
        (piece_kept c (each_rest Good (post_order b) (post_order c) g) k sc a x))
    shape_kept (t.Shape.for_form cs b) n pl v g k sc a x =
        more q (omega (arith, cost_is fields b)) (q.numbering pl _ (q.site _ v)
        (λ m. and q (q.op_with m (o.Array 0 m) ((λ z at e. e), refl))
        (q.over 0 q.put_away (and q (q.ahead o.Try (λ m. ((λ z at e. e), refl))
        (levels_kept cs (each_first Good (trees_order cs) (post_order b) g) (suc m) a.height _ (hidden ∷ sc) (enclosed a)
        (q.enclosed a x) (omega arith)
        (λ sc2. and q (commit q) (and q (piece_kept b (each_rest Good (trees_order cs) (post_order b) g) (suc m) sc2 a x)
        (q.op_with m (o.Append (length sc) m) ((λ z at e. e), refl)))))) (get q (length sc))) (omega arith) (omega arith))))
    -- operators
    shape_kept (t.Shape.chained op.Div b c) n pl v g k sc a x = more q (omega arith) q.stuck
    shape_kept (t.Shape.chained op.And b c) n pl v g k sc a x = more q (omega (arith, cost_is fields b, cost_is fields c))
        (and q (piece_kept b (each_first Good (post_order b) (post_order c) g) k sc a x)
        (and q (drop q) (piece_kept c (each_rest Good (post_order b) (post_order c) g) k sc a x)))
    shape_kept (t.Shape.chained y b c) n pl v g k sc a x = more q (omega (arith, cost_is fields b, cost_is fields c))
        (q.over 1 (piece_kept b (each_first Good (post_order b) (post_order c) g) k sc a x)
        (and q (piece_kept c (each_rest Good (post_order b) (post_order c) g) k sc (up a) (q.up a x))
        (finish_kept q (form.computing y (p.is_array n) pl) 2 true (q.site _ v) tt)) (omega arith) (omega arith))
    shape_kept (t.Shape.compared y b c) n pl v g k sc a x = more q (omega (arith, cost_is fields b, cost_is fields c))
        (q.over 1 (piece_kept b (each_first Good (post_order b) (post_order c) g) k sc a x)
        (and q (piece_kept c (each_rest Good (post_order b) (post_order c) g) k sc (up a) (q.up a x))
        (finish_kept q (form.comparing y) 2 true tt tt)) (omega arith) (omega arith))
    shape_kept (t.Shape.minus b) n pl v g k sc a x = more q (omega (arith, cost_is fields b))
        (and q (piece_kept b g k sc a x) (finish_kept q (form.negating pl) 1 true (q.site _ v) tt))
    shape_kept (t.Shape.query b) n pl v g k sc a x = more q (omega (arith, cost_is fields b))
        (and q (piece_kept b g k sc a x) (finish_kept q form.querying 1 true tt tt))
    -- members, calls, indices
    shape_kept (t.Shape.member b y) n pl v g k sc a x =
        let f = member_form_fits q (ref_at p n) y in
        more q (omega (arith, cost_is fields b, dropped_few q (member_form (ref_at p n) y) 1))
        (membered_kept q (enum_member p b y) (and q (piece_kept b g k sc a x)
        (finish_kept q (member_form (ref_at p n) y) 1 true f.0 (no_call q (member_form (ref_at p n) y) 1 true f.1))))
    shape_kept (t.Shape.call b ts) n pl v g k sc a x =
        let gb = each_first Good (post_order b) (trees_order ts) g in
        let gs = each_rest Good (post_order b) (trees_order ts) g in
        let m = 10 + weight fields b + trees_weight fields ts in
        more q (omega arith) (called_kept q m (callee_of p b (picked ts) pl)
        (callee_fits q b (picked ts) pl (q.site _ v) (picked_fits q ts))
        (λ f s. more q (omega (arith, operands_cost_is fields ts)) (alone_kept ts f k sc a s
        (args_kept ts gs k sc (started f a) (started_plain q f a x))))
        (λ f s y. more q (omega (arith, operands_cost_is fields ts, inner_cost_is fields b, cost_is fields b))
        (object_kept b ts f k sc a s y (inner_kept b gb k sc a x) (args_kept ts gs k sc (up a) (q.up a x))))
        (λ f s y. more q (omega (arith, cost_is fields b, dropped_few q f 0)) (and q (piece_kept b gb k sc a x)
        (finish_kept q f 0 true s (no_call q f 0 true y))))
        (λ f s y. more q (omega (arith, dropped_few q f 2))
        (and q (quotient_kept ts gs k sc a x) (finish_kept q f 2 true s (no_call q f 2 true y)))))
    shape_kept (t.Shape.index b ts) n pl v g k sc a x =
        let gb = each_first Good (post_order b) (trees_order ts) g in
        let gs = each_rest Good (post_order b) (trees_order ts) g in
        let m = 10 + weight fields b + trees_weight fields ts in
        more q (omega arith) (called_kept q m (callee_of p b form.indexing pl) (callee_fits q b form.indexing pl (q.site _ v) (tt, tt))
        (λ f s. more q (omega (arith, operands_cost_is fields ts)) (alone_kept ts f k sc a s
        (args_kept ts gs k sc (started f a) (started_plain q f a x))))
        (λ f s y. more q (omega (arith, operands_cost_is fields ts, inner_cost_is fields b, cost_is fields b))
        (object_kept b ts f k sc a s y (inner_kept b gb k sc a x) (args_kept ts gs k sc (up a) (q.up a x))))
        (λ f s y. more q (omega (arith, cost_is fields b, operands_cost_is fields ts, dropped_few q f (how_many ts)))
        (q.over 1 (piece_kept b gb k sc a x)
        (and q (args_kept ts gs k sc (up a) (q.up a x)) (finish_kept q f (how_many ts) true s (no_call q f (how_many ts) true y)))
        (omega arith) (omega arith)))
        (λ f s y. more q (omega (arith, dropped_few q f 2))
        (and q (quotient_kept ts gs k sc a x) (finish_kept q f 2 true s (no_call q f 2 true y)))))
    -- literals and names
    shape_kept (t.Shape.integer z) n pl v g k sc a x = more q (omega arith) (q.op (o.Int z) ((λ z at. refl), refl))
    shape_kept (t.Shape.character c) n pl v g k sc a x = more q (omega arith) (q.char n pl c v)
    shape_kept (t.Shape.text bs) n pl v g k sc a x = more q (omega arith) (q.texted bs (q.text n pl bs v))
    shape_kept (t.Shape.holes [] hs) n pl v g k sc a x = more q (omega arith) (and q (text_kept [] (q.first_piece n pl _ hs v))
        (and q (holed_kept hs g (q.pieces n pl _ hs v) k sc a x) (finish_kept q (form.joining [] pl) (joined_parts hs) true
        (q.site _ v) tt)))
    shape_kept (t.Shape.holes (y ∷ ys) hs) n pl v g k sc a x = more q (omega arith)
        (q.over 1 (text_kept (y ∷ ys) (q.first_piece n pl _ hs v))
        (and q (holed_kept hs g (q.pieces n pl _ hs v) k sc (up a) (q.up a x))
        (finish_kept q (form.joining [] pl) (suc (joined_parts hs)) true (q.site _ v) tt))
        (omega arith) (omega arith))
    shape_kept t.Shape.truth n pl v g k sc a x = more q (omega arith) (q.op o.True ((λ z at. refl), refl))
    shape_kept t.Shape.falsehood n pl v g k sc a x = more q (omega arith) (q.op o.False ((λ z at. refl), refl))
    shape_kept t.Shape.this n pl v g k sc a x = more q (omega arith) (read_this_kept q (this_found sc))
    shape_kept (t.Shape.name y) n pl v g k sc a x = more q (omega arith) (named_kept q (ref_at p n) y sc)
    -- values that are made
    shape_kept (t.Shape.tuple ts) n pl v g k sc a x = more q (omega (arith, operands_cost_is fields ts))
        (and q (args_kept ts g k sc a x) (finish_kept q (form.making_tuple pl) (how_many ts) true (q.site _ v) tt))
    shape_kept (t.Shape.array ts) n pl v g k sc a x = more q (omega (arith, operands_cost_is fields ts))
        (and q (args_kept ts g k sc a x) (finish_kept q (form.making_array pl) (how_many ts) true (q.site _ v) tt))
    shape_kept (t.Shape.mapping ps) n pl v g k sc a x = more q (omega arith)
        (and q (pairs_kept ps g k sc a x) (finish_kept q (form.making_map pl) (pairs_in ps) true (q.site _ v) tt))
    shape_kept (t.Shape.instance y gs) n pl v g k sc a x = more q (omega arith)
        (instance_kept q n (fields n) (class_ref p (ref_at p n)) pl gs (length sc) refl (few n) (q.site _ v) (givens_kept gs g k sc a x))
    shape_kept (t.Shape.event w) n pl v g k sc a x = more q (omega arith) (q.placed pl o.Event (q.site _ v) (λ m. ((λ z at e. e), refl)))
    shape_kept t.Shape.bare_event n pl v g k sc a x = more q (omega arith) (q.placed pl o.Event (q.site _ v) (λ m. ((λ z at e. e), refl)))
    -- loops and blocks
    shape_kept (t.Shape.loop_form b) n pl v g k sc a x = more q (omega (arith, cost_is fields b))
        (q.looping (piece_kept b g k sc (looped a) (q.looped a x)))
    shape_kept (t.Shape.block_form b) n pl v g k sc a x = more q (omega (arith, cost_is fields b)) (piece_kept b g k sc a x)
    shape_kept (t.Shape.cases b ts) n pl v g k sc a x = more q (omega (arith, cost_is fields b))
        (and q (piece_kept b (each_first Good (post_order b) (trees_order ts) g) k sc a x)
        (q.over 0 q.put_away (arms_kept ts (each_rest Good (post_order b) (trees_order ts) g) (length sc) k (hidden ∷ sc) a x)
        (omega arith) (omega arith)))
    -- tasks
    shape_kept (t.Shape.branch b) n pl v g k sc a x = more q (omega (arith, cost_is fields b))
        (q.ahead o.Branch (λ m. ((λ z at e. e), refl))
        (ground q (and q (piece_kept b g k sc fresh q.fresh) (q.op o.ArmEnd ((λ z at. refl), refl)))))
    shape_kept (t.Shape.sync ts) n pl v g k sc a x = more q (omega (arith, operands_cost_is fields ts))
        (q.grouped 0 (how_many ts) pl (arm_spots p differ ts sc) (task_arms p differ ts sc) (omega arith) (q.site _ v)
        (arms_many p differ ts sc)
        (arms_between p differ ts sc) (tasks_kept ts g k sc))
    shape_kept (t.Shape.race ts) n pl v g k sc a x = more q (omega (arith, operands_cost_is fields ts))
        (q.grouped 1 (how_many ts) pl (arm_spots p differ ts sc) (task_arms p differ ts sc) (omega arith) (q.site _ v)
        (arms_many p differ ts sc)
        (arms_between p differ ts sc) (tasks_kept ts g k sc))
    shape_kept (t.Shape.rush ts) n pl v g k sc a x = more q (omega (arith, operands_cost_is fields ts))
        (q.grouped 2 (how_many ts) pl (arm_spots p differ ts sc) (task_arms p differ ts sc) (omega arith) (q.site _ v)
        (arms_many p differ ts sc)
        (arms_between p differ ts sc) (tasks_kept ts g k sc))
    shape_kept (t.Shape.spawn b) n pl v g k sc a x = more q (omega (arith, cost_is fields b)) (spawned_kept b g k sc a x)
    shape_kept (t.Shape.sleep d) n pl v g k sc a x = more q (omega arith) (q.sleep n pl d v)
    shape_kept t.Shape.sleep_forever n pl v g k sc a x = more q (omega arith) (q.op o.Forever ((λ z at. refl), refl))
    shape_kept s n pl v g k sc a x = more q (omega arith) q.stuck

    statements_kept : (cs : Trees) → AllOf cs → (k : ℕ) (sc : Scope) (a : Around) → Plain a → Q k (length sc) a.height
        (2 + trees_weight fields cs) (statements p differ cs sc a)
    statements_kept no_trees g k sc a x = more q (omega arith) (unit q)
    statements_kept (more_trees b cs) g k sc a x = more q (omega (arith, cost_is fields b))
        (q.over 0 (stated_tree_kept b (each_first Good (post_order b) (trees_order cs) g) k sc a x)
        (and q (more_statements_kept cs (each_rest Good (post_order b) (trees_order cs) g) k (scope_stated (statement_of b) sc)
        (around_stated p differ (statement_of b) a) (around_plain q (statement_of b) a
        (tree_fits q b (each_first Good (post_order b) (trees_order cs) g)) x))
        (q.when (any_defer (more_trees b cs)) (λ e. q.leave a.defers (any_defers q (more_trees b cs) g e))))
        (omega (arith, around_height q (statement_of b) a)) (omega (arith, statement_grows q (statement_of b) sc, cost_some fields b)))

    more_statements_kept : (cs : Trees) → AllOf cs → (k : ℕ) (sc : Scope) (a : Around) → Plain a →
        Q k (length sc) a.height (trees_weight fields cs) (more_statements p differ cs sc a)
    more_statements_kept no_trees g k sc a x = more q (omega arith) q.none
    more_statements_kept (more_trees b cs) g k sc a x = more q (omega (arith, cost_is fields b)) (and q (drop q)
        (q.over 0 (stated_tree_kept b (each_first Good (post_order b) (trees_order cs) g) k sc a x)
        (more_statements_kept cs (each_rest Good (post_order b) (trees_order cs) g) k (scope_stated (statement_of b) sc)
        (around_stated p differ (statement_of b) a) (around_plain q (statement_of b) a
        (tree_fits q b (each_first Good (post_order b) (trees_order cs) g)) x))
        (omega (arith, around_height q (statement_of b) a)) (omega (arith, statement_grows q (statement_of b) sc, cost_some fields b))))

    stated_tree_kept : (b : Tree) → AllGood b → (k : ℕ) (sc : Scope) (a : Around) → Plain a →
        Q k (length sc) a.height (cost fields b) (stated p differ (statement_of b) sc (piece p differ b sc a) (inner p differ b sc a))
    stated_tree_kept (tree n pl s) g k sc a x = stated_kept q (parts_weight fields n s) (statement_of_shape s pl) sc
        (statement_fits q n pl s (own Good n pl s g))
        (shape_kept s n pl (own Good n pl s g) (inside Good n pl s g) k sc a x) (inner_shape_kept s n (inside Good n pl s g) k sc a x)

    inner_kept : (b : Tree) → AllGood b → (k : ℕ) (sc : Scope) (a : Around) → Plain a → Q k (length sc) a.height (inner_cost fields b)
        (inner p differ b sc a)
    inner_kept (tree n pl s) g k sc a x = inner_shape_kept s n (inside Good n pl s g) k sc a x

    inner_shape_kept : (s : Shape) (n : ℕ) → Each Good (parts s) → (k : ℕ) (sc : Scope) (a : Around) → Plain a →
        Q k (length sc) a.height (1 + parts_weight fields n s) (inner_shape p differ s sc a)
    inner_shape_kept (t.Shape.definition y b) n g k sc a x = more q (omega (arith, cost_is fields b)) (piece_kept b g k sc a x)
    inner_shape_kept (t.Shape.typed y w b) n g k sc a x = more q (omega (arith, cost_is fields b))
        (piece_kept b (each_rest Good (written_order w) (post_order b) g) k sc a x)
    inner_shape_kept (t.Shape.variable y w b) n g k sc a x = more q (omega (arith, cost_is fields b))
        (piece_kept b (each_rest Good (written_order w) (post_order b) g) k sc a x)
    inner_shape_kept (t.Shape.defer b) n g k sc a x = more q (omega (arith, cost_is fields b))
        (ground q (piece_kept b g k sc (enclosed a) (q.enclosed a x)))
    inner_shape_kept (t.Shape.member b y) n g k sc a x = more q (omega (arith, cost_is fields b)) (piece_kept b g k sc a x)
    inner_shape_kept (t.Shape.elements y b) n g k sc a x = more q (omega (arith, cost_is fields b)) (piece_kept b g k sc a x)
    inner_shape_kept (t.Shape.entries y z b) n g k sc a x = more q (omega (arith, cost_is fields b)) (piece_kept b g k sc a x)
    inner_shape_kept (t.Shape.range y b c) n g k sc a x = more q (omega (arith, cost_is fields b, cost_is fields c))
        (q.over 1 (piece_kept b (each_first Good (post_order b) (post_order c) g) k sc a x)
        (piece_kept c (each_rest Good (post_order b) (post_order c) g) k sc (up a) (q.up a x)) (omega arith) (omega arith))
    inner_shape_kept s n g k sc a x = more q (omega arith) q.stuck

    target_kept : (b : Tree) → AllGood b → (base : Base) (k : ℕ) (sc : Scope) (a : Around) (h : ℕ) → Plain a →
        target_operands b + a.height ≤ h →
        Q k (length sc) h (target_cost fields b) (target_piece p differ b base sc a)
    target_kept (tree n pl s) g base k sc a h x le = target_shape_kept s n pl (inside Good n pl s g) base k sc a h x le

    target_shape_kept : (s : Shape) (n : ℕ) (pl : Place) → Each Good (parts s) → (base : Base) (k : ℕ) (sc : Scope) (a : Around)
        (h : ℕ) → Plain a →
        target_operands (tree n pl s) + a.height ≤ h → Q k (length sc) h (target_cost fields (tree n pl s))
        (target_shape p differ s base sc a)
    target_shape_kept (t.Shape.name y) n pl g base k sc a h x le = base_code_kept q base sc
    target_shape_kept (t.Shape.member b y) n pl g base k sc a h x le = q.wider (omega arith) (omega (arith, le)) (omega arith)
        (piece_kept b g k sc a x)
    target_shape_kept (t.Shape.index b no_trees) n pl g base k sc a h x le = and q
        (target_kept b (each_first Good (post_order b) [] g) base k sc a h x (omega (arith, le))) q.none
    target_shape_kept (t.Shape.index b (more_trees c ts)) n pl g base k sc a h x le =
        let e = target_operands b in
        and q (target_kept b (each_first Good (post_order b) (trees_order (more_trees c ts)) g) base k sc a h x (omega (arith, le)))
        (q.wider (omega arith) (omega (arith, le, raised_height e a)) (omega arith)
        (args_kept (more_trees c ts) (each_rest Good (post_order b) (trees_order (more_trees c ts)) g) k sc (up (raised e a))
        (q.up _ (raised_plain e a x))))
    target_shape_kept s n pl g base k sc a h x le = q.stuck

    -- operands
    args_kept : (ts : Trees) → AllOf ts → (k : ℕ) (sc : Scope) (a : Around) → Plain a → Q k (length sc) a.height
        (operands_cost fields ts) (args p differ ts sc a)
    args_kept no_trees g k sc a x = q.none
    args_kept (more_trees b ts) g k sc a x = q.over 1 (piece_kept b (each_first Good (post_order b) (trees_order ts) g) k sc a x)
        (args_kept ts (each_rest Good (post_order b) (trees_order ts) g) k sc (up a) (q.up a x)) (omega arith) (omega arith)

    holed_kept : (hs : Holes) → Each Good (holes_order hs) → PiecesAre Piece hs → (k : ℕ) (sc : Scope) (a : Around) → Plain a →
        Q k (length sc) a.height (holes_weight fields hs) (holed p differ hs sc a)
    holed_kept no_holes g r k sc a x = more q (omega arith) q.none
    holed_kept (more_holes b [] hs) g r k sc a x = more q (omega (arith, cost_is fields b))
        (q.over 1 (piece_kept b (each_first Good (post_order b) (holes_order hs) g) k sc a x)
        (and q (text_kept [] r.0) (holed_kept hs (each_rest Good (post_order b) (holes_order hs) g) r.1 k sc (up a) (q.up a x)))
        (omega arith) (omega arith))
    holed_kept (more_holes b (y ∷ ys) hs) g r k sc a x = more q (omega (arith, cost_is fields b))
        (q.over {i = length sc} {j = (up a).height} 1 (piece_kept b (each_first Good (post_order b) (holes_order hs) g) k sc a x)
        (q.over 1 (text_kept (y ∷ ys) r.0) (holed_kept hs (each_rest Good (post_order b) (holes_order hs) g) r.1 k sc (up (up a))
        (q.up _ (q.up a x)))
        (omega arith) (omega arith)) (omega arith) (omega arith))

    pairs_kept : (ps : t.Pairs) → Each Good (pairs_order ps) → (k : ℕ) (sc : Scope) (a : Around) → Plain a →
        Q k (length sc) a.height (pairs_weight fields ps) (paired_args p differ ps sc a)
    pairs_kept t.Pairs.no_pairs g k sc a x = more q (omega arith) q.none
    pairs_kept (t.Pairs.more_pairs b c ps) g k sc a x =
        let h = each_first Good (post_order b ++ post_order c) (pairs_order ps) g in
        more q (omega (arith, cost_is fields b, cost_is fields c)) (q.over 1
        (piece_kept b (each_first Good (post_order b) (post_order c) h) k sc a x)
        (q.over 1 (piece_kept c (each_rest Good (post_order b) (post_order c) h) k sc (up a) (q.up a x))
        (pairs_kept ps (each_rest Good (post_order b ++ post_order c) (pairs_order ps) g) k sc (up (up a)) (q.up _ (q.up a x)))
        (omega arith) (omega arith)) (omega arith) (omega arith))

    givens_kept : (gs : Givens) → Each Good (givens_order gs) → (k : ℕ) (sc : Scope) (a : Around) → Plain a →
        Q k (length sc) a.height (givens_weight fields gs) (given_args p differ gs sc a)
    givens_kept no_givens g k sc a x = more q (omega arith) q.none
    givens_kept (more_givens y b gs) g k sc a x = more q (omega (arith, cost_is fields b))
        (and q (piece_kept b (each_first Good (post_order b) (givens_order gs) g) k sc a x)
        (q.over 0 q.put_away (givens_kept gs (each_rest Good (post_order b) (givens_order gs) g) k (hidden ∷ sc) a x) (omega arith)
        (omega arith)))

    quotient_kept : (ts : Trees) → AllOf ts → (k : ℕ) (sc : Scope) (a : Around) → Plain a → Q k (length sc) a.height
        (1 + trees_weight fields ts) (quotient p differ ts sc a)
    quotient_kept no_trees g k sc a x = more q (omega arith) q.stuck
    quotient_kept (more_trees b ts) g k sc a x = more q (omega (arith, inner_cost_is fields b, cost_is fields b))
        (quotient_tree_kept b (each_first Good (post_order b) (trees_order ts) g) k sc a x)

    quotient_tree_kept : (b : Tree) → AllGood b → (k : ℕ) (sc : Scope) (a : Around) → Plain a → Q k (length sc) a.height
        (inner_cost fields b) (quotient_tree p differ b sc a)
    quotient_tree_kept (tree n pl s) g k sc a x = quotient_shape_kept s n (inside Good n pl s g) k sc a x

    quotient_shape_kept : (s : Shape) (n : ℕ) → Each Good (parts s) → (k : ℕ) (sc : Scope) (a : Around) → Plain a →
        Q k (length sc) a.height (1 + parts_weight fields n s) (quotient_shape p differ s sc a)
    quotient_shape_kept (t.Shape.chained y b c) n g k sc a x = more q (omega (arith, cost_is fields b, cost_is fields c))
        (q.over 1 (piece_kept b (each_first Good (post_order b) (post_order c) g) k sc a x)
        (piece_kept c (each_rest Good (post_order b) (post_order c) g) k sc (up a) (q.up a x)) (omega arith) (omega arith))
    quotient_shape_kept s n g k sc a x = more q (omega arith) q.stuck

    -- the clauses of a `for`, with r for its body
    levels_kept : (cs : Trees) → AllOf cs → (k h r : ℕ) {body : Scope → Maker} (sc : Scope) (a : Around) → Plain a → a.height ≤ h →
        ((sc : Scope) → Q k (length sc) h r (body sc)) → Q k (length sc) h (trees_weight fields cs + r) (levels p differ cs sc a body)
    levels_kept no_trees g k h r sc a x le y = more q (omega arith) (y sc)
    levels_kept (more_trees (tree n pl s) cs) g k h r sc a x le y =
        let gs = each_first Good (post_order (tree n pl s)) (trees_order cs) g in
        more q (omega arith) (claused_kept q (parts_weight fields n s) (statement_of_shape s pl) sc
        (statement_fits q n pl s (own Good n pl s gs))
        (q.wider (omega arith) le (omega arith) (shape_kept s n pl (own Good n pl s gs) (inside Good n pl s gs) k sc a x))
        (q.wider (omega arith) le (omega arith) (inner_shape_kept s n (inside Good n pl s gs) k sc a x))
        (λ sc2. levels_kept cs (each_rest Good (post_order (tree n pl s)) (trees_order cs) g) k h r sc2 a x le y))

    -- the arms of a `case`
    arms_kept : (ts : Trees) → AllOf ts → (l k : ℕ) (sc : Scope) (a : Around) → Plain a → Q k (length sc) a.height
        (1 + trees_weight fields ts) (arms p differ ts l sc a)
    arms_kept no_trees g l k sc a x = more q (omega arith) q.stuck
    arms_kept (more_trees b ts) g l k sc a x = more q (omega (arith, cost_is fields b))
        (arm_tree_kept b (each_first Good (post_order b) (trees_order ts) g) ts l k _ sc a x
        (arms_kept ts (each_rest Good (post_order b) (trees_order ts) g) l k sc a x))

    arm_tree_kept : (b : Tree) → AllGood b → (ts : Trees) (l k r : ℕ) {rest : Maker} (sc : Scope) (a : Around) → Plain a → Q k
        (length sc) a.height r rest →
        Q k (length sc) a.height (cost fields b + r) (arm_tree p differ b ts l sc a rest)
    arm_tree_kept (tree n pl s) g ts l k r sc a x y = arm_shape_kept s n (inside Good n pl s g) ts l k r sc a x y

    arm_shape_kept : (s : Shape) (n : ℕ) → Each Good (parts s) → (ts : Trees) (l k r : ℕ) {rest : Maker} (sc : Scope) (a : Around) →
        Plain a →
        Q k (length sc) a.height r rest → Q k (length sc) a.height (12 + parts_weight fields n s + r)
        (arm_shape p differ s ts l sc a rest)
    arm_shape_kept (t.Shape.arm b c) n g ts l k r sc a x y = more q (omega (arith, cost_is fields c))
        (arm_of_kept q b l (none_left ts) (each_first Good (post_order b) (post_order c) g)
        (piece_kept c (each_rest Good (post_order b) (post_order c) g) k sc a x) y)
    arm_shape_kept s n g ts l k r sc a x y = more q (omega arith) q.stuck

    -- the arms of a group
    tasks_kept : (ts : Trees) → AllOf ts → (k : ℕ) (sc : Scope) → Q k (length sc) 0 (operands_cost fields ts) (task_arms p differ ts sc)
    tasks_kept no_trees g k sc = q.none
    tasks_kept (more_trees b ts) g k sc = more q (omega arith) (and q (and q
        (piece_kept b (each_first Good (post_order b) (trees_order ts) g) k sc fresh q.fresh) (q.op o.ArmEnd ((λ z at. refl), refl)))
        (tasks_kept ts (each_rest Good (post_order b) (trees_order ts) g) k sc))

    -- the call that a `spawn` starts
    spawned_kept : (b : Tree) → AllGood b → (k : ℕ) (sc : Scope) (a : Around) → Plain a → Q k (length sc) a.height (cost fields b)
        (spawned p differ b sc a)
    spawned_kept (tree n pl s) g k sc a x = spawned_shape_kept s n pl (own Good n pl s g) (inside Good n pl s g) k sc a x

    spawned_shape_kept : (s : Shape) (n : ℕ) (pl : Place) → Good (node n pl s) → Each Good (parts s) → (k : ℕ) (sc : Scope)
        (a : Around) → Plain a →
        Q k (length sc) a.height (12 + parts_weight fields n s) (spawned_shape p differ s pl sc a)
    spawned_shape_kept (t.Shape.call b ts) n pl v g k sc a x =
        let gb = each_first Good (post_order b) (trees_order ts) g in
        let gs = each_rest Good (post_order b) (trees_order ts) g in
        let m = 10 + weight fields b + trees_weight fields ts in
        more q (omega arith) (called_kept q m (spawned_callee (callee_of p b (form.picking None) pl))
        (spawned_callee_fits q (callee_of p b (form.picking None) pl) (callee_fits q b (form.picking None) pl (q.site _ v) (tt, tt)))
        (λ f s. more q (omega (arith, operands_cost_is fields ts)) (alone_kept ts f k sc a s
        (args_kept ts gs k sc (started f a) (started_plain q f a x))))
        (λ f s y. more q (omega (arith, operands_cost_is fields ts, inner_cost_is fields b, cost_is fields b))
        (object_kept b ts f k sc a s y (inner_kept b gb k sc a x) (args_kept ts gs k sc (up a) (q.up a x))))
        (λ f s y. more q (omega arith) q.stuck)
        (λ f s y. more q (omega arith) q.stuck))
    spawned_shape_kept s n pl v g k sc a x = more q (omega arith) q.stuck
