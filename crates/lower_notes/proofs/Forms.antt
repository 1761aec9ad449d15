-- One state for each operation: one clause a form.
use Rattle.std.proofs.Common.{◌≡◌, ℕ, suc, ◌∷◌, length, Bool, true, None, refl, arith}
use Rattle.verse_base.specs.declared.places.Place.{Place}
use Rattle.verse_tree.specs.Tree.{Tree, tree, Shape, Trees, no_trees, more_trees, Holes, no_holes, more_holes, Givens}
use Rattle.verse_tree.specs.Tree.{no_givens}
use Rattle.verse_tree.specs.Tree.{more_givens}
use Rattle.verse_tree.specs.Tree as t
use Rattle.verse_tree.specs.declared.exprs.Operator.TheVariants as op
use Rattle.verse_code.specs.declared.operations.Op.TheVariants as o
use Rattle.verse_sorts.specs.Sorts.{Sort}
use Rattle.verse_meaning.specs.Programs.{Program, ref_at}
use Rattle.verse_meaning.specs.Residuals as form
use Rattle.verse_meaning.specs.Residuals.{Form, Base, a_constant, a_variable}
use Rattle.verse_meaning.specs.Evaluating.{statement_of, none_left, picked, member_form, callee_of, spawned_callee}
use Rattle.verse_meaning.specs.Evaluating.{base_of, enum_member, class_ref}
use Rattle.verse_sound_rules.specs.Found.{Found}
use Rattle.lower_code.specs.declared.arounds.Around.{Around}
use Rattle.lower_code.specs.Pieces.{Spot, Maker, past, one, ◌then◌}
use Rattle.lower_code.specs.Scopes.{Scope, hidden, this_found}
use Rattle.lower_code.specs.Arounds.{fresh, up, raised, looped, enclosed}
use Rattle.lower_code.specs.Applied.{started}
use Rattle.lower_code.specs.Lowering.{how_many, is_text, one_if, joined_parts, pairs_in, any_defer, target_operands}
use Rattle.lower_code.specs.Lowering.{scope_stated}
use Rattle.lower_code.specs.Lowering.{scope_behind, has_base, around_stated, piece, shape_piece, statements}
use Rattle.lower_code.specs.Lowering.{more_statements}
use Rattle.lower_code.specs.Lowering.{inner, inner_shape, args, holed, paired_args, given_args, quotient}
use Rattle.lower_code.specs.Lowering.{quotient_shape, target_piece}
use Rattle.lower_code.specs.Lowering.{target_shape, levels, arms, arm_shape, task_arms, arm_spots, spawned}
use Rattle.lower_code.specs.Lowering.{spawned_shape}
use Rattle.lower_notes.specs.States.{pops}
use Rattle.lower_notes.specs.Stretches.{Walk}
use Rattle.lower_notes.specs.Noting as n
use Rattle.lower_notes.specs.Laws.{Beside}
use Rattle.lower_notes.proofs.Counted.{both, each, none, just, just_ends, just_leaves, at_place, text, away, sticks}
use Rattle.lower_notes.proofs.Counted.{if_so, else_stuck}
use Rattle.lower_notes.proofs.Counted.{numbered, gives_value, wider, before, tries, attempts, loops, groups}
use Rattle.lower_notes.proofs.Counted as counted
use Rattle.lower_notes.proofs.Others.{reads_this, binds, stores, finishes, starts, returns, breaks, texts, callees}
use Rattle.lower_notes.proofs.Others.{reads_name, members, bases}
use Rattle.lower_notes.proofs.Others.{states, clauses, arm_of, makes}

module _ (p : Program) (found : Found) (differ : ℕ → ℕ → Bool) where
  -- each arm of a group has its place
  spots_many : (ts : Trees) (sc : Scope) (s : Spot) → length (arm_spots p differ ts sc s) ≡ how_many ts
  spots_many no_trees sc s = refl
  spots_many (more_trees b ts) sc s =
      omega (arith, spots_many ts sc (past s ((piece p differ b sc fresh then one o.ArmEnd) s)))

  mutual
    pub trees : (b : Tree) (sc : Scope) (a : Around) → Beside (piece p differ b sc a)
        (n.walk p found differ b sc a)
    trees (tree i pl x) sc a = gives_value (found.sort i) (shapes x i pl sc a)

    pub shapes : (x : Shape) (i : ℕ) (pl : Place) (sc : Scope) (a : Around) →
        Beside (shape_piece p differ x i pl sc a) (n.shape_walk p found differ x i pl sc a)
    -- blocks and statements
    shapes (t.Shape.block cs) i pl sc a = all cs sc a
    shapes (t.Shape.defer b) i pl sc a = sticks
    shapes (t.Shape.definition x b) i pl sc a = both (trees b sc a) (binds (a_constant x) (length sc)
        (found.sort i))
    shapes (t.Shape.typed x w b) i pl sc a = both (trees b sc a) (binds (a_constant x) (length sc)
        (found.sort i))
    shapes (t.Shape.variable x w b) i pl sc a = both (trees b sc a) (binds (a_variable x pl) (length sc)
        (found.sort i))
    shapes (t.Shape.assignment x b c) i pl sc a =
        both (targets b (base_of p b) sc a) (both (trees c sc (up (raised (target_operands b) a)))
        (else_stuck (has_base p differ b (base_of p b) sc) (numbered pl (λ m. stores _ _ _ _ _ _))))
    shapes (t.Shape.returned b) i pl sc a = both (trees b sc a) (returns a)
    shapes t.Shape.returned_unit i pl sc a = both just (returns a)
    shapes t.Shape.break_form i pl sc a = breaks a
    -- failure contexts
    shapes (t.Shape.if_else cs b c) i pl sc a = attempts
        (both (all cs sc (enclosed a)) (both just (both just (trees b (scope_behind cs sc) a))))
        (trees c sc a)
    shapes (t.Shape.if_alone cs b) i pl sc a = attempts
        (both (all cs sc (enclosed a)) (both just (both just (trees b (scope_behind cs sc) a)))) just
    shapes (t.Shape.negation b) i pl sc a =
        both (tries (both (trees b sc (enclosed a)) (both just (both just just_ends)))) just
    shapes (t.Shape.option cs) i pl sc a = attempts (both (all cs sc (enclosed a))
        (both just (at_place o.Some))) just
    shapes (t.Shape.logic cs) i pl sc a = attempts (both (all cs sc (enclosed a))
        (both just (both just just))) just
    shapes (t.Shape.chained op.Or b c) i pl sc a = attempts (both (trees b sc (enclosed a)) just)
        (trees c sc a)
    shapes (t.Shape.for_form cs b) i pl sc a = numbered pl (λ m. both just (both away (both
        (tries (clauses_of cs (hidden ∷ sc) (enclosed a)
        (λ z. both just (both (trees b z a) (just {h = pops 1}))))) just)))
    -- operators
    shapes (t.Shape.chained op.Div b c) i pl sc a = sticks
    shapes (t.Shape.chained op.And b c) i pl sc a = both (trees b sc a) (both just (trees c sc a))
    shapes (t.Shape.chained op.Add b c) i pl sc a =
        both (trees b sc a) (both (trees c sc (up a))
        (finishes (form.computing op.Add (p.is_array i) pl) 2 true))
    shapes (t.Shape.chained op.Sub b c) i pl sc a =
        both (trees b sc a) (both (trees c sc (up a))
        (finishes (form.computing op.Sub (p.is_array i) pl) 2 true))
    shapes (t.Shape.chained op.Mul b c) i pl sc a =
        both (trees b sc a) (both (trees c sc (up a))
        (finishes (form.computing op.Mul (p.is_array i) pl) 2 true))
    shapes (t.Shape.compared x b c) i pl sc a = both (trees b sc a) (both (trees c sc (up a))
        (finishes (form.comparing x) 2 true))
    shapes (t.Shape.minus b) i pl sc a = both (trees b sc a) (finishes (form.negating pl) 1 true)
    shapes (t.Shape.query b) i pl sc a = both (trees b sc a) (finishes form.querying 1 true)
    -- members, calls, indices
    shapes (t.Shape.member b x) i pl sc a =
        members p found differ (enum_member p b x) (both (trees b sc a)
        (finishes (member_form (ref_at p i) x) 1 _))
    shapes (t.Shape.call b ts) i pl sc a = callees (callee_of p b (picked ts) pl)
        (λ f. both (starts f sc) (both (operands ts sc (started f a)) (finishes f (how_many ts) _)))
        (λ f. both (inners b sc a) (both (operands ts sc (up a)) (finishes f (how_many ts) _)))
        (λ f. both (trees b sc a) (finishes f 0 _))
        (λ f. both (quotients ts sc a) (finishes f 2 _))
    shapes (t.Shape.index b ts) i pl sc a = callees (callee_of p b form.indexing pl)
        (λ f. both (starts f sc) (both (operands ts sc (started f a)) (finishes f (how_many ts) _)))
        (λ f. both (inners b sc a) (both (operands ts sc (up a)) (finishes f (how_many ts) _)))
        (λ f. both (trees b sc a) (both (indices _ ts sc (up a)) (finishes f (how_many ts) _)))
        (λ f. both (quotients ts sc a) (finishes f 2 _))
    -- literals and names
    shapes (t.Shape.integer z) i pl sc a = just
    shapes (t.Shape.character z) i pl sc a = just
    shapes (t.Shape.text bs) i pl sc a = text
    shapes (t.Shape.holes bs hs) i pl sc a = both (texts bs)
        (both (holes hs sc (raised (one_if (is_text bs) 0) a))
        (at_place (o.Join (one_if (is_text bs) (joined_parts hs)))))
    shapes t.Shape.truth i pl sc a = just
    shapes t.Shape.falsehood i pl sc a = just
    shapes t.Shape.this i pl sc a = reads_this (this_found sc)
    shapes (t.Shape.name x) i pl sc a = reads_name p found differ (ref_at p i) x sc
    -- values that are made
    shapes (t.Shape.tuple ts) i pl sc a = both (operands ts sc a) (at_place (o.Tuple (how_many ts)))
    shapes (t.Shape.array ts) i pl sc a = both (operands ts sc a) (at_place (o.Array (how_many ts)))
    shapes (t.Shape.mapping ps) i pl sc a = both (entries _ ps sc a) (at_place (o.Map (pairs_in ps)))
    shapes (t.Shape.instance x gs) i pl sc a = makes p found differ (class_ref p (ref_at p i)) pl gs
        (length sc) (givens gs sc a)
    shapes (t.Shape.event w) i pl sc a = at_place o.Event
    shapes t.Shape.bare_event i pl sc a = at_place o.Event
    -- loops and blocks
    shapes (t.Shape.loop_form b) i pl sc a = loops (trees b sc (looped a))
    shapes (t.Shape.block_form b) i pl sc a = trees b sc a
    shapes (t.Shape.cases b ts) i pl sc a = both (trees b sc a)
        (both away (arms_of ts (length sc) (hidden ∷ sc) a))
    -- tasks
    shapes (t.Shape.branch b) i pl sc a = before o.Branch (both (trees b sc fresh) just_ends)
    shapes (t.Shape.sync ts) i pl sc a = groups 0 (how_many ts) pl (found.sort i) (arm_spots p differ ts sc)
        (spots_many ts sc) (tasks ts sc)
    shapes (t.Shape.race ts) i pl sc a = groups 1 (how_many ts) pl (found.sort i) (arm_spots p differ ts sc)
        (spots_many ts sc) (tasks ts sc)
    shapes (t.Shape.rush ts) i pl sc a = groups 2 (how_many ts) pl (found.sort i) (arm_spots p differ ts sc)
        (spots_many ts sc) (tasks ts sc)
    shapes (t.Shape.spawn b) i pl sc a = spawns b sc a
    shapes (t.Shape.sleep d) i pl sc a = just
    shapes t.Shape.sleep_forever i pl sc a = just
    shapes x i pl sc a = sticks

    -- statements
    pub all : (ts : Trees) (sc : Scope) (a : Around) → Beside (statements p differ ts sc a)
        (n.statements p found differ ts sc a)
    all no_trees sc a = just
    all (more_trees b cs) sc a = both (states p found differ (statement_of b) _ sc (trees b sc a)
        (inners b sc a))
        (both (more cs (scope_stated (statement_of b) sc) (around_stated p differ (statement_of b) a))
        (if_so (any_defer (more_trees b cs)) (just_leaves (o.Leave a.defers) a.defers)))

    pub more : (ts : Trees) (sc : Scope) (a : Around) →
        Beside (more_statements p differ ts sc a) (n.more_statements p found differ ts sc a)
    more no_trees sc a = none
    more (more_trees b cs) sc a =
        both just (both (states p found differ (statement_of b) _ sc (trees b sc a) (inners b sc a))
        (more cs (scope_stated (statement_of b) sc) (around_stated p differ (statement_of b) a)))

    pub inners : (b : Tree) (sc : Scope) (a : Around) → Beside (inner p differ b sc a)
        (n.inner p found differ b sc a)
    inners (tree i pl x) sc a = inner_shapes x sc a

    pub inner_shapes : (x : Shape) (sc : Scope) (a : Around) → Beside (inner_shape p differ x sc a)
        (n.inner_shape p found differ x sc a)
    inner_shapes (t.Shape.definition x b) sc a = trees b sc a
    inner_shapes (t.Shape.typed x w b) sc a = trees b sc a
    inner_shapes (t.Shape.variable x w b) sc a = trees b sc a
    inner_shapes (t.Shape.defer b) sc a = trees b sc (enclosed a)
    inner_shapes (t.Shape.member b x) sc a = trees b sc a
    inner_shapes (t.Shape.elements x b) sc a = trees b sc a
    inner_shapes (t.Shape.entries x y b) sc a = trees b sc a
    inner_shapes (t.Shape.range x b c) sc a = both (trees b sc a) (trees c sc (up a))
    inner_shapes x sc a = sticks

    -- operands
    pub operands : (ts : Trees) (sc : Scope) (a : Around) → Beside (args p differ ts sc a)
        (n.args p found differ ts sc a)
    operands no_trees sc a = none
    operands (more_trees b ts) sc a = both (trees b sc a) (operands ts sc (up a))

    pub indices : (q : Sort) (ts : Trees) (sc : Scope) (a : Around) → Beside (args p differ ts sc a)
        (n.indices p found differ q ts sc a)
    indices q no_trees sc a = none
    indices q (more_trees b ts) sc a = both (wider _ (trees b sc a)) (indices q ts sc (up a))

    pub holes : (hs : Holes) (sc : Scope) (a : Around) → Beside (holed p differ hs sc a)
        (n.holed p found differ hs sc a)
    holes no_holes sc a = none
    holes (more_holes b bs hs) sc a =
        both (trees b sc a) (both (texts bs) (holes hs sc (raised (suc (one_if (is_text bs) 0)) a)))

    pub entries : (k : Sort) (ps : t.Pairs) (sc : Scope) (a : Around) →
        Beside (paired_args p differ ps sc a) (n.paired_args p found differ k ps sc a)
    entries k t.Pairs.no_pairs sc a = none
    entries k (t.Pairs.more_pairs b c ps) sc a =
        both (wider k (trees b sc a)) (both (trees c sc (up a)) (entries k ps sc (up (up a))))

    pub givens : (gs : Givens) (sc : Scope) (a : Around) → Beside (given_args p differ gs sc a)
        (n.given_args p found differ gs sc a)
    givens no_givens sc a = none
    givens (more_givens x b gs) sc a = both (trees b sc a) (both away (givens gs (hidden ∷ sc) a))

    pub quotients : (ts : Trees) (sc : Scope) (a : Around) → Beside (quotient p differ ts sc a)
        (n.quotient p found differ ts sc a)
    quotients no_trees sc a = sticks
    quotients (more_trees (tree i pl x) ts) sc a = quotient_shapes x sc a

    pub quotient_shapes : (x : Shape) (sc : Scope) (a : Around) →
        Beside (quotient_shape p differ x sc a) (n.quotient_shape p found differ x sc a)
    quotient_shapes (t.Shape.chained x b c) sc a = both (trees b sc a) (trees c sc (up a))
    quotient_shapes x sc a = sticks

    -- what `set` writes to
    pub targets : (b : Tree) (base : Base) (sc : Scope) (a : Around) →
        Beside (target_piece p differ b base sc a) (n.target_walk p found differ b base sc a)
    targets (tree i pl x) base sc a = target_shapes x base sc a

    pub target_shapes : (x : Shape) (base : Base) (sc : Scope) (a : Around) →
        Beside (target_shape p differ x base sc a) (n.target_shape p found differ x base sc a)
    target_shapes (t.Shape.name x) base sc a = bases p found differ base sc
    target_shapes (t.Shape.member b x) base sc a = trees b sc a
    target_shapes (t.Shape.index b ts) base sc a =
        both (targets b base sc a) (indices _ ts sc (up (raised (target_operands b) a)))
    target_shapes x base sc a = sticks

    -- the clauses of a `for`
    pub clauses_of : (ts : Trees) (sc : Scope) (a : Around) {body : Scope → Maker} {inside : Scope → Walk} →
        ((z : Scope) → Beside (body z) (inside z)) → Beside (levels p differ ts sc a body)
        (n.levels p found differ ts sc a inside)
    clauses_of no_trees sc a h = h sc
    clauses_of (more_trees b ts) sc a h =
        clauses p found differ (statement_of b) _ _ sc (trees b sc a) (inners b sc a)
        (λ z. clauses_of ts z a h)

    -- the arms of a `case`
    pub arms_of : (ts : Trees) (k : ℕ) (sc : Scope) (a : Around) → Beside (arms p differ ts k sc a)
        (n.arms p found differ ts k sc a)
    arms_of no_trees k sc a = sticks
    arms_of (more_trees (tree i pl x) ts) k sc a = arm_shapes x ts k sc a (arms_of ts k sc a)

    pub arm_shapes : (x : Shape) (ts : Trees) (k : ℕ) (sc : Scope) (a : Around) {rest : Maker} {others : Walk} →
        Beside rest others →
        Beside (arm_shape p differ x ts k sc a rest) (n.arm_shape p found differ x ts k sc a others)
    arm_shapes (t.Shape.arm b c) ts k sc a h = arm_of p found differ b k (none_left ts) (trees c sc a) h
    arm_shapes x ts k sc a h = sticks

    -- the arms of a group
    pub tasks : (ts : Trees) (sc : Scope) → Beside (task_arms p differ ts sc) (n.task_arms p found differ ts sc)
    tasks no_trees sc = none
    tasks (more_trees b ts) sc = each (counted.arms o.ArmEnd _ (trees b sc fresh)) (tasks ts sc)

    -- the call that a `spawn` starts
    pub spawns : (b : Tree) (sc : Scope) (a : Around) → Beside (spawned p differ b sc a)
        (n.spawned p found differ b sc a)
    spawns (tree i pl x) sc a = spawned_shapes x pl sc a

    pub spawned_shapes : (x : Shape) (pl : Place) (sc : Scope) (a : Around) →
        Beside (spawned_shape p differ x pl sc a) (n.spawned_shape p found differ x pl sc a)
    spawned_shapes (t.Shape.call b ts) pl sc a =
        callees (spawned_callee (callee_of p b (form.picking None) pl))
        (λ f. both (starts f sc) (both (operands ts sc (started f a)) (finishes f (how_many ts) _)))
        (λ f. both (inners b sc a) (both (operands ts sc (up a)) (finishes f (how_many ts) _)))
        (λ f. sticks)
        (λ f. sticks)
    spawned_shapes x pl sc a = sticks
