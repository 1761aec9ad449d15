-- In the code of a fine tree each arm stands behind its group: one clause a form.
use Rattle.std.proofs.Common.{◌≡◌, ℕ, suc, ◌∷◌, ◌++◌, length, Bool, true, false}
use Rattle.std.proofs.Common.{None, refl}
use Rattle.std.proofs.lemmas.Option.{none-some}
use Rattle.verse_base.specs.declared.places.Place.{Place}
use Rattle.verse_tree.specs.Tree.{Bytes, Written, Tree, tree, Shape, Trees, no_trees, more_trees, Holes, no_holes}
use Rattle.verse_tree.specs.Tree.{more_holes, Givens, no_givens}
use Rattle.verse_tree.specs.Tree.{more_givens}
use Rattle.verse_tree.specs.Tree as t
use Rattle.verse_tree.specs.PostOrder.{post_order, parts, trees_order, holes_order, pairs_order, givens_order}
use Rattle.verse_tree.specs.PostOrder.{written_order}
use Rattle.verse_tree.specs.declared.exprs.Operator.TheVariants as op
use Rattle.verse_code.specs.declared.operations.Op.TheVariants as o
use Rattle.verse_names_tables.specs.Names.{Table}
use Rattle.verse_sorts.specs.Sorts as s
use Rattle.verse_sorts.specs.Sorts.{Sort, Fits}
use Rattle.verse_meaning.specs.Programs.{Program, ref_at}
use Rattle.verse_meaning.specs.Residuals as form
use Rattle.verse_meaning.specs.Residuals.{Form, Base, a_constant, a_variable}
use Rattle.verse_meaning.specs.Evaluating.{Statement, statement_of, statement_of_shape, callee_of, spawned_callee}
use Rattle.verse_meaning.specs.Evaluating.{picked}
use Rattle.verse_meaning.specs.Evaluating as statement
use Rattle.verse_meaning.specs.Evaluating.{enum_member, class_ref, base_of, number_of, none_left}
use Rattle.verse_sound_rules.specs.Found.{Found, Allowed, tried, armed, deferred}
use Rattle.verse_sound_rules.specs.Found as rules
use Rattle.verse_sound_rules.specs.Fine.{Fine, FineShape, FineAll, FineClauses, FineInner, FineInnerOf, FineObject}
use Rattle.verse_sound_rules.specs.Fine.{FineTrees, FineHoles, FinePairs}
use Rattle.verse_sound_rules.specs.Fine.{FineGivens, FineEach, FineArms, FineArm, FineQuotient}
use Rattle.verse_sound_rules.specs.Fine.{FineTarget, FineSpawned}
use Rattle.verse_sound_rules.specs.Fine.{sort_at, inner_sort, inner_sort_of, seen_behind}
use Rattle.verse_sound_rules.specs.Fine.{seen_after}
use Rattle.verse_sound_rules.specs.Fine.{on_statement, Defines, Generates}
use Rattle.verse_sound_rules.specs.Programs.{FineFound}
use Rattle.lower_code.specs.declared.arounds.Around.{Around}
use Rattle.lower_code.specs.Pieces.{Maker}
use Rattle.lower_code.specs.Scopes.{Scope, hidden, this_found}
use Rattle.lower_code.specs.Arounds.{fresh, up, raised, looped, enclosed}
use Rattle.lower_code.specs.Applied.{started}
use Rattle.lower_code.specs.Lowering.{how_many, is_text, one_if, joined_parts, pairs_in, text_if, target_operands}
use Rattle.lower_code.specs.Lowering.{scope_behind, scope_stated, around_stated, any_defer}
use Rattle.lower_code.specs.Lowering.{stated, has_base, piece, shape_piece, statements, more_statements}
use Rattle.lower_code.specs.Lowering.{inner, inner_shape}
use Rattle.lower_code.specs.Lowering.{args, holed, paired_args, given_args, quotient, target_piece}
use Rattle.lower_code.specs.Lowering.{levels, arms, arm_tree}
use Rattle.lower_code.specs.Lowering.{task_arms, arm_spots, spawned}
use Rattle.lower_bounds.proofs.Lists.{Each, each_first, each_rest, node, own, inside}
use Rattle.lower_bounds.proofs.Arms.{arms_many}
use Rattle.lower_simulation_runs.specs.Programs.{NodeStands, ArmsStand, ArmTreeStands}
use Rattle.lower_sound.proofs.Armed.{Orderly, both, none, just, at_place, numbered, text, away, if_so, is_so, before}
use Rattle.lower_sound.proofs.Armed.{one_of, loops, Several, no_stretch, beside, groups}
use Rattle.lower_sound.proofs.Names.{Sees, sees_hidden, sees_stated}
use Rattle.lower_sound.proofs.Counts.{gives_told, callee_is, spawned_is}
use Rattle.lower_sound.proofs.Leaves.{Leaves, leaves_up, leaves_raised, leaves_started, returns, breaks, compares}
use Rattle.lower_sound.proofs.Leaves.{adds, stores, starts}
use Rattle.lower_sound.proofs.Leaves.{member_finish, reads_this, reads_name, base_reads, target_there, alone_finish}
use Rattle.lower_sound.proofs.Leaves.{object_finish}
use Rattle.lower_sound.proofs.Leaves.{index_finish, pick_finish, quotient_finish, by_kind, by_member, binds, states}
use Rattle.lower_sound.proofs.Leaves.{clauses_one, last_arm}
use Rattle.lower_sound.proofs.Leaves.{one_arm, makes}

-- neither `break` nor `return` leaves these
leaves_tried : (a : Allowed) (z : Around) → Leaves (tried a) z
leaves_tried a z = record { returns = λ r e. elim (none-some r e) [ ]; breaks = λ e. absurd (cc) }

leaves_armed : (a : Allowed) (z : Around) → Leaves (armed a) z
leaves_armed a z = record { returns = λ r e. elim (none-some r e) [ ]; breaks = λ e. absurd (cc) }

leaves_deferred : (a : Allowed) (z : Around) → Leaves (deferred a) z
leaves_deferred a z = record { returns = λ r e. elim (none-some r e) [ ]; breaks = λ e. absurd (cc) }

leaves_looped : {a : Allowed} {z : Around} (c : Bool) → Leaves a z → Leaves (rules.looped c a) (looped z)
leaves_looped c l = record { returns = λ r e. l.returns r e; breaks = λ e. refl }

module _ (p : Program) (differ : ℕ → ℕ → Bool) (f : Found) (known : FineFound p f) where
  abbrev pub AllStand : Tree → Type 0
  AllStand b = Each (NodeStands p) (post_order b)

  abbrev pub AllOf : Trees → Type 0
  AllOf ts = Each (NodeStands p) (trees_order ts)

  first_tree : (b : Tree) (ts : Trees) → AllOf (more_trees b ts) → AllStand b
  first_tree b ts u = each_first (NodeStands p) (post_order b) (trees_order ts) u

  rest_trees : (b : Tree) (ts : Trees) → AllOf (more_trees b ts) → AllOf ts
  rest_trees b ts u = each_rest (NodeStands p) (post_order b) (trees_order ts) u

  left : (b c : Tree) → Each (NodeStands p) (post_order b ++ post_order c) → AllStand b
  left b c u = each_first (NodeStands p) (post_order b) (post_order c) u

  right : (b c : Tree) → Each (NodeStands p) (post_order b ++ post_order c) → AllStand c
  right b c u = each_rest (NodeStands p) (post_order b) (post_order c) u

  conditions : (ts : Trees) (b : Tree) → Each (NodeStands p) (trees_order ts ++ post_order b) → AllOf ts
  conditions ts b u = each_first (NodeStands p) (trees_order ts) (post_order b) u

  behind_all : (ts : Trees) (b : Tree) → Each (NodeStands p) (trees_order ts ++ post_order b) → AllStand b
  behind_all ts b u = each_rest (NodeStands p) (trees_order ts) (post_order b) u

  behind_type : (w : Written) (b : Tree) → Each (NodeStands p) (written_order w ++ post_order b) → AllStand b
  behind_type w b u = each_rest (NodeStands p) (written_order w) (post_order b) u

  leaves_stated : {a : Allowed} {z : Around} (x : Statement) → Leaves a z → Leaves a (around_stated p differ x z)
  leaves_stated statement.plain l = l
  leaves_stated (statement.defines y) l = l
  leaves_stated (statement.defers d) l = record { returns = λ r e. l.returns r e; breaks = λ e. l.breaks e }
  leaves_stated (statement.generates y) l = l

  seen_by : (a : Allowed) (xs : Table) (sc : Scope) (m : Bool) (b : Tree) (ts : Trees) → FineAll p f m a xs
      (more_trees b ts) →
      Sees f a.this xs sc → Sees f a.this (seen_behind b xs) (scope_stated (statement_of b) sc)
  seen_by a xs sc m b ts h g = sees_stated f p (Fine p f a xs b) (FineInner p f a xs b) (Fits f.up (inner_sort p f b)
      (sort_at p f b))
      ((m ≡ true) × FineInner p f (deferred a) xs b × Fits f.up s.unit (sort_at p f b)) (statement_of b)
      (number_of b) h.0 g

  seen_all : (a : Allowed) (xs : Table) (sc : Scope) (m : Bool) (ts : Trees) → FineAll p f m a xs ts →
      Sees f a.this xs sc →
      Sees f a.this (seen_after ts xs) (scope_behind ts sc)
  seen_all a xs sc m no_trees h g = g
  seen_all a xs sc m (more_trees b ts) h g =
      seen_all a (seen_behind b xs) (scope_stated (statement_of b) sc) m ts h.1 (seen_by a xs sc m b ts h g)

  each_trees : (a : Allowed) (xs : Table) (r : Sort) (ts : Trees) → FineEach p f a xs r ts → FineTrees p f a xs ts
  each_trees a xs r no_trees h = tt
  each_trees a xs r (more_trees b ts) h = (h.0, each_trees a xs r ts h.2)

  texts : (bs : Bytes) → Orderly (text_if bs)
  texts bs = if_so (is_text bs) (λ e. text bs)

  mutual
    pub orderly : (b : Tree) → AllStand b → (a : Allowed) (xs : Table) (sc : Scope) (z : Around) → Fine p f a xs b →
        Sees f a.this xs sc →
        Leaves a z → Orderly (piece p differ b sc z)
    orderly (tree n pl x) u a xs sc z h g l =
        shape_orderly x n pl (own (NodeStands p) n pl x u) (inside (NodeStands p) n pl x u) a xs sc z h g l

    shape_orderly : (x : Shape) (n : ℕ) (pl : Place) → NodeStands p (node n pl x) → Each (NodeStands p) (parts x) →
        (a : Allowed) (xs : Table)
        (sc : Scope) (z : Around) → FineShape p f a xs n pl x → Sees f a.this xs sc → Leaves a z → Orderly
        (shape_piece p differ x n pl sc z)
    -- blocks and statements
    shape_orderly (t.Shape.block ts) n pl v u a xs sc z h g l = all_orderly ts u true a xs sc z h.0 g l
    shape_orderly (t.Shape.definition y b) n pl v u a xs sc z h g l = both (orderly b u a xs sc z h.0 g l)
        (binds p differ f (a_constant y) _)
    shape_orderly (t.Shape.typed y w b) n pl v u a xs sc z h g l =
        both (orderly b (behind_type w b u) a xs sc z h.0 g l) (binds p differ f (a_constant y) _)
    shape_orderly (t.Shape.variable y w b) n pl v u a xs sc z h g l =
        both (orderly b (behind_type w b u) a xs sc z h.0 g l) (binds p differ f (a_variable y pl) _)
    shape_orderly (t.Shape.assignment y b c) n pl v u a xs sc z h g l =
        let place = gives_told p f a xs h.2 in
        both (target_orderly b (left b c u) (base_of p b) a xs sc z h.0.0 g l)
        (both (orderly c (right b c u) a xs sc (up (raised (target_operands b) z)) h.1 g
        (leaves_up (leaves_raised (target_operands b) l)))
        (is_so (has_base p differ b (base_of p b) sc) (target_there p differ f a xs sc g b h.0.0 place.2)
        (numbered pl _ (λ m. stores _ _ _ (just _ refl)))))
    shape_orderly (t.Shape.returned b) n pl v u a xs sc z h g l =
        let leave = gives_told p f a xs h.1 in both (orderly b u a xs sc z h.0 g l) (returns a z leave.0 l leave.1)
    shape_orderly t.Shape.returned_unit n pl v u a xs sc z h g l = both (just o.Unit refl) (returns a z h.0 l h.1)
    shape_orderly t.Shape.break_form n pl v u a xs sc z h g l = breaks a z l h
    -- failure contexts
    shape_orderly (t.Shape.if_else ts b c) n pl v u a xs sc z h g l =
        let w = each_first (NodeStands p) (trees_order ts ++ post_order b) (post_order c) u in
        one_of o.Try (λ m. refl)
        (both (all_orderly ts (conditions ts b w) false (tried a) xs sc (enclosed z) h.0 g
        (leaves_tried a _)) (both (just o.Drop refl) (both (just o.Commit refl)
        (orderly b (behind_all ts b w) a (seen_after ts xs) (scope_behind ts sc) z h.1
        (seen_all (tried a) xs sc false ts h.0 g) l))))
        (orderly c (each_rest (NodeStands p) (trees_order ts ++ post_order b) (post_order c) u) a xs sc z h.2 g l)
    shape_orderly (t.Shape.if_alone ts b) n pl v u a xs sc z h g l =
        one_of o.Try (λ m. refl)
        (both (all_orderly ts (conditions ts b u) false (tried a) xs sc (enclosed z) h.0 g
        (leaves_tried a _)) (both (just o.Drop refl) (both (just o.Commit refl)
        (orderly b (behind_all ts b u) a (seen_after ts xs) (scope_behind ts sc) z h.1
        (seen_all (tried a) xs sc false ts h.0 g) l))))
        (just o.Unit refl)
    shape_orderly (t.Shape.negation b) n pl v u a xs sc z h g l =
        both (before o.Try (λ m. refl) (both (orderly b u (tried a) xs sc (enclosed z) h.0 g (leaves_tried a _))
        (both (just o.Drop refl) (both (just o.Undo refl) (just o.Fail refl))))) (just o.Unit refl)
    shape_orderly (t.Shape.option ts) n pl v u a xs sc z h g l =
        one_of o.Try (λ m. refl) (both (all_orderly ts u false (tried a) xs sc (enclosed z) h.0 g (leaves_tried a _))
        (both (just o.Commit refl) (at_place pl o.Some (λ m. refl)))) (just o.False refl)
    shape_orderly (t.Shape.logic ts) n pl v u a xs sc z h g l =
        one_of o.Try (λ m. refl) (both (all_orderly ts u false (tried a) xs sc (enclosed z) h.0 g (leaves_tried a _))
        (both (just o.Drop refl) (both (just o.Commit refl) (just o.True refl)))) (just o.False refl)
    shape_orderly (t.Shape.chained op.Or b c) n pl v u a xs sc z h g l =
        one_of o.Try (λ m. refl) (both (orderly b (left b c u) (tried a) xs sc (enclosed z) h.0 g
        (leaves_tried a _)) (just o.Commit refl))
        (orderly c (right b c u) a xs sc z h.1 g l)
    shape_orderly (t.Shape.for_form ts b) n pl v u a xs sc z h g l =
        numbered pl _ (λ m. both (just (o.Array 0 m) refl) (both (away _) (both
        (before o.Try (λ m. refl) (levels_orderly ts (conditions ts b u) (tried a) xs (hidden ∷ sc)
        (enclosed z) h.0 (sees_hidden f g) (leaves_tried a _)
        (λ sc2 g2. both (just o.Commit refl) (both
        (orderly b (behind_all ts b u) a (seen_after ts xs) sc2 z h.1 g2 l)
        (just (o.Append _ m) refl))))) (just (o.Get _) refl))))
    -- operators
    shape_orderly (t.Shape.chained op.Div b c) n pl v u a xs sc z h g l = elim h [ ]
    shape_orderly (t.Shape.chained op.And b c) n pl v u a xs sc z h g l =
        both (orderly b (left b c u) a xs sc z h.0 g l) (both (just o.Drop refl)
        (orderly c (right b c u) a xs sc z h.1 g l))
    shape_orderly (t.Shape.chained op.Add b c) n pl v u a xs sc z h g l =
        both (orderly b (left b c u) a xs sc z h.0 g l)
        (both (orderly c (right b c u) a xs sc (up z) h.1 g (leaves_up l))
        (adds pl (p.is_array n)))
    shape_orderly (t.Shape.chained op.Sub b c) n pl v u a xs sc z h g l =
        both (orderly b (left b c u) a xs sc z h.0 g l)
        (both (orderly c (right b c u) a xs sc (up z) h.1 g (leaves_up l))
        (at_place pl o.Sub (λ m. refl)))
    shape_orderly (t.Shape.chained op.Mul b c) n pl v u a xs sc z h g l =
        both (orderly b (left b c u) a xs sc z h.0 g l)
        (both (orderly c (right b c u) a xs sc (up z) h.1 g (leaves_up l))
        (at_place pl o.Mul (λ m. refl)))
    shape_orderly (t.Shape.compared y b c) n pl v u a xs sc z h g l =
        both (orderly b (left b c u) a xs sc z h.0 g l)
        (both (orderly c (right b c u) a xs sc (up z) h.1 g (leaves_up l)) (compares y))
    shape_orderly (t.Shape.minus b) n pl v u a xs sc z h g l = both (orderly b u a xs sc z h.0 g l) (at_place pl o.Neg
        (λ m. refl))
    shape_orderly (t.Shape.query b) n pl v u a xs sc z h g l = both (orderly b u a xs sc z h.0 g l) (just o.Query refl)
    -- members, calls, indices
    shape_orderly (t.Shape.member b y) n pl v u a xs sc z h g l =
        by_member p differ f (f.sort n) (enum_member p b y) h
        (λ k. both (orderly b u a xs sc z k.0 g l) (member_finish (ref_at p n) y true))
    shape_orderly (t.Shape.call b ts) n pl v u a xs sc z h g l =
        let first = first_tree b ts u in
        let rest = rest_trees b ts u in
        by_kind p differ f (picked ts) (callee_of p b (picked ts) pl) (callee_is p b (picked ts) pl) h
        (λ x i k. both (starts x sc) (both (args_orderly ts rest a xs sc (started x z) k.0 g (leaves_started x l))
        (alone_finish p differ f known a xs sc g ts (f.sort n) x i k.1)))
        (λ x i k. both (object_orderly b first a xs sc z k.0 g l) (both (args_orderly ts rest a xs sc
        (up z) k.1 g (leaves_up l))
        (object_finish p differ f x (how_many ts) i)))
        (λ x i k. both (orderly b first a xs sc z k.0 g l)
        (pick_finish p differ f x ts i))
        (λ x i k. both (quotient_orderly ts rest a xs sc z n x k g l) (quotient_finish p differ f x i))
    shape_orderly (t.Shape.index b ts) n pl v u a xs sc z h g l =
        let first = first_tree b ts u in
        let rest = rest_trees b ts u in
        by_kind p differ f form.indexing (callee_of p b form.indexing pl) (callee_is p b form.indexing pl) h
        (λ x i k. both (starts x sc) (both (args_orderly ts rest a xs sc (started x z) k.0 g (leaves_started x l))
        (alone_finish p differ f known a xs sc g ts (f.sort n) x i k.1)))
        (λ x i k. both (object_orderly b first a xs sc z k.0 g l) (both (args_orderly ts rest a xs sc
        (up z) k.1 g (leaves_up l))
        (object_finish p differ f x (how_many ts) i)))
        (λ x i k. both (orderly b first a xs sc z k.0.0 g l) (both (args_orderly ts rest a xs sc (up z) k.1 g
        (leaves_up l))
        (index_finish p differ f x (how_many ts) i)))
        (λ x i k. both (quotient_orderly ts rest a xs sc z n x k g l) (quotient_finish p differ f x i))
    -- literals and names
    shape_orderly (t.Shape.integer y) n pl v u a xs sc z h g l = just (o.Int y) refl
    shape_orderly (t.Shape.character y) n pl v u a xs sc z h g l = just (o.Char y) refl
    shape_orderly (t.Shape.text bs) n pl v u a xs sc z h g l = text bs
    shape_orderly (t.Shape.holes bs hs) n pl v u a xs sc z h g l =
        both (texts bs) (both (holes_orderly hs u a xs sc (raised (one_if (is_text bs) 0) z) h.0 g
        (leaves_raised (one_if (is_text bs) 0) l)) (at_place pl (o.Join (one_if (is_text bs) (joined_parts hs)))
        (λ m. refl)))
    shape_orderly t.Shape.truth n pl v u a xs sc z h g l = just o.True refl
    shape_orderly t.Shape.falsehood n pl v u a xs sc z h g l = just o.False refl
    shape_orderly t.Shape.this n pl v u a xs sc z h g l = reads_this (this_found sc) (g.own h.0 h.1)
    shape_orderly (t.Shape.name y) n pl v u a xs sc z h g l = reads_name p differ f a xs sc y (ref_at p n) h.0 h.1 g
    -- values that are made
    shape_orderly (t.Shape.tuple ts) n pl v u a xs sc z h g l = both (args_orderly ts u a xs sc z h.0 g l)
        (at_place pl (o.Tuple (how_many ts)) (λ m. refl))
    shape_orderly (t.Shape.array ts) n pl v u a xs sc z h g l = both (args_orderly ts u a xs sc z h.0 g l)
        (at_place pl (o.Array (how_many ts)) (λ m. refl))
    shape_orderly (t.Shape.mapping ps) n pl v u a xs sc z h g l = both (pairs_orderly ps u a xs sc z h.0.0 g l)
        (at_place pl (o.Map (pairs_in ps)) (λ m. refl))
    shape_orderly (t.Shape.instance y gs) n pl v u a xs sc z h g l =
        makes p differ f (class_ref p (ref_at p n)) h.0 pl gs (length sc) h.3.taken (f.slots h.0) h.1
        (gives_told p f a xs h.3)
        (givens_orderly gs u a xs sc z h.2 g l)
    shape_orderly (t.Shape.event w) n pl v u a xs sc z h g l = at_place pl o.Event (λ m. refl)
    shape_orderly t.Shape.bare_event n pl v u a xs sc z h g l = at_place pl o.Event (λ m. refl)
    -- loops and blocks
    shape_orderly (t.Shape.loop_form b) n pl v u a xs sc z h g l =
        loops (orderly b u (rules.looped h.0 a) xs sc (looped z) h.1 g (leaves_looped h.0 l))
    shape_orderly (t.Shape.block_form b) n pl v u a xs sc z h g l = orderly b u a xs sc z h.0 g l
    shape_orderly (t.Shape.cases b ts) n pl v u a xs sc z h g l =
        both (orderly b (first_tree b ts u) a xs sc z h.0 g l) (both (away _)
        (arms_orderly ts v (rest_trees b ts u) (length sc) a xs (hidden ∷ sc) z (sort_at p f b)
        (f.sort n) h.1 (sees_hidden f g) l))
    -- tasks
    shape_orderly (t.Shape.branch b) n pl v u a xs sc z h g l =
        before o.Branch (λ m. refl) (both (orderly b u (armed a) xs sc fresh h.1 g (leaves_armed a fresh))
        (just o.ArmEnd refl))
    shape_orderly (t.Shape.sync ts) n pl v u a xs sc z h g l =
        groups 0 (how_many ts) pl (arm_spots p differ ts sc) (task_arms p differ ts sc) (arms_many p differ ts sc)
        (tasks_orderly ts u a xs sc h.1 g)
    shape_orderly (t.Shape.race ts) n pl v u a xs sc z h g l =
        groups 1 (how_many ts) pl (arm_spots p differ ts sc) (task_arms p differ ts sc) (arms_many p differ ts sc)
        (tasks_orderly ts u a xs sc (each_trees (armed a) xs (f.sort n) ts h.1) g)
    shape_orderly (t.Shape.rush ts) n pl v u a xs sc z h g l =
        groups 2 (how_many ts) pl (arm_spots p differ ts sc) (task_arms p differ ts sc) (arms_many p differ ts sc)
        (tasks_orderly ts u a xs sc (each_trees (armed a) xs (f.sort n) ts h.1) g)
    shape_orderly (t.Shape.spawn b) n pl v u a xs sc z h g l = spawned_orderly b u a xs sc z n h g l
    shape_orderly (t.Shape.sleep d) n pl v u a xs sc z h g l = just (o.Sleep d) refl
    shape_orderly t.Shape.sleep_forever n pl v u a xs sc z h g l = just o.Forever refl
    shape_orderly x n pl v u a xs sc z h g l = elim h [ ]

    -- statements in turn
    all_orderly : (ts : Trees) → AllOf ts → (m : Bool) (a : Allowed) (xs : Table) (sc : Scope) (z : Around) →
        FineAll p f m a xs ts →
        Sees f a.this xs sc → Leaves a z → Orderly (statements p differ ts sc z)
    all_orderly no_trees u m a xs sc z h g l = just o.Unit refl
    all_orderly (more_trees b ts) u m a xs sc z h g l =
        both (stated_orderly b (first_tree b ts u) m a xs sc z h.0 g l)
        (both (more_orderly ts (rest_trees b ts u) m a (seen_behind b xs) (scope_stated (statement_of b) sc)
        (around_stated p differ (statement_of b) z) h.1 (seen_by a xs sc m b ts h g) (leaves_stated
        (statement_of b) l))
        (if_so (any_defer (more_trees b ts)) (λ e. just (o.Leave _) refl)))

    more_orderly : (ts : Trees) → AllOf ts → (m : Bool) (a : Allowed) (xs : Table) (sc : Scope) (z : Around) →
        FineAll p f m a xs ts →
        Sees f a.this xs sc → Leaves a z → Orderly (more_statements p differ ts sc z)
    more_orderly no_trees u m a xs sc z h g l = none
    more_orderly (more_trees b ts) u m a xs sc z h g l =
        both (just o.Drop refl) (both (stated_orderly b (first_tree b ts u) m a xs sc z h.0 g l)
        (more_orderly ts (rest_trees b ts u) m a (seen_behind b xs) (scope_stated (statement_of b) sc)
        (around_stated p differ (statement_of b) z) h.1 (seen_by a xs sc m b ts h g) (leaves_stated
        (statement_of b) l)))

    stated_orderly : (b : Tree) → AllStand b → (m : Bool) (a : Allowed) (xs : Table) (sc : Scope) (z : Around) →
        on_statement (statement_of b) (Fine p f a xs b)
        (λ y. FineInner p f a xs b × Fits f.up (inner_sort p f b) (sort_at p f b) × Defines p f y (number_of b) xs)
        (λ d. (m ≡ true) × FineInner p f (deferred a) xs b × Fits f.up s.unit (sort_at p f b)) (λ y. ⊥) →
        Sees f a.this xs sc → Leaves a z →
        Orderly (stated p differ (statement_of b) sc (piece p differ b sc z) (inner p differ b sc z))
    stated_orderly (tree n pl x) u m a xs sc z h g l = states p differ f (statement_of_shape x pl) sc
        (shape_piece p differ x n pl sc z)
        (inner_shape p differ x sc z)
        (statement_parts x n pl (inside (NodeStands p) n pl x u) m a xs sc z
        (λ k. shape_orderly x n pl (own (NodeStands p) n pl x u) (inside (NodeStands p) n pl x u) a xs sc z k g l) h g l)

    statement_parts : (x : Shape) (n : ℕ) (pl : Place) → Each (NodeStands p) (parts x) → (m : Bool) (a : Allowed)
        (xs : Table) (sc : Scope) (z : Around) → (FineShape p f a xs n pl x → Orderly
        (shape_piece p differ x n pl sc z)) →
        on_statement (statement_of_shape x pl) (FineShape p f a xs n pl x)
        (λ y. FineInnerOf p f a xs x × Fits f.up (inner_sort_of p f x) (f.sort n) × Defines p f y n xs)
        (λ d. (m ≡ true) × FineInnerOf p f (deferred a) xs x × Fits f.up s.unit (f.sort n)) (λ y. ⊥) →
        Sees f a.this xs sc → Leaves a z →
        on_statement (statement_of_shape x pl) (Orderly (shape_piece p differ x n pl sc z)) (λ y. Orderly
        (inner_shape p differ x sc z))
        (λ d. Orderly (inner_shape p differ x sc z)) (λ y. ⊥)
    statement_parts (t.Shape.definition y b) n pl u m a xs sc z k h g l = orderly b u a xs sc z h.0 g l
    statement_parts (t.Shape.typed y w b) n pl u m a xs sc z k h g l =
        orderly b (behind_type w b u) a xs sc z h.0 g l
    statement_parts (t.Shape.variable y w b) n pl u m a xs sc z k h g l =
        orderly b (behind_type w b u) a xs sc z h.0 g l
    statement_parts (t.Shape.defer b) n pl u m a xs sc z k h g l =
        orderly b u (deferred a) xs sc (enclosed z) h.1 g (leaves_deferred a _)
    statement_parts (t.Shape.elements y b) n pl u m a xs sc z k h g l = h
    statement_parts (t.Shape.entries i y b) n pl u m a xs sc z k h g l = h
    statement_parts (t.Shape.range y b c) n pl u m a xs sc z k h g l = h
    statement_parts x n pl u m a xs sc z k h g l = k h

    -- the clauses of a `for`
    levels_orderly : (ts : Trees) → AllOf ts → (a : Allowed) (xs : Table) (sc : Scope) (z : Around) →
        FineClauses p f a xs ts →
        Sees f a.this xs sc → Leaves a z → {body : Scope → Maker} →
        ((sc : Scope) → Sees f a.this (seen_after ts xs) sc → Orderly (body sc)) → Orderly
        (levels p differ ts sc z body)
    levels_orderly no_trees u a xs sc z h g l k = k sc g
    levels_orderly (more_trees (tree n pl x) ts) u a xs sc z h g l k =
        let w = first_tree (tree n pl x) ts u in
        clauses_one p differ f (statement_of_shape x pl) n sc (shape_piece p differ x n pl sc z)
        (inner_shape p differ x sc z) g
        (clause_parts x n pl (inside (NodeStands p) n pl x w) a xs sc z
        (λ i. shape_orderly x n pl (own (NodeStands p) n pl x w) (inside (NodeStands p) n pl x w) a xs sc z i g l) h.0 g l)
        (λ sc2 g2. levels_orderly ts (rest_trees (tree n pl x) ts u) a (seen_behind (tree n pl x) xs) sc2 z h.1 g2 l k)

    clause_parts : (x : Shape) (n : ℕ) (pl : Place) → Each (NodeStands p) (parts x) → (a : Allowed)
        (xs : Table) (sc : Scope) (z : Around) → (FineShape p f a xs n pl x → Orderly
        (shape_piece p differ x n pl sc z)) →
        on_statement (statement_of_shape x pl) (FineShape p f a xs n pl x)
        (λ y. FineInnerOf p f a xs x × Fits f.up (inner_sort_of p f x) (f.sort n) × Defines p f y n xs) (λ d. ⊥)
        (λ y. FineInnerOf p f a xs x × Generates p f n xs (inner_sort_of p f x) y) → Sees f a.this xs sc → Leaves a z →
        on_statement (statement_of_shape x pl) (Orderly (shape_piece p differ x n pl sc z))
        (λ y. Orderly (inner_shape p differ x sc z) × Defines p f y n xs) (λ d. ⊥)
        (λ y. (q : Sort) × Orderly (inner_shape p differ x sc z) × Generates p f n xs q y)
    clause_parts (t.Shape.definition y b) n pl u a xs sc z k h g l = (orderly b u a xs sc z h.0 g l, h.2)
    clause_parts (t.Shape.typed y w b) n pl u a xs sc z k h g l =
        (orderly b (behind_type w b u) a xs sc z h.0 g l, h.2)
    clause_parts (t.Shape.variable y w b) n pl u a xs sc z k h g l =
        (orderly b (behind_type w b u) a xs sc z h.0 g l, h.2)
    clause_parts (t.Shape.defer b) n pl u a xs sc z k h g l = h
    clause_parts (t.Shape.elements y b) n pl u a xs sc z k h g l = (_, orderly b u a xs sc z h.0 g l, h.1)
    clause_parts (t.Shape.entries i y b) n pl u a xs sc z k h g l = (_, orderly b u a xs sc z h.0 g l, h.1)
    clause_parts (t.Shape.range y b c) n pl u a xs sc z k h g l = (
      _,
      both (orderly b (left b c u) a xs sc z h.0.0 g l)
          (orderly c (right b c u) a xs sc (up z) h.0.1 g (leaves_up l)),
      h.1,
    )
    clause_parts x n pl u a xs sc z k h g l = k h

    -- the object of a member
    object_orderly : (b : Tree) → AllStand b → (a : Allowed) (xs : Table) (sc : Scope) (z : Around) →
        FineObject p f a xs b →
        Sees f a.this xs sc → Leaves a z → Orderly (inner p differ b sc z)
    object_orderly (tree n pl (t.Shape.member b y)) u a xs sc z h g l =
        orderly b (inside (NodeStands p) n pl (t.Shape.member b y) u) a xs sc z h g l
    object_orderly (tree n pl x) u a xs sc z h g l = elim h [ ]

    -- operands
    args_orderly : (ts : Trees) → AllOf ts → (a : Allowed) (xs : Table) (sc : Scope) (z : Around) →
        FineTrees p f a xs ts →
        Sees f a.this xs sc → Leaves a z → Orderly (args p differ ts sc z)
    args_orderly no_trees u a xs sc z h g l = none
    args_orderly (more_trees b ts) u a xs sc z h g l =
        both (orderly b (first_tree b ts u) a xs sc z h.0 g l) (args_orderly ts (rest_trees b ts u) a xs sc
        (up z) h.1 g (leaves_up l))

    holes_orderly : (hs : Holes) → Each (NodeStands p) (holes_order hs) → (a : Allowed) (xs : Table) (sc : Scope)
        (z : Around) →
        FineHoles p f a xs hs → Sees f a.this xs sc → Leaves a z → Orderly (holed p differ hs sc z)
    holes_orderly no_holes u a xs sc z h g l = none
    holes_orderly (more_holes b bs hs) u a xs sc z h g l =
        both (orderly b (each_first (NodeStands p) (post_order b) (holes_order hs) u) a xs sc z h.0 g l) (both (texts bs)
        (holes_orderly hs (each_rest (NodeStands p) (post_order b) (holes_order hs) u) a xs sc (raised (suc (one_if
        (is_text bs) 0)) z) h.1 g
        (leaves_raised (suc (one_if (is_text bs) 0)) l)))

    pairs_orderly : (ps : t.Pairs) → Each (NodeStands p) (pairs_order ps) → (a : Allowed) (xs : Table) (sc : Scope)
        (z : Around) →
        FinePairs p f a xs ps → Sees f a.this xs sc → Leaves a z → Orderly (paired_args p differ ps sc z)
    pairs_orderly t.Pairs.no_pairs u a xs sc z h g l = none
    pairs_orderly (t.Pairs.more_pairs b c ps) u a xs sc z h g l =
        let w = each_first (NodeStands p) (post_order b ++ post_order c) (pairs_order ps) u in
        both (orderly b (left b c w) a xs sc z h.0 g l)
        (both (orderly c (right b c w) a xs sc (up z) h.1 g (leaves_up l))
        (pairs_orderly ps (each_rest (NodeStands p) (post_order b ++ post_order c) (pairs_order ps) u) a xs sc (up
        (up z)) h.2 g
        (leaves_up (leaves_up l))))

    givens_orderly : (gs : Givens) → Each (NodeStands p) (givens_order gs) → (a : Allowed) (xs : Table) (sc : Scope)
        (z : Around) →
        FineGivens p f a xs gs → Sees f a.this xs sc → Leaves a z → Orderly (given_args p differ gs sc z)
    givens_orderly no_givens u a xs sc z h g l = none
    givens_orderly (more_givens y b gs) u a xs sc z h g l =
        both (orderly b (each_first (NodeStands p) (post_order b) (givens_order gs) u) a xs sc z h.0 g l) (both (away _)
        (givens_orderly gs (each_rest (NodeStands p) (post_order b) (givens_order gs) u) a xs (hidden ∷ sc) z h.1
        (sees_hidden f g) l))

    -- the quotient that Floor and Ceil take
    quotient_orderly : (ts : Trees) → AllOf ts → (a : Allowed) (xs : Table) (sc : Scope) (z : Around) (n : ℕ)
        (x : Form) →
        FineQuotient p f a xs n x ts → Sees f a.this xs sc → Leaves a z → Orderly (quotient p differ ts sc z)
    quotient_orderly no_trees u a xs sc z n x h g l = elim h [ ]
    quotient_orderly (more_trees (tree m q (t.Shape.chained y b c)) ts) u a xs sc z n x h g l =
        let w = inside (NodeStands p) m q (t.Shape.chained y b c) (first_tree (tree m q (t.Shape.chained y b c)) ts u) in
        both (orderly b (left b c w) a xs sc z h.0 g l)
        (orderly c (right b c w) a xs sc (up z) h.1 g (leaves_up l))
    quotient_orderly (more_trees (tree m q y) ts) u a xs sc z n x h g l = elim h [ ]

    -- the cell and the indices of what `set` writes to
    target_orderly : (b : Tree) → AllStand b → (base : Base) (a : Allowed) (xs : Table) (sc : Scope) (z : Around) →
        FineTarget p f a xs b →
        Sees f a.this xs sc → Leaves a z → Orderly (target_piece p differ b base sc z)
    target_orderly (tree n pl (t.Shape.name y)) u base a xs sc z h g l = base_reads p differ f base sc
    target_orderly (tree n pl (t.Shape.member b y)) u base a xs sc z h g l =
        orderly b (inside (NodeStands p) n pl (t.Shape.member b y) u) a xs sc z h g l
    target_orderly (tree n pl (t.Shape.index b ts)) u base a xs sc z h g l =
        let w = inside (NodeStands p) n pl (t.Shape.index b ts) u in
        both (target_orderly b (first_tree b ts w) base a xs sc z h.0 g l)
        (args_orderly ts (rest_trees b ts w) a xs sc (up (raised (target_operands b) z)) h.1 g
        (leaves_up (leaves_raised (target_operands b) l)))
    target_orderly (tree n pl x) u base a xs sc z h g l = elim h [ ]

    -- the arms of a `case`, one or more
    arms_orderly : (ts : Trees) → ArmsStand p ts → AllOf ts → (k : ℕ) (a : Allowed) (xs : Table) (sc : Scope)
        (z : Around) (q r : Sort) →
        FineArms p f a xs q r ts → Sees f a.this xs sc → Leaves a z → Orderly (arms p differ ts k sc z)
    arms_orderly no_trees v u k a xs sc z q r h g l = elim h [ ]
    arms_orderly (more_trees b no_trees) v u k a xs sc z q r h g l =
        arm_orderly b no_trees v.0 (first_tree b no_trees u) k a xs sc z q r (arms p differ no_trees k sc z) h.0 g l
        (λ e. absurd (cc))
    arms_orderly (more_trees b (more_trees c ts)) v u k a xs sc z q r h g l =
        arm_orderly b (more_trees c ts) v.0 (first_tree b (more_trees c ts) u) k a xs sc z q r (arms p differ
        (more_trees c ts) k sc z) h.0 g l
        (λ e. arms_orderly (more_trees c ts) v.1 (rest_trees b (more_trees c ts) u) k a xs sc z q r h.1 g l)

    arm_orderly : (b : Tree) (ts : Trees) → ArmTreeStands p b (none_left ts) → AllStand b → (k : ℕ) (a : Allowed)
        (xs : Table) (sc : Scope)
        (z : Around) (q r : Sort) (rest : Maker) → FineArm p f a xs q r b → Sees f a.this xs sc → Leaves a z →
        (none_left ts ≡ false → Orderly rest) → Orderly (arm_tree p differ b ts k sc z rest)
    arm_orderly (tree n pl (t.Shape.arm b c)) no_trees v u k a xs sc z q r rest h g l y =
        let w = inside (NodeStands p) n pl (t.Shape.arm b c) u in
        last_arm p differ f b k (piece p differ c sc z) rest
        (orderly c (right b c w) a xs sc z h.0 g l)
    arm_orderly (tree n pl (t.Shape.arm b c)) (more_trees d ts) v u k a xs sc z q r rest h g l y =
        let w = inside (NodeStands p) n pl (t.Shape.arm b c) u in
        one_arm p differ f b k (v refl) (orderly c (right b c w) a xs sc z h.0 g l) (y refl)
    arm_orderly (tree n pl x) ts v u k a xs sc z q r rest h g l y = elim h [ ]

    -- the arms of a group
    tasks_orderly : (ts : Trees) → AllOf ts → (a : Allowed) (xs : Table) (sc : Scope) → FineTrees p f (armed a) xs ts →
        Sees f a.this xs sc → Several (task_arms p differ ts sc) (arm_spots p differ ts sc)
    tasks_orderly no_trees u a xs sc h g = no_stretch
    tasks_orderly (more_trees b ts) u a xs sc h g =
        beside (both (orderly b (first_tree b ts u) (armed a) xs sc fresh h.0 g (leaves_armed a fresh))
        (just o.ArmEnd refl))
        (tasks_orderly ts (rest_trees b ts u) a xs sc h.1 g)

    -- the call that a `spawn` starts
    spawned_orderly : (b : Tree) → AllStand b → (a : Allowed) (xs : Table) (sc : Scope) (z : Around) (n : ℕ) →
        FineSpawned p f a xs n b →
        Sees f a.this xs sc → Leaves a z → Orderly (spawned p differ b sc z)
    spawned_orderly (tree m pl (t.Shape.call b ts)) u a xs sc z n h g l =
        let w = inside (NodeStands p) m pl (t.Shape.call b ts) u in
        let rest = rest_trees b ts w in
        let none = form.picking None in
        by_kind p differ f none (spawned_callee (callee_of p b none pl)) (spawned_is none (callee_of p b none pl)
        (callee_is p b none pl)) h
        (λ x i k. both (starts x sc) (both (args_orderly ts rest a xs sc (started x z) k.0 g (leaves_started x l))
        (alone_finish p differ f known a xs sc g ts (f.sort n) x i k.1)))
        (λ x i k. both (object_orderly b (first_tree b ts w) a xs sc z k.0 g l)
        (both (args_orderly ts rest a xs sc (up z) k.1 g (leaves_up l))
        (object_finish p differ f x (how_many ts) i)))
        (λ x i k. elim k [ ])
        (λ x i k. elim k [ ])
    spawned_orderly (tree m pl x) u a xs sc z n h g l = elim h [ ]
