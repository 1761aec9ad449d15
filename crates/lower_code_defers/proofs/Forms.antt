-- The code of a fine tree has a Defer and a DeferEnd for each `defer` in it, and its blocks are
-- left: one clause a form.
use Rattle.std.proofs.Common.{◌≡◌, ℕ, suc, ◌+◌, ◌≤◌, [], ◌∷◌, ◌++◌, length, Bool, true, false, refl, sym}
use Rattle.std.proofs.Common.{arith, None, subst}
use Rattle.verse_base.specs.declared.places.Place.{Place}
use Rattle.verse_tree.specs.Tree.{Bytes, Written, Tree, tree, Shape, Trees, no_trees, more_trees, Holes, no_holes}
use Rattle.verse_tree.specs.Tree.{more_holes, Givens, no_givens, more_givens}
use Rattle.verse_tree.specs.Tree as t
use Rattle.verse_tree.specs.PostOrder.{post_order, parts, trees_order, holes_order, pairs_order, givens_order}
use Rattle.verse_tree.specs.PostOrder.{written_order}
use Rattle.verse_tree.specs.declared.exprs.Operator.TheVariants as op
use Rattle.verse_code.specs.declared.operations.Op.TheVariants as o
use Rattle.verse_names_tables.specs.Names.{Table}
use Rattle.verse_sorts.specs.Sorts as s
use Rattle.verse_sorts.specs.Sorts.{Sort, Fits}
use Rattle.verse_meaning.specs.Programs.{Program, ref_at}
use Rattle.verse_meaning.specs.Residuals as form
use Rattle.verse_meaning.specs.Residuals.{Form, Base, a_constant, a_variable}
use Rattle.verse_meaning.specs.Evaluating.{Callee, alone, of_object, of_value, of_quotient, no_callee}
use Rattle.verse_meaning.specs.Evaluating.{statement_of, statement_of_shape, callee_of}
use Rattle.verse_meaning.specs.Evaluating.{spawned_callee, picked, member_form}
use Rattle.verse_meaning.specs.Evaluating.{enum_member, class_ref, base_of, mode_of, number_of, none_left}
use Rattle.verse_sound_rules.specs.Found.{Found, Allowed, tried, armed, deferred}
use Rattle.verse_sound_rules.specs.Found as rules
use Rattle.verse_sound_rules.specs.Fine.{Fine, FineShape, FineAll, FineClauses, FineInner, FineInnerOf, FineObject}
use Rattle.verse_sound_rules.specs.Fine.{FineTrees, FineHoles, FinePairs, FineGivens, FineEach, FineArms, FineArm}
use Rattle.verse_sound_rules.specs.Fine.{FineQuotient, FineTarget, FineSpawned, sort_at, inner_sort, inner_sort_of}
use Rattle.verse_sound_rules.specs.Fine.{seen_behind, seen_after, on_statement, Defines, Generates, IsEnumValue}
use Rattle.lower_code.specs.declared.arounds.Around.{Around}
use Rattle.lower_code.specs.Pieces.{Maker, ◌then◌}
use Rattle.lower_code.specs.Scopes.{Scope, hidden}
use Rattle.lower_code.specs.Arounds.{fresh, up, raised, looped, enclosed}
use Rattle.lower_code.specs.Applied.{started}
use Rattle.lower_code.specs.Lowering.{how_many, is_text, one_if, joined_parts, pairs_in, text_if, target_operands}
use Rattle.lower_code.specs.Lowering.{scope_behind, scope_stated, around_stated, any_defer, stated, has_base, piece}
use Rattle.lower_code.specs.Lowering.{shape_piece, statements, more_statements, inner, inner_shape, args, holed}
use Rattle.lower_code.specs.Lowering.{paired_args}
use Rattle.lower_code.specs.Lowering.{given_args, quotient, target_piece, levels, arms, arm_tree, task_arms}
use Rattle.lower_code.specs.Lowering.{arm_spots}
use Rattle.lower_code.specs.Lowering.{spawned}
use Rattle.lower_bounds.proofs.Lists.{Each, each_first, each_rest, node, own, inside}
use Rattle.lower_bounds.proofs.Statements.{callee_fits, spawned_callee_fits, member_form_fits, picked_fits}
use Rattle.lower_code_defers.specs.Counts.{defers_shape, defers_in}
use Rattle.lower_code_defers.specs.Programs.{NodeShows, left_called, left_indexed, behind_first}
use Rattle.lower_code_defers.proofs.Counted.{Counts, Has, same, so, both, then_other, other_then, none, just}
use Rattle.lower_code_defers.proofs.Counted.{at_place}
use Rattle.lower_code_defers.proofs.Counted.{text, away, if_so, only, leave_if, numbered, before, one_of, loops}
use Rattle.lower_code_defers.proofs.Counted.{groups}
use Rattle.lower_code_defers.proofs.Nodes.{count, many, joined, all_of, of_parts, typed_part, insides, none_defers}
use Rattle.lower_code_defers.proofs.Nodes as nodes
use Rattle.lower_code_defers.proofs.Others.{quiet, finishes_alone, finishes_so, starts, reads_name}
use Rattle.lower_code_defers.proofs.Others.{reads_this}
use Rattle.lower_code_defers.proofs.Others.{base_reads, stores, else_stuck, returns, breaks, binds}
use Rattle.lower_code_defers.proofs.Leaves.{callee_none, spawned_none, spawned_left, by_kind, by_member, states}
use Rattle.lower_code_defers.proofs.Leaves.{clauses_one, last_arm, one_arm, makes}

-- where a block has a Leave, and where it needs none
enough : (d : Bool) (n i j : ℕ) → (d ≡ false → n ≤ i + j) → n ≤ i + (j + only d n)
enough true n i j h = omega arith
enough false n i j h = omega (arith, h refl)

-- in round brackets, by what is left out in square ones
left_so : (k : Callee) (ts : Trees) → defers_in (left_called k ts) ≡ 0 → defers_in (left_indexed k ts) ≡ 0
left_so (alone x) ts h = refl
left_so (of_object x) ts h = refl
left_so (of_value x) ts h = refl
left_so (of_quotient x) ts h = h
left_so no_callee ts h = refl

module _ (p : Program) (differ : ℕ → ℕ → Bool) (f : Found) where
  abbrev pub AllShow : Tree → Type 0
  AllShow b = Each (NodeShows p) (post_order b)

  abbrev pub AllOf : Trees → Type 0
  AllOf ts = Each (NodeShows p) (trees_order ts)

  first_tree : (b : Tree) (ts : Trees) → AllOf (more_trees b ts) → AllShow b
  first_tree b ts u = each_first (NodeShows p) (post_order b) (trees_order ts) u

  rest_trees : (b : Tree) (ts : Trees) → AllOf (more_trees b ts) → AllOf ts
  rest_trees b ts u = each_rest (NodeShows p) (post_order b) (trees_order ts) u

  left : (b c : Tree) → Each (NodeShows p) (post_order b ++ post_order c) → AllShow b
  left b c u = each_first (NodeShows p) (post_order b) (post_order c) u

  right : (b c : Tree) → Each (NodeShows p) (post_order b ++ post_order c) → AllShow c
  right b c u = each_rest (NodeShows p) (post_order b) (post_order c) u

  conditions : (ts : Trees) (b : Tree) → Each (NodeShows p) (trees_order ts ++ post_order b) → AllOf ts
  conditions ts b u = each_first (NodeShows p) (trees_order ts) (post_order b) u

  behind_all : (ts : Trees) (b : Tree) → Each (NodeShows p) (trees_order ts ++ post_order b) → AllShow b
  behind_all ts b u = each_rest (NodeShows p) (trees_order ts) (post_order b) u

  behind_type : (w : Written) (b : Tree) → Each (NodeShows p) (written_order w ++ post_order b) → AllShow b
  behind_type w b u = each_rest (NodeShows p) (written_order w) (post_order b) u

  each_trees : (a : Allowed) (xs : Table) (r : Sort) (ts : Trees) → FineEach p f a xs r ts → FineTrees p f a xs ts
  each_trees a xs r no_trees h = tt
  each_trees a xs r (more_trees b ts) h = (h.0, each_trees a xs r ts h.2)

  texts : (bs : Bytes) → Has (text_if bs) 0
  texts bs = if_so (is_text bs) (λ e. text bs)

  -- two parts, one behind the other
  pair : {g h : Maker} (b c : Tree) → Has g (count b) → Has h (count c) →
      Has (g then h) (defers_in (post_order b ++ post_order c))
  pair b c x y = so (sym (joined (post_order b) (post_order c))) (both x y)

  -- a fine form is no `defer`
  fine_is : (a : Allowed) (xs : Table) (n : ℕ) (pl : Place) (x : Shape) → FineShape p f a xs n pl x → defers_shape x ≡ 0
  fine_is a xs n pl (t.Shape.defer b) h = elim h [ ]
  fine_is a xs n pl x h = refl

  -- the code of the parts of a form that is no `defer`, as that of the form
  form_counts : {g : Maker} (n : ℕ) (pl : Place) (x : Shape) → defers_shape x ≡ 0 → Has g (defers_in (parts x)) →
      Has g (count (tree n pl x))
  form_counts n pl x e h = so (of_parts n pl x e) h

  statement_counts : {g : Maker} (n : ℕ) (pl : Place) (x : Shape) → defers_shape x ≡ 0 → Has g (defers_in (parts x)) →
      Counts g (count (tree n pl x)) (defers_in (parts x))
  statement_counts n pl x e h = same (of_parts n pl x e) (omega arith) h

  mutual
    pub counts : (b : Tree) → AllShow b → (a : Allowed) (xs : Table) (sc : Scope) (z : Around) → Fine p f a xs b →
        Has (piece p differ b sc z) (count b)
    counts (tree n pl x) u a xs sc z h = form_counts n pl x (fine_is a xs n pl x h)
        (shape_counts x n pl (own (NodeShows p) n pl x u) (inside (NodeShows p) n pl x u) a xs sc z h)

    shape_counts : (x : Shape) (n : ℕ) (pl : Place) → NodeShows p (node n pl x) → Each (NodeShows p) (parts x) →
        (a : Allowed) (xs : Table) (sc : Scope) (z : Around) → FineShape p f a xs n pl x →
        Has (shape_piece p differ x n pl sc z) (defers_in (parts x))
    -- blocks and statements
    shape_counts (t.Shape.block ts) n pl v u a xs sc z h = all_counts ts u true a xs sc z h.0
    shape_counts (t.Shape.definition y b) n pl v u a xs sc z h =
        then_other (counts b u a xs sc z h.0) (binds p differ (a_constant y) _)
    shape_counts (t.Shape.typed y w b) n pl v u a xs sc z h =
        so (typed_part w b) (then_other (counts b (behind_type w b u) a xs sc z h.0) (binds p differ (a_constant y) _))
    shape_counts (t.Shape.variable y w b) n pl v u a xs sc z h = so (typed_part w b)
        (then_other (counts b (behind_type w b u) a xs sc z h.0) (binds p differ (a_variable y pl) _))
    shape_counts (t.Shape.assignment y b c) n pl v u a xs sc z h =
        pair b c (target_counts b (left b c u) (base_of p b) a xs sc z h.0.0)
        (then_other (counts c (right b c u) a xs sc (up (raised (target_operands b) z)) h.1)
        (else_stuck p differ (has_base p differ b (base_of p b) sc)
        (numbered pl _ (λ m. stores p differ (mode_of y) _ _ m _ _))))
    shape_counts (t.Shape.returned b) n pl v u a xs sc z h = then_other (counts b u a xs sc z h.0) (returns p differ z)
    shape_counts t.Shape.returned_unit n pl v u a xs sc z h = other_then (just o.Unit (refl, refl)) (returns p differ z)
    shape_counts t.Shape.break_form n pl v u a xs sc z h = breaks p differ z
    -- failure contexts
    shape_counts (t.Shape.if_else ts b c) n pl v u a xs sc z h =
        let w = each_first (NodeShows p) (trees_order ts ++ post_order b) (post_order c) u in
        so (omega (
          arith,
          joined (trees_order ts ++ post_order b) (post_order c),
          joined (trees_order ts)
              (post_order b),
        ))
        (one_of o.Try (λ m. (refl, refl))
        (both (all_counts ts (conditions ts b w) false (tried a) xs sc (enclosed z) h.0)
        (other_then (just o.Drop (refl, refl)) (other_then (just o.Commit (refl, refl))
        (counts b (behind_all ts b w) a (seen_after ts xs) (scope_behind ts sc) z h.1))))
        (counts c (each_rest (NodeShows p) (trees_order ts ++ post_order b) (post_order c) u) a xs sc z h.2))
    shape_counts (t.Shape.if_alone ts b) n pl v u a xs sc z h =
        so (omega (arith, joined (trees_order ts) (post_order b)))
        (one_of o.Try (λ m. (refl, refl))
        (both (all_counts ts (conditions ts b u) false (tried a) xs sc (enclosed z) h.0)
        (other_then (just o.Drop (refl, refl)) (other_then (just o.Commit (refl, refl))
        (counts b (behind_all ts b u) a (seen_after ts xs) (scope_behind ts sc) z h.1))))
        (just o.Unit (refl, refl)))
    shape_counts (t.Shape.negation b) n pl v u a xs sc z h =
        then_other (before o.Try (λ m. (refl, refl)) (then_other (counts b u (tried a) xs sc (enclosed z) h.0)
        (other_then (just o.Drop (refl, refl)) (other_then (just o.Undo (refl, refl)) (just o.Fail (refl, refl))))))
        (just o.Unit (refl, refl))
    shape_counts (t.Shape.option ts) n pl v u a xs sc z h =
        so (omega arith) (one_of o.Try (λ m. (refl, refl))
        (then_other (all_counts ts u false (tried a) xs sc (enclosed z) h.0)
        (other_then (just o.Commit (refl, refl)) (at_place pl o.Some (λ m. (refl, refl)))))
        (just o.False (refl, refl)))
    shape_counts (t.Shape.logic ts) n pl v u a xs sc z h =
        so (omega arith) (one_of o.Try (λ m. (refl, refl))
        (then_other (all_counts ts u false (tried a) xs sc (enclosed z) h.0) (other_then (just o.Drop (refl, refl))
        (other_then (just o.Commit (refl, refl)) (just o.True (refl, refl)))))
        (just o.False (refl, refl)))
    shape_counts (t.Shape.chained op.Or b c) n pl v u a xs sc z h =
        so (sym (joined (post_order b) (post_order c))) (one_of o.Try (λ m. (refl, refl))
        (then_other (counts b (left b c u) (tried a) xs sc (enclosed z) h.0) (just o.Commit (refl, refl)))
        (counts c (right b c u) a xs sc z h.1))
    shape_counts (t.Shape.for_form ts b) n pl v u a xs sc z h =
        so (sym (joined (trees_order ts) (post_order b))) (numbered pl _ (λ m.
        other_then (just (o.Array 0 m) (refl, refl)) (other_then (away _) (then_other (before o.Try (λ m. (refl, refl))
        (levels_counts ts (conditions ts b u) (tried a) xs (hidden ∷ sc) (enclosed z) h.0
        (λ sc2. other_then (just o.Commit (refl, refl)) (then_other
        (counts b (behind_all ts b u) a (seen_after ts xs) sc2 z h.1) (just (o.Append _ m) (refl, refl))))))
        (just (o.Get _) (refl, refl))))))
    -- operators
    shape_counts (t.Shape.chained op.Div b c) n pl v u a xs sc z h = elim h [ ]
    shape_counts (t.Shape.chained op.And b c) n pl v u a xs sc z h =
        pair b c (counts b (left b c u) a xs sc z h.0)
        (other_then (just o.Drop (refl, refl)) (counts c (right b c u) a xs sc z h.1))
    shape_counts (t.Shape.chained op.Add b c) n pl v u a xs sc z h =
        pair b c (counts b (left b c u) a xs sc z h.0) (then_other (counts c (right b c u) a xs sc (up z) h.1)
        (finishes_so p differ (form.computing op.Add (p.is_array n) pl) 2 tt))
    shape_counts (t.Shape.chained op.Sub b c) n pl v u a xs sc z h =
        pair b c (counts b (left b c u) a xs sc z h.0) (then_other (counts c (right b c u) a xs sc (up z) h.1)
        (finishes_so p differ (form.computing op.Sub (p.is_array n) pl) 2 tt))
    shape_counts (t.Shape.chained op.Mul b c) n pl v u a xs sc z h =
        pair b c (counts b (left b c u) a xs sc z h.0) (then_other (counts c (right b c u) a xs sc (up z) h.1)
        (finishes_so p differ (form.computing op.Mul (p.is_array n) pl) 2 tt))
    shape_counts (t.Shape.compared y b c) n pl v u a xs sc z h =
        pair b c (counts b (left b c u) a xs sc z h.0) (then_other (counts c (right b c u) a xs sc (up z) h.1)
        (finishes_so p differ (form.comparing y) 2 tt))
    shape_counts (t.Shape.minus b) n pl v u a xs sc z h =
        then_other (counts b u a xs sc z h.0) (finishes_so p differ (form.negating pl) 1 tt)
    shape_counts (t.Shape.query b) n pl v u a xs sc z h =
        then_other (counts b u a xs sc z h.0) (finishes_so p differ form.querying 1 tt)
    -- members, calls, indices
    shape_counts (t.Shape.member b y) n pl v u a xs sc z h =
        by_member p differ b (enum_member p b y) (λ w. IsEnumValue p f (f.sort n) w) h v (λ k. then_other
        (counts b u a xs sc z k.0)
        (finishes_so p differ (member_form (ref_at p n) y) 1 (member_form_fits (quiet p differ) (ref_at p n) y).1))
    shape_counts (t.Shape.call b ts) n pl v u a xs sc z h =
        let first = first_tree b ts u in
        let rest = rest_trees b ts u in
        let k = callee_of p b (picked ts) pl in
        let sum = joined (post_order b) (trees_order ts) in
        by_kind p differ b ts k
        (callee_fits (quiet p differ) b (picked ts) pl tt (picked_fits (quiet p differ) ts))
        (callee_none p b (picked ts) pl) h (left_so k ts v)
        (λ x i g. so (omega (arith, sum, i)) (other_then (starts p differ x sc)
        (then_other (args_counts ts rest a xs sc (started x z) g.0) (finishes_alone p differ x (how_many ts) sc))))
        (λ x i g. so (omega (arith, sum)) (both (object_counts b first a xs sc z g.0)
        (then_other (args_counts ts rest a xs sc (up z) g.1) (finishes_so p differ x (how_many ts) i))))
        (λ x e i g.
        let none : many ts ≡ 0 = subst (λ y. defers_in (left_called y ts) ≡ 0) e v in
        so (omega (arith, sum, none)) (then_other (counts b first a xs sc z g.0) (finishes_so p differ x 0 i)))
        (λ x i e w g. so (omega (arith, sum, e)) (then_other (quotient_counts ts rest a xs sc z n x w g)
        (finishes_so p differ x 2 i)))
    shape_counts (t.Shape.index b ts) n pl v u a xs sc z h =
        let first = first_tree b ts u in
        let rest = rest_trees b ts u in
        let sum = joined (post_order b) (trees_order ts) in
        by_kind p differ b ts (callee_of p b form.indexing pl)
        (callee_fits (quiet p differ) b form.indexing pl tt (tt, tt)) (callee_none p b form.indexing pl) h v
        (λ x i g. so (omega (arith, sum, i)) (other_then (starts p differ x sc)
        (then_other (args_counts ts rest a xs sc (started x z) g.0) (finishes_alone p differ x (how_many ts) sc))))
        (λ x i g. so (omega (arith, sum)) (both (object_counts b first a xs sc z g.0)
        (then_other (args_counts ts rest a xs sc (up z) g.1) (finishes_so p differ x (how_many ts) i))))
        (λ x e i g. so (omega (arith, sum)) (both (counts b first a xs sc z g.0.0)
        (then_other (args_counts ts rest a xs sc (up z) g.1) (finishes_so p differ x (how_many ts) i))))
        (λ x i e w g. so (omega (arith, sum, e)) (then_other (quotient_counts ts rest a xs sc z n x w g)
        (finishes_so p differ x 2 i)))
    -- literals and names
    shape_counts (t.Shape.integer y) n pl v u a xs sc z h = just (o.Int y) (refl, refl)
    shape_counts (t.Shape.character y) n pl v u a xs sc z h = just (o.Char y) (refl, refl)
    shape_counts (t.Shape.text bs) n pl v u a xs sc z h = text bs
    shape_counts (t.Shape.holes bs hs) n pl v u a xs sc z h =
        other_then (texts bs) (then_other (holes_counts hs u a xs sc (raised (one_if (is_text bs) 0) z) h.0)
        (at_place pl (o.Join (one_if (is_text bs) (joined_parts hs))) (λ m. (refl, refl))))
    shape_counts t.Shape.truth n pl v u a xs sc z h = just o.True (refl, refl)
    shape_counts t.Shape.falsehood n pl v u a xs sc z h = just o.False (refl, refl)
    shape_counts t.Shape.this n pl v u a xs sc z h = reads_this p differ sc
    shape_counts (t.Shape.name y) n pl v u a xs sc z h = reads_name p differ (ref_at p n) y sc
    -- values that are made
    shape_counts (t.Shape.tuple ts) n pl v u a xs sc z h =
        then_other (args_counts ts u a xs sc z h.0) (at_place pl (o.Tuple (how_many ts)) (λ m. (refl, refl)))
    shape_counts (t.Shape.array ts) n pl v u a xs sc z h =
        then_other (args_counts ts u a xs sc z h.0) (at_place pl (o.Array (how_many ts)) (λ m. (refl, refl)))
    shape_counts (t.Shape.mapping ps) n pl v u a xs sc z h =
        then_other (pairs_counts ps u a xs sc z h.0.0) (at_place pl (o.Map (pairs_in ps)) (λ m. (refl, refl)))
    shape_counts (t.Shape.instance y gs) n pl v u a xs sc z h =
        makes p differ (class_ref p (ref_at p n)) h.0 pl gs (length sc) h.1 (givens_counts gs u a xs sc z h.2)
    shape_counts (t.Shape.event w) n pl v u a xs sc z h =
        so (sym (nodes.written_none w)) (at_place pl o.Event (λ m. (refl, refl)))
    shape_counts t.Shape.bare_event n pl v u a xs sc z h = at_place pl o.Event (λ m. (refl, refl))
    -- loops and blocks
    shape_counts (t.Shape.loop_form b) n pl v u a xs sc z h = loops (counts b u (rules.looped h.0 a) xs sc
        (looped z) h.1)
    shape_counts (t.Shape.block_form b) n pl v u a xs sc z h = counts b u a xs sc z h.0
    shape_counts (t.Shape.cases b ts) n pl v u a xs sc z h =
        so (sym (joined (post_order b) (trees_order ts))) (both (counts b (first_tree b ts u) a xs sc z h.0)
        (other_then (away _) (arms_counts ts (rest_trees b ts u) (length sc) a xs (hidden ∷ sc) z (sort_at p f b)
        (f.sort n) h.1)))
    -- tasks
    shape_counts (t.Shape.branch b) n pl v u a xs sc z h = before o.Branch (λ m. (refl, refl))
        (then_other (counts b u (armed a) xs sc fresh h.1) (just o.ArmEnd (refl, refl)))
    shape_counts (t.Shape.sync ts) n pl v u a xs sc z h =
        groups 0 (how_many ts) pl (arm_spots p differ ts sc) (task_arms p differ ts sc) (tasks_counts ts u a xs sc h.1)
    shape_counts (t.Shape.race ts) n pl v u a xs sc z h =
        groups 1 (how_many ts) pl (arm_spots p differ ts sc) (task_arms p differ ts sc)
        (tasks_counts ts u a xs sc (each_trees (armed a) xs (f.sort n) ts h.1))
    shape_counts (t.Shape.rush ts) n pl v u a xs sc z h =
        groups 2 (how_many ts) pl (arm_spots p differ ts sc) (task_arms p differ ts sc)
        (tasks_counts ts u a xs sc (each_trees (armed a) xs (f.sort n) ts h.1))
    shape_counts (t.Shape.spawn b) n pl v u a xs sc z h = spawned_counts b u a xs sc z n h
    shape_counts (t.Shape.sleep d) n pl v u a xs sc z h = just (o.Sleep d) (refl, refl)
    shape_counts t.Shape.sleep_forever n pl v u a xs sc z h = just o.Forever (refl, refl)
    shape_counts x n pl v u a xs sc z h = elim h [ ]

    -- statements in turn, and what leaves them
    all_counts : (ts : Trees) → AllOf ts → (m : Bool) (a : Allowed) (xs : Table) (sc : Scope) (z : Around) →
        FineAll p f m a xs ts → Has (statements p differ ts sc z) (many ts)
    all_counts no_trees u m a xs sc z h = just o.Unit (refl, refl)
    all_counts (more_trees b ts) u m a xs sc z h =
        let d = any_defer (more_trees b ts) in
        same (omega (arith, joined (post_order b) (trees_order ts)))
        (enough d (many (more_trees b ts)) (nodes.inside b) (insides ts) (none_defers (more_trees b ts)))
        (both (stated_counts b (first_tree b ts u) m a xs sc z h.0)
        (both (more_counts ts (rest_trees b ts u) m a (seen_behind b xs) (scope_stated (statement_of b) sc)
        (around_stated p differ (statement_of b) z) h.1)
        (leave_if d z.defers (many (more_trees b ts)))))

    more_counts : (ts : Trees) → AllOf ts → (m : Bool) (a : Allowed) (xs : Table) (sc : Scope) (z : Around) →
        FineAll p f m a xs ts → Counts (more_statements p differ ts sc z) (many ts) (insides ts)
    more_counts no_trees u m a xs sc z h = none
    more_counts (more_trees b ts) u m a xs sc z h =
        same (omega (arith, joined (post_order b) (trees_order ts))) (omega arith)
        (both (just o.Drop (refl, refl)) (both (stated_counts b (first_tree b ts u) m a xs sc z h.0)
        (more_counts ts (rest_trees b ts u) m a (seen_behind b xs) (scope_stated (statement_of b) sc)
        (around_stated p differ (statement_of b) z) h.1)))

    stated_counts : (b : Tree) → AllShow b → (m : Bool) (a : Allowed) (xs : Table) (sc : Scope) (z : Around) →
        on_statement (statement_of b) (Fine p f a xs b)
        (λ y. FineInner p f a xs b × Fits f.up (inner_sort p f b) (sort_at p f b) × Defines p f y (number_of b) xs)
        (λ d. (m ≡ true) × FineInner p f (deferred a) xs b × Fits f.up s.unit (sort_at p f b)) (λ y. ⊥) →
        Counts (stated p differ (statement_of b) sc (piece p differ b sc z) (inner p differ b sc z)) (count b)
        (nodes.inside b)
    stated_counts (tree n pl x) u m a xs sc z h = states p differ (statement_of_shape x pl) sc
        (shape_piece p differ x n pl sc z) (inner_shape p differ x sc z)
        (statement_parts x n pl (inside (NodeShows p) n pl x u) m a xs sc z
        (λ k. shape_counts x n pl (own (NodeShows p) n pl x u) (inside (NodeShows p) n pl x u) a xs sc z k) h)

    statement_parts : (x : Shape) (n : ℕ) (pl : Place) → Each (NodeShows p) (parts x) → (m : Bool) (a : Allowed)
        (xs : Table) (sc : Scope) (z : Around) →
        (FineShape p f a xs n pl x → Has (shape_piece p differ x n pl sc z) (defers_in (parts x))) →
        on_statement (statement_of_shape x pl) (FineShape p f a xs n pl x)
        (λ y. FineInnerOf p f a xs x × Fits f.up (inner_sort_of p f x) (f.sort n) × Defines p f y n xs)
        (λ d. (m ≡ true) × FineInnerOf p f (deferred a) xs x × Fits f.up s.unit (f.sort n)) (λ y. ⊥) →
        on_statement (statement_of_shape x pl)
        (Counts (shape_piece p differ x n pl sc z) (count (tree n pl x)) (defers_in (parts x)))
        (λ y. Counts (inner_shape p differ x sc z) (count (tree n pl x)) (defers_in (parts x)))
        (λ d. Has (inner_shape p differ x sc z) (defers_in (parts x)) × (count (tree n pl x) ≡ suc (defers_in
        (parts x))))
        (λ y. ⊥)
    statement_parts (t.Shape.definition y b) n pl u m a xs sc z k h =
        statement_counts n pl (t.Shape.definition y b) refl (counts b u a xs sc z h.0)
    statement_parts (t.Shape.typed y w b) n pl u m a xs sc z k h =
        statement_counts n pl (t.Shape.typed y w b) refl
        (so (typed_part w b) (counts b (behind_type w b u) a xs sc z h.0))
    statement_parts (t.Shape.variable y w b) n pl u m a xs sc z k h =
        statement_counts n pl (t.Shape.variable y w b) refl
        (so (typed_part w b) (counts b (behind_type w b u) a xs sc z h.0))
    statement_parts (t.Shape.defer b) n pl u m a xs sc z k h = (
      counts b u (deferred a) xs sc (enclosed z) h.1,
      omega (arith, all_of n pl (t.Shape.defer b)),
    )
    statement_parts (t.Shape.elements y b) n pl u m a xs sc z k h = h
    statement_parts (t.Shape.entries i y b) n pl u m a xs sc z k h = h
    statement_parts (t.Shape.range y b c) n pl u m a xs sc z k h = h
    statement_parts x n pl u m a xs sc z k h = statement_counts n pl x (fine_is a xs n pl x h) (k h)

    -- the clauses of a `for`
    levels_counts : (ts : Trees) → AllOf ts → (a : Allowed) (xs : Table) (sc : Scope) (z : Around) →
        FineClauses p f a xs ts → {body : Scope → Maker} {r : ℕ} → ((sc : Scope) → Has (body sc) r) →
        Has (levels p differ ts sc z body) (many ts + r)
    levels_counts no_trees u a xs sc z h k = so (omega arith) (k sc)
    levels_counts (more_trees (tree n pl x) ts) u a xs sc z h k =
        let w = first_tree (tree n pl x) ts u in
        so (omega (arith, joined (post_order (tree n pl x)) (trees_order ts)))
        (clauses_one p differ (statement_of_shape x pl) sc (shape_piece p differ x n pl sc z)
        (inner_shape p differ x sc z)
        (count (tree n pl x)) (clause_parts x n pl (inside (NodeShows p) n pl x w) a xs sc z
        (λ i. shape_counts x n pl (own (NodeShows p) n pl x w) (inside (NodeShows p) n pl x w) a xs sc z i) h.0)
        (λ sc2. levels_counts ts (rest_trees (tree n pl x) ts u) a (seen_behind (tree n pl x) xs) sc2 z h.1 k))

    clause_parts : (x : Shape) (n : ℕ) (pl : Place) → Each (NodeShows p) (parts x) → (a : Allowed)
        (xs : Table) (sc : Scope) (z : Around) →
        (FineShape p f a xs n pl x → Has (shape_piece p differ x n pl sc z) (defers_in (parts x))) →
        on_statement (statement_of_shape x pl) (FineShape p f a xs n pl x)
        (λ y. FineInnerOf p f a xs x × Fits f.up (inner_sort_of p f x) (f.sort n) × Defines p f y n xs) (λ d. ⊥)
        (λ y. FineInnerOf p f a xs x × Generates p f n xs (inner_sort_of p f x) y) →
        on_statement (statement_of_shape x pl) (Has (shape_piece p differ x n pl sc z) (count (tree n pl x)))
        (λ y. Has (inner_shape p differ x sc z) (count (tree n pl x))) (λ d. ⊥)
        (λ y. Has (inner_shape p differ x sc z) (count (tree n pl x)))
    clause_parts (t.Shape.definition y b) n pl u a xs sc z k h =
        form_counts n pl (t.Shape.definition y b) refl (counts b u a xs sc z h.0)
    clause_parts (t.Shape.typed y w b) n pl u a xs sc z k h = form_counts n pl (t.Shape.typed y w b) refl
        (so (typed_part w b) (counts b (behind_type w b u) a xs sc z h.0))
    clause_parts (t.Shape.variable y w b) n pl u a xs sc z k h = form_counts n pl (t.Shape.variable y w b) refl
        (so (typed_part w b) (counts b (behind_type w b u) a xs sc z h.0))
    clause_parts (t.Shape.defer b) n pl u a xs sc z k h = h
    clause_parts (t.Shape.elements y b) n pl u a xs sc z k h =
        form_counts n pl (t.Shape.elements y b) refl (counts b u a xs sc z h.0)
    clause_parts (t.Shape.entries i y b) n pl u a xs sc z k h =
        form_counts n pl (t.Shape.entries i y b) refl (counts b u a xs sc z h.0)
    clause_parts (t.Shape.range y b c) n pl u a xs sc z k h = form_counts n pl (t.Shape.range y b c) refl
        (pair b c (counts b (left b c u) a xs sc z h.0.0) (counts c (right b c u) a xs sc (up z) h.0.1))
    clause_parts x n pl u a xs sc z k h = form_counts n pl x (fine_is a xs n pl x h) (k h)

    -- the object of a member
    object_counts : (b : Tree) → AllShow b → (a : Allowed) (xs : Table) (sc : Scope) (z : Around) →
        FineObject p f a xs b → Has (inner p differ b sc z) (count b)
    object_counts (tree n pl (t.Shape.member b y)) u a xs sc z h = form_counts n pl (t.Shape.member b y) refl
        (counts b (inside (NodeShows p) n pl (t.Shape.member b y) u) a xs sc z h)
    object_counts (tree n pl x) u a xs sc z h = elim h [ ]

    -- operands
    args_counts : (ts : Trees) → AllOf ts → (a : Allowed) (xs : Table) (sc : Scope) (z : Around) →
        FineTrees p f a xs ts → Has (args p differ ts sc z) (many ts)
    args_counts no_trees u a xs sc z h = none
    args_counts (more_trees b ts) u a xs sc z h = so (sym (joined (post_order b) (trees_order ts)))
        (both (counts b (first_tree b ts u) a xs sc z h.0) (args_counts ts (rest_trees b ts u) a xs sc (up z) h.1))

    holes_counts : (hs : Holes) → Each (NodeShows p) (holes_order hs) → (a : Allowed) (xs : Table) (sc : Scope)
        (z : Around) → FineHoles p f a xs hs → Has (holed p differ hs sc z) (defers_in (holes_order hs))
    holes_counts no_holes u a xs sc z h = none
    holes_counts (more_holes b bs hs) u a xs sc z h = so (sym (joined (post_order b) (holes_order hs)))
        (both (counts b (each_first (NodeShows p) (post_order b) (holes_order hs) u) a xs sc z h.0)
        (other_then (texts bs) (holes_counts hs (each_rest (NodeShows p) (post_order b) (holes_order hs) u) a xs sc
        (raised (suc (one_if (is_text bs) 0)) z) h.1)))

    pairs_counts : (ps : t.Pairs) → Each (NodeShows p) (pairs_order ps) → (a : Allowed) (xs : Table) (sc : Scope)
        (z : Around) → FinePairs p f a xs ps → Has (paired_args p differ ps sc z) (defers_in (pairs_order ps))
    pairs_counts t.Pairs.no_pairs u a xs sc z h = none
    pairs_counts (t.Pairs.more_pairs b c ps) u a xs sc z h =
        let w = each_first (NodeShows p) (post_order b ++ post_order c) (pairs_order ps) u in
        so (omega (arith, joined (post_order b ++ post_order c) (pairs_order ps), joined (post_order b) (post_order c)))
        (both (counts b (left b c w) a xs sc z h.0) (both (counts c (right b c w) a xs sc (up z) h.1)
        (pairs_counts ps (each_rest (NodeShows p) (post_order b ++ post_order c) (pairs_order ps) u) a xs sc (up (up z))
        h.2)))

    givens_counts : (gs : Givens) → Each (NodeShows p) (givens_order gs) → (a : Allowed) (xs : Table) (sc : Scope)
        (z : Around) → FineGivens p f a xs gs → Has (given_args p differ gs sc z) (defers_in (givens_order gs))
    givens_counts no_givens u a xs sc z h = none
    givens_counts (more_givens y b gs) u a xs sc z h = so (sym (joined (post_order b) (givens_order gs)))
        (both (counts b (each_first (NodeShows p) (post_order b) (givens_order gs) u) a xs sc z h.0)
        (other_then (away _) (givens_counts gs (each_rest (NodeShows p) (post_order b) (givens_order gs) u) a xs
        (hidden ∷ sc) z h.1)))

    -- the quotient that Floor and Ceil take
    quotient_counts : (ts : Trees) → AllOf ts → (a : Allowed) (xs : Table) (sc : Scope) (z : Around) (n : ℕ)
        (x : Form) →
        defers_in (behind_first ts) ≡ 0 → FineQuotient p f a xs n x ts → Has (quotient p differ ts sc z) (many ts)
    quotient_counts no_trees u a xs sc z n x e h = elim h [ ]
    quotient_counts (more_trees (tree m q (t.Shape.chained y b c)) ts) u a xs sc z n x e h =
        let w = inside (NodeShows p) m q (t.Shape.chained y b c) (first_tree (tree m q (t.Shape.chained y b c)) ts u) in
        so (omega (
          arith,
          joined (post_order (tree m q (t.Shape.chained y b c))) (trees_order ts),
          all_of m q (t.Shape.chained y b c),
          joined (post_order b) (post_order c),
          e,
        ))
        (both (counts b (left b c w) a xs sc z h.0) (counts c (right b c w) a xs sc (up z) h.1))
    quotient_counts (more_trees (tree m q y) ts) u a xs sc z n x e h = elim h [ ]

    -- the cell and the indices of what `set` writes to
    target_counts : (b : Tree) → AllShow b → (base : Base) (a : Allowed) (xs : Table) (sc : Scope) (z : Around) →
        FineTarget p f a xs b → Has (target_piece p differ b base sc z) (count b)
    target_counts (tree n pl (t.Shape.name y)) u base a xs sc z h = base_reads p differ base sc
    target_counts (tree n pl (t.Shape.member b y)) u base a xs sc z h = form_counts n pl (t.Shape.member b y) refl
        (counts b (inside (NodeShows p) n pl (t.Shape.member b y) u) a xs sc z h)
    target_counts (tree n pl (t.Shape.index b ts)) u base a xs sc z h =
        let w = inside (NodeShows p) n pl (t.Shape.index b ts) u in
        form_counts n pl (t.Shape.index b ts) refl (so (sym (joined (post_order b) (trees_order ts)))
        (both (target_counts b (first_tree b ts w) base a xs sc z h.0)
        (args_counts ts (rest_trees b ts w) a xs sc (up (raised (target_operands b) z)) h.1)))
    target_counts (tree n pl x) u base a xs sc z h = elim h [ ]

    -- the arms of a `case`, one or more
    arms_counts : (ts : Trees) → AllOf ts → (k : ℕ) (a : Allowed) (xs : Table) (sc : Scope) (z : Around) (q r : Sort) →
        FineArms p f a xs q r ts → Has (arms p differ ts k sc z) (many ts)
    arms_counts no_trees u k a xs sc z q r h = elim h [ ]
    arms_counts (more_trees b no_trees) u k a xs sc z q r h =
        so (omega (arith, joined (post_order b) []))
        (arm_counts b no_trees (first_tree b no_trees u) k a xs sc z q r (arms p differ no_trees k sc z) 0 h.0 refl
        (λ e. absurd (cc)))
    arms_counts (more_trees b (more_trees c ts)) u k a xs sc z q r h =
        so (sym (joined (post_order b) (trees_order (more_trees c ts))))
        (arm_counts b (more_trees c ts) (first_tree b (more_trees c ts) u) k a xs sc z q r
        (arms p differ (more_trees c ts) k sc z) (many (more_trees c ts)) h.0 refl
        (λ e. arms_counts (more_trees c ts) (rest_trees b (more_trees c ts) u) k a xs sc z q r h.1))

    arm_counts : (b : Tree) (ts : Trees) → AllShow b → (k : ℕ) (a : Allowed) (xs : Table) (sc : Scope) (z : Around)
        (q r : Sort) (rest : Maker) (i : ℕ) → FineArm p f a xs q r b → i ≡ many ts →
        (none_left ts ≡ false → Has rest i) →
        Has (arm_tree p differ b ts k sc z rest) (count b + i)
    arm_counts (tree n pl (t.Shape.arm b c)) no_trees u k a xs sc z q r rest i h e y =
        let w = inside (NodeShows p) n pl (t.Shape.arm b c) u in
        let v = own (NodeShows p) n pl (t.Shape.arm b c) u in
        so (omega (arith, all_of n pl (t.Shape.arm b c), joined (post_order b) (post_order c), v, e))
        (last_arm p differ b k (piece p differ c sc z) rest (counts c (right b c w) a xs sc z h.0))
    arm_counts (tree n pl (t.Shape.arm b c)) (more_trees d ts) u k a xs sc z q r rest i h e y =
        let w = inside (NodeShows p) n pl (t.Shape.arm b c) u in
        let v = own (NodeShows p) n pl (t.Shape.arm b c) u in
        so (omega (arith, all_of n pl (t.Shape.arm b c), joined (post_order b) (post_order c), v))
        (one_arm p differ b k (counts c (right b c w) a xs sc z h.0) (y refl))
    arm_counts (tree n pl x) ts u k a xs sc z q r rest i h e y = elim h [ ]

    -- the arms of a group
    tasks_counts : (ts : Trees) → AllOf ts → (a : Allowed) (xs : Table) (sc : Scope) → FineTrees p f (armed a) xs ts →
        Has (task_arms p differ ts sc) (many ts)
    tasks_counts no_trees u a xs sc h = none
    tasks_counts (more_trees b ts) u a xs sc h = so (sym (joined (post_order b) (trees_order ts)))
        (both (then_other (counts b (first_tree b ts u) (armed a) xs sc fresh h.0) (just o.ArmEnd (refl, refl)))
        (tasks_counts ts (rest_trees b ts u) a xs sc h.1))

    -- the call that a `spawn` starts
    spawned_counts : (b : Tree) → AllShow b → (a : Allowed) (xs : Table) (sc : Scope) (z : Around) (n : ℕ) →
        FineSpawned p f a xs n b → Has (spawned p differ b sc z) (count b)
    spawned_counts (tree m pl (t.Shape.call b ts)) u a xs sc z n h =
        let w = inside (NodeShows p) m pl (t.Shape.call b ts) u in
        let rest = rest_trees b ts w in
        let none = form.picking None in
        let k = callee_of p b none pl in
        let sum = joined (post_order b) (trees_order ts) in
        form_counts m pl (t.Shape.call b ts) refl (by_kind p differ b ts (spawned_callee k)
        (spawned_callee_fits (quiet p differ) k (callee_fits (quiet p differ) b none pl tt (tt, tt)))
        (spawned_none k b (callee_none p b none pl)) h (spawned_left k ts)
        (λ x i g. so (omega (arith, sum, i)) (other_then (starts p differ x sc)
        (then_other (args_counts ts rest a xs sc (started x z) g.0) (finishes_alone p differ x (how_many ts) sc))))
        (λ x i g. so (omega (arith, sum)) (both (object_counts b (first_tree b ts w) a xs sc z g.0)
        (then_other (args_counts ts rest a xs sc (up z) g.1) (finishes_so p differ x (how_many ts) i))))
        (λ x e i g. elim g [ ])
        (λ x i e v g. elim g [ ]))
    spawned_counts (tree m pl x) u a xs sc z n h = elim h [ ]
