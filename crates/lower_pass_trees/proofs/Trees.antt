-- The notes of a fine tree's code pass: one clause a form.
use Rattle.std.proofs.Common.{◌≡◌, ℕ, suc, ◌+◌, ◌≤◌, List, [], ◌∷◌, ◌++◌, length, Bool, true, false, Option, Some, None, inl, refl, sym}
use Rattle.std.proofs.Common.{◌∙◌, subst, ap}
use Rattle.std.proofs.Common.{arith}
use Rattle.std.specs.Prelude.{option_map}
use Rattle.verse_base.specs.declared.places.Place.{Place}
use Rattle.verse_tree.specs.Tree.{Written, Tree, tree, Shape, Trees, no_trees, more_trees, Holes, no_holes, more_holes, Givens, no_givens}
use Rattle.verse_tree.specs.Tree.{more_givens}
use Rattle.verse_tree.specs.Tree as t
use Rattle.verse_tree.specs.PostOrder.{post_order, parts, trees_order, holes_order, pairs_order, givens_order, written_order}
use Rattle.verse_tree.specs.declared.exprs.Operator.TheVariants as op
use Rattle.verse_code.specs.declared.codes.Code.{Code}
use Rattle.verse_code.specs.declared.operations.Op.TheVariants as o
use Rattle.verse_names_tables.specs.Names.{Table}
use Rattle.verse_sorts.specs.Sorts as s
use Rattle.verse_sorts.specs.Sorts.{Sort, IsKnown, Fits, to_any}
use Rattle.verse_sorts.proofs.Fitting.{fits_on}
use Rattle.verse_meaning.specs.Programs.{Program, ref_at, fields_of, pieces}
use Rattle.verse_meaning.specs.Residuals as form
use Rattle.verse_meaning.specs.Residuals.{Form, a_constant, a_variable}
use Rattle.verse_meaning.specs.Evaluating as st
use Rattle.verse_meaning.specs.Evaluating.{Statement, statement_of, statement_of_shape, callee_of, spawned_callee, picked}
use Rattle.verse_meaning.specs.Evaluating.{enum_member, class_ref, base_of, member_form, number_of}
use Rattle.verse_sound_rules.specs.Found as rules
use Rattle.verse_sound_rules.specs.Found.{Allowed}
use Rattle.verse_sound_rules.specs.Fine.{Fine, FineShape, FineAll, FineInner, FineInnerOf, FineObject, FineTrees, FineQuotient, FineSpawned}
use Rattle.verse_sound_rules.specs.Fine.{FineHoles, FinePairs, FineGivens, FineTarget, FineEach, FineArms, FineClauses, Several, Settled}
use Rattle.verse_sound_rules.specs.Fine.{PairsFit, given_sorts, Generates}
use Rattle.verse_sound_rules.specs.Fine.{sorts_at, last_sort, object_sort, inner_sort, inner_sort_of, seen_behind, seen_after}
use Rattle.verse_sound_rules.specs.Fine.{stated_behind, on_statement}
use Rattle.verse_sound_rules.specs.Fine.{Defines}
use Rattle.verse_sound_rules.specs.Programs.{FineFound}
use Rattle.verse_verify_kept.specs.Notes.{Notes, parent_of}
use Rattle.lower_code.specs.Pieces as c
use Rattle.lower_code.specs.Pieces.{Maker}
use Rattle.lower_code.specs.declared.arounds.Around.{Around}
use Rattle.lower_code.specs.Arounds.{fresh, up, raised, looped, enclosed}
use Rattle.lower_code.specs.Applied.{started}
use Rattle.lower_code.specs.Applied as apply
use Rattle.lower_code.specs.Scopes.{Scope, hidden}
use Rattle.lower_code.specs.Lowering as lower
use Rattle.lower_code.specs.Lowering.{how_many, scope_stated, scope_behind, around_stated, any_defer, form_fits, with_binder}
use Rattle.lower_code.specs.Lowering.{target_operands}
use Rattle.lower_code.specs.Lowering.{is_text, one_if, arm_spots}
use Rattle.lower_simulation_runs.specs.Programs.{NodeStands, ArmsStand}
use Rattle.lower_bounds.proofs.Arms.{arms_many}
use Rattle.lower_bounds.proofs.Lists.{Each, each_first, each_rest, node, own, inside}
use Rattle.lower_sound.proofs.Counts.{IsOfQuotient, sorts_many, gives_told, callee_is, spawned_is}
use Rattle.lower_notes.specs.States as states
use Rattle.lower_notes.specs.States.{State, gives}
use Rattle.lower_notes.specs.Stretches as n
use Rattle.lower_notes.specs.Stretches.{Walk, with_value}
use Rattle.lower_notes.specs.Noting as noting
use Rattle.lower_notes.specs.Noting.{key_in, index_in}
use Rattle.lower_notes.specs.Applied as walks
use Rattle.lower_notes.specs.Laws.{Beside}
use Rattle.lower_notes.proofs.Counted as counted
use Rattle.lower_notes.proofs.Counted.{code_then, walk_then}
use Rattle.lower_notes.proofs.Forms as beside
use Rattle.lower_notes.proofs.Others as others
use Rattle.lower_pass_states.proofs.Points.{over}
use Rattle.lower_pass_states.proofs.Steps.{turned}
use Rattle.lower_pass_stretches.proofs.Begins.{tree_begins, inner_shape_begins}
use Rattle.lower_pass_stretches.proofs.Going.{Way, If, itself, Going, then_goes}
use Rattle.lower_pass_stretches.proofs.Single.{tree_goes, IsValue, lands_goes}
use Rattle.lower_pass_stretches.proofs.Inside.{Inside, steady_of}
use Rattle.lower_pass_forms.proofs.Applied.{noted_found}
use Rattle.lower_pass_forms.proofs.Calls.{Declared}
use Rattle.lower_pass_forms.proofs.Finishing.{IsOver, over_itself}
use Rattle.lower_pass_forms.proofs.Operators as operators
use Rattle.lower_pass_forms.proofs.Operators.{one_then, two_then}
use Rattle.lower_pass_blocks.proofs.Ways.{returns_go, breaks_go}
use Rattle.lower_pass_blocks.proofs.Attempted.{negation_goes, or_goes}
use Rattle.lower_pass_blocks.proofs.Stated.{Next, weaker, plain_goes}
use Rattle.lower_pass_statements.proofs.Turns.{one_deferred, deferred_by, deferred_in, around_behind, behind_defers, behind_base}
use Rattle.lower_pass_statements.proofs.Turns.{stated_defers, none_deferred, none_around}
use Rattle.lower_pass_statements.proofs.Turns.{conditions_none, no_defer, first_none, Parts, states_go, next_goes, no_more}
use Rattle.lower_pass_statements.proofs.Settled.{Settles, settled_lands, value_settles, leaves_go, none_leaves}
use Rattle.lower_pass_statements.proofs.Conditions.{else_goes, alone_goes, option_goes, logic_goes}
use Rattle.lower_pass_statements.proofs.Defined.{defining_fits, varying_fits, constant_alone, variable_alone}
use Rattle.lower_pass_loops.proofs.Looped.{loop_goes}
use Rattle.lower_pass_loops.proofs.Levels.{LevelGoes, body_goes}
use Rattle.lower_pass_loops.proofs.Clauses.{clause_goes, ClauseParts, of_domain, of_keyed, of_ends, ends_part}
use Rattle.lower_pass_loops.proofs.Fors.{for_goes}
use Rattle.lower_pass_arms.proofs.Branching.{branch_goes}
use Rattle.lower_pass_arms.proofs.Grouping.{Arming, no_arms, task_goes, sync_goes, race_goes, each_in}
use Rattle.lower_pass_arms.proofs.Choosing.{Chooses, arm_chooses, case_goes}
use Rattle.lower_pass_values.proofs.Operands.{value_over, value_here, value_lands, no_operand_goes, operand_goes, wide_operand_goes}
use Rattle.lower_pass_values.proofs.Operands.{pair_goes}
use Rattle.lower_pass_values.proofs.Operands.{mapping_goes, map_fits, map_keyed, noted_pairs, sorts_known}
use Rattle.lower_pass_values.proofs.Indices.{noted_indices, IndicesFit, indices_fit}
use Rattle.lower_pass_values.proofs.Targets.{TargetOf, target_name, target_member, target_index}
use Rattle.lower_pass_values.proofs.Assigned.{Alike, assignment_goes, index_fails}
use Rattle.lower_pass_values.proofs.Holes.{noted_holes, with_text, hole_goes, holes_goes}
use Rattle.lower_pass_values.proofs.Instances.{Given, Gave, none_given, no_given_goes, given_goes, instance_goes, IsClass, HaveDefaults}
use Rattle.lower_pass_values.proofs.Members.{member_goes, member_ends}
use Rattle.lower_pass_trees.proofs.Parts as part
use Rattle.lower_pass_trees.proofs.Ends.{by_kind, pick_ends, quotient_ends, returning_fits}

module _ (p : Program) (found : rules.Found) (differ : ℕ → ℕ → Bool) (code : Code) (notes : Notes)
    (declared : Declared p found code notes) (fine : FineFound p (noted_found notes found))
    (same : (m n : ℕ) → differ m n ≡ false → Alike (found.sort m) (found.sort n))
    (classes : (n k : ℕ) → class_ref p (ref_at p n) ≡ Some k → IsClass p found code notes k)
    (defaults : (n k : ℕ) → class_ref p (ref_at p n) ≡ Some k → HaveDefaults p found code notes (fields_of p k)) where
  abbrev F : rules.Found
  F = noted_found notes found

  abbrev Fit : Sort → Sort → Type 0
  Fit = Fits (parent_of notes)

  abbrev AllStand : Tree → Type 0
  AllStand b = Each (NodeStands p) (post_order b)

  abbrev AllOf : Trees → Type 0
  AllOf ts = Each (NodeStands p) (trees_order ts)

  first_tree : (b : Tree) (bs : Trees) → AllOf (more_trees b bs) → AllStand b
  first_tree b bs u = each_first (NodeStands p) (post_order b) (trees_order bs) u

  rest_trees : (b : Tree) (bs : Trees) → AllOf (more_trees b bs) → AllOf bs
  rest_trees b bs u = each_rest (NodeStands p) (post_order b) (trees_order bs) u

  left : (b d : Tree) → Each (NodeStands p) (post_order b ++ post_order d) → AllStand b
  left b d u = each_first (NodeStands p) (post_order b) (post_order d) u

  right : (b d : Tree) → Each (NodeStands p) (post_order b ++ post_order d) → AllStand d
  right b d u = each_rest (NodeStands p) (post_order b) (post_order d) u

  conditions : (bs : Trees) (b : Tree) → Each (NodeStands p) (trees_order bs ++ post_order b) → AllOf bs
  conditions bs b u = each_first (NodeStands p) (trees_order bs) (post_order b) u

  behind_all : (bs : Trees) (b : Tree) → Each (NodeStands p) (trees_order bs ++ post_order b) → AllStand b
  behind_all bs b u = each_rest (NodeStands p) (trees_order bs) (post_order b) u

  behind_type : (wr : Written) (b : Tree) → Each (NodeStands p) (written_order wr ++ post_order b) → AllStand b
  behind_type wr b u = each_rest (NodeStands p) (written_order wr) (post_order b) u

  -- ---- statements

  -- of the value that statements leave
  abbrev left_sort : Trees → Sort
  left_sort no_trees = s.unit
  left_sort (more_trees b bs) = last_sort p F (found.sort (number_of b)) bs

  left_fits : (bs : Trees) {q : Sort} → Fit (last_sort p F s.any bs) q → Fit (left_sort bs) q
  left_fits no_trees f = fits_on (parent_of notes) (to_any tt) f
  left_fits (more_trees b bs) f = f

  left_some : (bs : Trees) {q : Sort} → Fit (s.opt (last_sort p F s.any bs)) q → Fit (s.opt (left_sort bs)) q
  left_some no_trees f = fits_on (parent_of notes) (s.fits_opt (to_any tt)) f
  left_some (more_trees b bs) f = f

  last_known : (q : Sort) → IsKnown q → (bs : Trees) → IsKnown (last_sort p F q bs)
  last_known q known no_trees = known
  last_known q known (more_trees b bs) = last_known (found.sort (number_of b)) (fine.known.sort (number_of b)) bs

  -- of the part of a statement
  abbrev part_sort : Shape → Sort
  part_sort (t.Shape.definition y b) = found.sort (number_of b)
  part_sort (t.Shape.typed y wr b) = found.sort (number_of b)
  part_sort (t.Shape.variable y wr b) = found.sort (number_of b)
  part_sort (t.Shape.defer b) = found.sort (number_of b)
  part_sort y = s.any

  scope_longer : (bs : Trees) (sc : Scope) → length sc ≤ length (scope_behind bs sc)
  scope_longer no_trees sc = omega arith
  scope_longer (more_trees b bs) sc = on (one_longer (statement_of b) sc) (scope_longer bs (scope_stated (statement_of b) sc))
    where
      on : {i j k : ℕ} → i ≤ j → j ≤ k → i ≤ k
      on e f = omega (arith, e, f)

      binder_longer : (y : form.Binder) (sc : Scope) → length sc ≤ length (with_binder y sc)
      binder_longer form.no_name sc = omega arith
      binder_longer (a_constant y) sc = omega arith
      binder_longer (a_variable y pl) sc = omega arith

      one_longer : (st : Statement) (sc : Scope) → length sc ≤ length (scope_stated st sc)
      one_longer st.plain sc = omega arith
      one_longer (st.defines y) sc = binder_longer y sc
      one_longer (st.defers d) sc = omega arith
      one_longer (st.generates y) sc = omega arith

  -- ---- how many blocks a block defers

  deferred_count : (b : Tree) (bs : Trees) (z : Around) → (around_behind p differ (more_trees b bs) z).defers ≡
      deferred_in (one_deferred (statement_of b)) bs + z.defers
  deferred_count b bs z = count _ _ _ _ _ (behind_defers p differ bs (around_stated p differ (statement_of b) z)
      (one_deferred (statement_of b))) (stated_defers p differ (statement_of b) z)
    where
      count : (x k d e a : ℕ) → x + k ≡ d + e → e ≡ k + a → x ≡ d + a
      count x k d e a h g = omega (arith, h, g)

  no_block : (b : Tree) (bs : Trees) → any_defer (more_trees b bs) ≡ false → deferred_in (one_deferred (statement_of b)) bs ≡ 0
  no_block (tree n pl y) bs e =
      let h = first_none p differ (lower.is_defer_shape y) (any_defer bs) e in
      none_deferred p differ bs h.1 (one_deferred (statement_of_shape y pl)) ∙ (no_defer p differ y pl h.0).one

  -- ---- arms and bodies

  each_trees : (al : Allowed) (xs : Table) (q : Sort) (bs : Trees) → FineEach p F al xs q bs → FineTrees p F al xs bs
  each_trees al xs q no_trees h = tt
  each_trees al xs q (more_trees b bs) h = (h.0, each_trees al xs q bs h.2)

  two_or_more : (bs : Trees) → Several bs → 2 ≤ how_many bs
  two_or_more no_trees h = elim h [ ]
  two_or_more (more_trees b no_trees) h = elim h [ ]
  two_or_more (more_trees b (more_trees d bs)) h = omega arith

  body_beside : (b : Tree) (e : Scope) (z : Around) (m l : ℕ) → Beside
      (code_then (c.one o.Commit) (code_then (lower.piece p differ b e z) (c.one (o.Append l m))))
      (walk_then (n.one states.untried) (walk_then (noting.walk p found differ b e z) (n.one (states.pops 1))))
  body_beside b e z m l = counted.both counted.just (counted.both (beside.trees p found differ b e z) counted.just)

  -- ---- the knot

  abbrev Here : Way → List ℕ → Allowed → Table → Scope → Around → Option State → Type 0
  Here w ts al xs sc z x = If x (Inside code notes F w ts al xs sc z)

  abbrev Value : Way → List ℕ → Option State → Maker → Walk → Sort → Type 0
  Value w ts x f g q = Going code notes w ts x f g itself (IsValue code notes q x)

  -- the rest of a form, from another state
  abbrev FormOf : Way → List ℕ → Option State → Option State → Maker → Walk → Sort → Type 0
  FormOf w ts x e f g q = Going code notes w ts e f g (with_value q x) (λ v. Unit {0})

  abbrev FormGoes : Way → List ℕ → Option State → Maker → Walk → Sort → Type 0
  FormGoes w ts x f g q = Going code notes w ts x f g (with_value q x) (λ v. Unit {0})

  value_over_goes : (w : Way) (ts : List ℕ) (al : Allowed) (xs : Table) (sc : Scope) (x : Option State) {e : Option State} (q : Sort)
      (qs : List Sort) {f : Maker} {g : Walk} → If e (IsOver code notes qs x) → Value w ts e f g q →
      Going code notes w ts e f g itself (IsOver code notes (q ∷ qs) x)
  value_over_goes w ts al xs sc x q qs above h = weaker F code notes w ts al h
      (λ y k. let r = above k.0 k.1.0 in (r.0, (r.1.0, k.1.1 ∙ ap (over (q ∷ [])) r.1.1)))

  stated_beside : (b : Tree) (sc : Scope) (z : Around) → Beside
      (lower.stated p differ (statement_of b) sc (lower.piece p differ b sc z) (lower.inner p differ b sc z))
      (noting.stated p found differ (statement_of b) (found.sort (number_of b)) sc (noting.walk p found differ b sc z)
      (noting.inner p found differ b sc z))
  stated_beside b sc z = others.states p found differ (statement_of b) _ sc (beside.trees p found differ b sc z)
      (beside.inners p found differ b sc z)

  mutual
    pub trees_pass : (b : Tree) → AllStand b → (w : Way) (ts : List ℕ) (al : Allowed) (xs : Table) (sc : Scope) (z : Around)
        (x : Option State) → Fine p F al xs b → Here w ts al xs sc z x →
        Value w ts x (lower.piece p differ b sc z) (noting.walk p found differ b sc z) (found.sort (number_of b))
    trees_pass (tree n pl y) u w ts al xs sc z x h here = tree_goes code notes (found.sort n)
        (shapes_pass y n pl (own (NodeStands p) n pl y u) (inside (NodeStands p) n pl y u) w ts al xs sc z x h here)

    shapes_pass : (y : Shape) (n : ℕ) (pl : Place) → NodeStands p (node n pl y) → Each (NodeStands p) (parts y) → (w : Way) (ts : List ℕ)
        (al : Allowed) (xs : Table) (sc : Scope) (z : Around) (x : Option State) → FineShape p F al xs n pl y → Here w ts al xs sc z x →
        FormGoes w ts x (lower.shape_piece p differ y n pl sc z) (noting.shape_walk p found differ y n pl sc z) (found.sort n)
    -- blocks and statements
    shapes_pass (t.Shape.block bs) n pl v u w ts al xs sc z x h here = weaker F code notes w ts al
        (lands_goes code notes (found.sort n) (block_passes bs u w ts al xs sc z x h.0 here)
        (settled_lands code notes ts (left_sort bs) (found.sort n) (left_fits bs h.1))) (λ v k. tt)
    shapes_pass (t.Shape.definition y b) n pl v u w ts al xs sc z x h here =
        constant_alone F code notes w ts al xs sc z x here y (found.sort (number_of b)) (found.sort n) (beside.trees p found differ b sc z)
        (defining_fits p F al xs h.1) (trees_pass b u w ts al xs sc z x h.0 here) (fine.known.sort n)
    shapes_pass (t.Shape.typed y wr b) n pl v u w ts al xs sc z x h here =
        constant_alone F code notes w ts al xs sc z x here y (found.sort (number_of b)) (found.sort n) (beside.trees p found differ b sc z)
        (defining_fits p F al xs h.1) (trees_pass b (behind_type wr b u) w ts al xs sc z x h.0 here) (fine.known.sort n)
    shapes_pass (t.Shape.variable y wr b) n pl v u w ts al xs sc z x h here =
        variable_alone F code notes w ts al xs sc z x here y (found.sort (number_of b)) (found.sort n) (beside.trees p found differ b sc z)
        (varying_fits p F al xs h.1) (trees_pass b (behind_type wr b u) w ts al xs sc z x h.0 here) pl
    shapes_pass (t.Shape.assignment m b d) n pl v u w ts al xs sc z x h here =
        let b2 = up (raised (target_operands b) z) in
        assignment_goes p found differ code notes declared fine w ts al xs sc z x here m b d n pl h.0.0 h.0.1 h.0.2
        (λ e. inl (index_fails p F al xs b h.0.1 e)) (same (number_of b) (number_of d)) (fine.known.sort (number_of d))
        (beside.targets p found differ b (base_of p b) sc z) (target_passes b (left b d u) w ts al xs sc z x h.0.0 h.0.1 here)
        (beside.trees p found differ d sc b2) (λ e i. trees_pass d (right b d u) w ts al xs sc b2 e h.1 i)
    shapes_pass (t.Shape.returned b) n pl v u w ts al xs sc z x h here =
        let k = gives_told p F al xs h.1 in
        then_goes code notes (beside.trees p found differ b sc z) (trees_pass b u w ts al xs sc z x h.0 here)
        (λ v i. returns_go F code notes w ts al xs sc z x here (found.sort (number_of b)) k.0 k.1 (returning_fits p F al xs h.1 k.1)
        (fine.known.sort (number_of b)) i)
    shapes_pass t.Shape.returned_unit n pl v u w ts al xs sc z x h here =
        then_goes code notes counted.just (part.unit_passes p found differ code notes declared fine w ts al xs sc z x here)
        (λ v i. returns_go F code notes w ts al xs sc z x here s.unit h.0 h.1 h.2 tt i)
    shapes_pass t.Shape.break_form n pl v u w ts al xs sc z x h here = breaks_go F code notes w ts al xs sc z x here h
    -- failure contexts
    shapes_pass (t.Shape.if_else bs b d) n pl v u w ts al xs sc z x h here =
        let k = each_first (NodeStands p) (trees_order bs ++ post_order b) (post_order d) u in
        else_goes F code notes w ts al xs sc z x here (seen_after bs xs) (scope_behind bs sc) (scope_longer bs sc) (found.sort n)
        (left_sort bs) (beside.all p found differ bs sc (enclosed z))
        (λ i g. conditions_pass bs (conditions bs b k) w (i ∷ ts) (rules.tried al) xs sc (enclosed z) (option_map (states.tried i) x) h.0 g)
        (found.sort (number_of b)) (beside.trees p found differ b (scope_behind bs sc) z) h.3
        (λ e g. trees_pass b (behind_all bs b k) w ts al (seen_after bs xs) (scope_behind bs sc) z e h.1 g)
        (found.sort (number_of d)) (tree_begins p found differ d sc z) h.4
        (trees_pass d (each_rest (NodeStands p) (trees_order bs ++ post_order b) (post_order d) u) w ts al xs sc z x h.2 here)
    shapes_pass (t.Shape.if_alone bs b) n pl v u w ts al xs sc z x h here =
        alone_goes F code notes w ts al xs sc z x here (seen_after bs xs) (scope_behind bs sc) (scope_longer bs sc) (found.sort n)
        (left_sort bs) (beside.all p found differ bs sc (enclosed z))
        (λ i g. conditions_pass bs (conditions bs b u) w (i ∷ ts) (rules.tried al) xs sc (enclosed z) (option_map (states.tried i) x) h.0 g)
        (found.sort (number_of b)) (beside.trees p found differ b (scope_behind bs sc) z) h.2
        (λ e g. trees_pass b (behind_all bs b u) w ts al (seen_after bs xs) (scope_behind bs sc) z e h.1 g) h.3
    shapes_pass (t.Shape.negation b) n pl v u w ts al xs sc z x h here =
        negation_goes F code notes w ts al xs sc z x here (found.sort n) (found.sort (number_of b)) h.1 h.2
        (beside.trees p found differ b sc (enclosed z))
        (λ i e g. trees_pass b u w (i ∷ ts) (rules.tried al) xs sc (enclosed z) e h.0 g)
    shapes_pass (t.Shape.option bs) n pl v u w ts al xs sc z x h here =
        option_goes F code notes w ts al xs sc z x here (seen_after bs xs) (scope_behind bs sc) (scope_longer bs sc) (found.sort n)
        (left_sort bs) (beside.all p found differ bs sc (enclosed z))
        (λ i g. conditions_pass bs u w (i ∷ ts) (rules.tried al) xs sc (enclosed z) (option_map (states.tried i) x) h.0 g) pl
        (left_some bs h.1)
    shapes_pass (t.Shape.logic bs) n pl v u w ts al xs sc z x h here =
        logic_goes F code notes w ts al xs sc z x here (seen_after bs xs) (scope_behind bs sc) (scope_longer bs sc) (found.sort n)
        (left_sort bs) (beside.all p found differ bs sc (enclosed z))
        (λ i g. conditions_pass bs u w (i ∷ ts) (rules.tried al) xs sc (enclosed z) (option_map (states.tried i) x) h.0 g) h.1
    shapes_pass (t.Shape.chained op.Or b d) n pl v u w ts al xs sc z x h here =
        or_goes F code notes w ts al xs sc z x here (found.sort n) (found.sort (number_of b)) (found.sort (number_of d)) h.2 h.3
        (beside.trees p found differ b sc (enclosed z)) (tree_begins p found differ d sc z)
        (λ i e g. trees_pass b (left b d u) w (i ∷ ts) (rules.tried al) xs sc (enclosed z) e h.0 g)
        (trees_pass d (right b d u) w ts al xs sc z x h.1 here)
    shapes_pass (t.Shape.for_form bs b) n pl v u w ts al xs sc z x h here =
        let list = h.2 in
        for_goes F code notes w ts al xs sc z x here (found.sort n) list h.3 pl
        (λ m. beside.clauses_of p found differ bs (hidden ∷ sc) (enclosed z) (λ e. body_beside b e z m (length sc)))
        (λ m. levels_pass bs (conditions bs b u) w ts al z (length sc) (found.sort n) xs (hidden ∷ sc) h.0
        (λ e. body_beside b e z m (length sc)) (λ e. body_goes F code notes w ts al z (length sc) (found.sort n) (seen_after bs xs) e list
        (found.sort (number_of b)) h.3 h.4 (beside.trees p found differ b e z)
        (λ y inside. trees_pass b (behind_all bs b u) w ts al (seen_after bs xs) e z y h.1 inside) m))
    -- operators
    shapes_pass (t.Shape.chained op.Div b d) n pl v u w ts al xs sc z x h here = elim h [ ]
    shapes_pass (t.Shape.chained op.And b d) n pl v u w ts al xs sc z x h here =
        let qd = found.sort (number_of d) in
        operators.and_goes p found differ code notes declared fine w ts al xs sc z x here (found.sort (number_of b)) (found.sort n)
        (beside.trees p found differ b sc z) (trees_pass b (left b d u) w ts al xs sc z x h.0 here)
        (λ e i. value_lands F code notes w ts al xs sc x qd (found.sort n) h.2
        (weaker F code notes w ts al (trees_pass d (right b d u) w ts al xs sc z e h.1
        (λ y k. let r = i y k in subst (Inside code notes F w ts al xs sc z) (sym r.1.1) (here r.0 r.1.0)))
        (λ y k. let r = i k.0 k.1.0 in (r.0, (r.1.0, k.1.1 ∙ ap (over (qd ∷ [])) r.1.1)))))
    shapes_pass (t.Shape.chained op.Add b d) n pl v u w ts al xs sc z x h here =
        part.two_operands p found differ code notes declared fine w ts al xs sc z x here b d
        (trees_pass b (left b d u) w ts al xs sc z x h.0 here)
        (λ e i. trees_pass d (right b d u) w ts al xs sc (up z) e h.1 i) (found.sort n)
        (λ e i. operators.sum_ends p found differ code notes declared fine w ts al xs sc z x here (found.sort (number_of b))
        (found.sort (number_of d)) (found.sort n) i (p.is_array n) pl h.2)
    shapes_pass (t.Shape.chained op.Sub b d) n pl v u w ts al xs sc z x h here =
        part.two_operands p found differ code notes declared fine w ts al xs sc z x here b d
        (trees_pass b (left b d u) w ts al xs sc z x h.0 here)
        (λ e i. trees_pass d (right b d u) w ts al xs sc (up z) e h.1 i) (found.sort n)
        (λ e i. operators.difference_ends p found differ code notes declared fine w ts al xs sc z x here (found.sort (number_of b))
        (found.sort (number_of d)) (found.sort n) i (p.is_array n) pl h.2)
    shapes_pass (t.Shape.chained op.Mul b d) n pl v u w ts al xs sc z x h here =
        part.two_operands p found differ code notes declared fine w ts al xs sc z x here b d
        (trees_pass b (left b d u) w ts al xs sc z x h.0 here)
        (λ e i. trees_pass d (right b d u) w ts al xs sc (up z) e h.1 i) (found.sort n)
        (λ e i. operators.product_ends p found differ code notes declared fine w ts al xs sc z x here (found.sort (number_of b))
        (found.sort (number_of d)) (found.sort n) i (p.is_array n) pl h.2)
    shapes_pass (t.Shape.compared y b d) n pl v u w ts al xs sc z x h here =
        part.two_operands p found differ code notes declared fine w ts al xs sc z x here b d
        (trees_pass b (left b d u) w ts al xs sc z x h.0 here)
        (λ e i. trees_pass d (right b d u) w ts al xs sc (up z) e h.1 i) (found.sort n)
        (λ e i. operators.comparison_ends p found differ code notes declared fine w ts al xs sc z x here (found.sort (number_of b))
        (found.sort (number_of d)) (found.sort n) i y h.2)
    shapes_pass (t.Shape.minus b) n pl v u w ts al xs sc z x h here =
        part.one_operand p found differ code notes declared fine w ts al xs sc z x here b (trees_pass b u w ts al xs sc z x h.0 here)
        (found.sort n)
        (λ e i. operators.minus_ends p found differ code notes declared fine w ts al xs sc z x here (found.sort (number_of b))
        (found.sort n) i pl h.1)
    shapes_pass (t.Shape.query b) n pl v u w ts al xs sc z x h here =
        part.one_operand p found differ code notes declared fine w ts al xs sc z x here b (trees_pass b u w ts al xs sc z x h.0 here)
        (found.sort n)
        (λ e i. operators.query_ends p found differ code notes declared fine w ts al xs sc z x here (found.sort (number_of b))
        (found.sort n) i h.1)
    -- members, calls, indices
    shapes_pass (t.Shape.member b y) n pl v u w ts al xs sc z x h here =
        member_goes p found differ code notes declared fine w ts al xs sc z x here (found.sort n) (enum_member p b y) h
        (λ k. part.one_operand p found differ code notes declared fine w ts al xs sc z x here b
        (trees_pass b u w ts al xs sc z x k.0 here) (found.sort n)
        (λ e g. member_ends p found differ code notes declared fine w ts al xs sc z x here (found.sort (number_of b)) (found.sort n) g
        (ref_at p n) y k.1))
    shapes_pass (t.Shape.index b bs) n pl v u w ts al xs sc z x h here =
        by_kind form.indexing (callee_of p b form.indexing pl) _ _ _ _ _ _ _ _ (callee_is p b form.indexing pl) h
        (λ f i k. part.named_call p found differ code notes declared fine w ts al xs sc z x here bs n f i
        (λ e qs g j. args_pass bs (rest_trees b bs u) w ts al xs sc (started f z) x k.0 e qs g j) k.1)
        (λ f i k. part.member_call p found differ code notes declared fine w ts al xs sc z x here b bs n f i
        (object_passes b (first_tree b bs u) w ts al xs sc z x k.0 here)
        (λ e qs g j. args_pass bs (rest_trees b bs u) w ts al xs sc (up z) x k.1 e qs g j) k.2)
        (λ f i k. part.index_passes p found differ code notes declared fine w ts al xs sc z x here b bs n f i
        (trees_pass b (first_tree b bs u) w ts al xs sc z x k.0.0 here) k.0.1
        (λ e qs g j. indices_pass (found.sort (number_of b)) bs (rest_trees b bs u) w ts al xs sc (up z) x k.1
        (indices_fit p found code notes k.0.1 (sorts_known p F fine.known bs)) e qs g j) k.2)
        (λ f i k. quotient_passes bs (rest_trees b bs u) w ts al xs sc z x here n f i k)
    shapes_pass (t.Shape.call b bs) n pl v u w ts al xs sc z x h here =
        by_kind (picked bs) (callee_of p b (picked bs) pl) _ _ _ _ _ _ _ _ (callee_is p b (picked bs) pl) h
        (λ f i k. part.named_call p found differ code notes declared fine w ts al xs sc z x here bs n f i
        (λ e qs g j. args_pass bs (rest_trees b bs u) w ts al xs sc (started f z) x k.0 e qs g j) k.1)
        (λ f i k. part.member_call p found differ code notes declared fine w ts al xs sc z x here b bs n f i
        (object_passes b (first_tree b bs u) w ts al xs sc z x k.0 here)
        (λ e qs g j. args_pass bs (rest_trees b bs u) w ts al xs sc (up z) x k.1 e qs g j) k.2)
        (λ f i k. part.one_operand p found differ code notes declared fine w ts al xs sc z x here b
        (trees_pass b (first_tree b bs u) w ts al xs sc z x k.0 here) (found.sort n)
        (λ e g. pick_ends p found differ code notes declared fine w ts al xs sc z x here (found.sort (number_of b)) (found.sort n) g f bs i
        k.1))
        (λ f i k. quotient_passes bs (rest_trees b bs u) w ts al xs sc z x here n f i k)
    -- literals and names
    shapes_pass (t.Shape.integer y) n pl v u w ts al xs sc z x h here =
        operators.integer_goes p found differ code notes declared fine w ts al xs sc z x here (found.sort n) y h
    shapes_pass (t.Shape.character y) n pl v u w ts al xs sc z x h here =
        operators.character_goes p found differ code notes declared fine w ts al xs sc z x here (found.sort n) y h
    shapes_pass (t.Shape.text bs) n pl v u w ts al xs sc z x h here =
        operators.text_goes p found differ code notes declared fine w ts al xs sc z x here (found.sort n) bs h
    shapes_pass (t.Shape.holes bs hs) n pl v u w ts al xs sc z x h here =
        let b2 = raised (one_if (is_text bs) 0) z in
        holes_goes p found code notes w ts al xs sc x z here (found.sort n) pl pl (bs ∷ pieces hs) bs hs
        (beside.holes p found differ hs sc b2) h.1
        (λ e i k. holes_pass hs u w ts al xs sc b2 x h.0 e (with_text bs []) i k)
    shapes_pass t.Shape.truth n pl v u w ts al xs sc z x h here =
        operators.truth_goes p found differ code notes declared fine w ts al xs sc z x here (found.sort n) h
    shapes_pass t.Shape.falsehood n pl v u w ts al xs sc z x h here =
        operators.falsehood_goes p found differ code notes declared fine w ts al xs sc z x here (found.sort n) h
    shapes_pass t.Shape.this n pl v u w ts al xs sc z x h here =
        operators.this_goes p found differ code notes declared fine w ts al xs sc z x here (found.sort n) h.0 h.1 h.2
    shapes_pass (t.Shape.name y) n pl v u w ts al xs sc z x h here =
        operators.name_goes p found differ code notes declared fine w ts al xs sc z x here (found.sort n) h.0 y
        (ref_at p n) h.1 h.2
    -- values that are made
    shapes_pass (t.Shape.tuple bs) n pl v u w ts al xs sc z x h here =
        operators.tuple_goes p found differ code notes declared fine w ts al xs sc z x here (found.sort n) (how_many bs) (sorts_at p F bs)
        (sym (sorts_many p F bs)) (beside.operands p found differ bs sc z)
        (args_pass bs u w ts al xs sc z x h.0 x [] here (over_itself code notes)) pl h.1
    shapes_pass (t.Shape.array bs) n pl v u w ts al xs sc z x h here =
        operators.array_goes p found differ code notes declared fine w ts al xs sc z x here (found.sort n) (how_many bs) (sorts_at p F bs)
        (sym (sorts_many p F bs)) (beside.operands p found differ bs sc z)
        (args_pass bs u w ts al xs sc z x h.0 x [] here (over_itself code notes)) pl h.1
    shapes_pass (t.Shape.mapping ps) n pl v u w ts al xs sc z x h here =
        mapping_goes p found code notes (found.sort n) ps pl (λ y e. steady_of code notes (here y e)) h.0.1
        (beside.entries p found differ (key_in (found.sort n)) ps sc z)
        (let k = map_fits p found code notes h.0.1 in
        pairs_pass ps u w ts al xs sc z x (key_in (found.sort n)) k.0 (map_keyed p found code notes h.0.1) h.0.0 k.1 x [] here
        (over_itself code notes))
    shapes_pass (t.Shape.instance y gs) n pl v u w ts al xs sc z x h here =
        instance_goes p found differ code notes fine w ts al xs z x (class_ref p (ref_at p n)) h.0 (length sc) pl pl gs
        (found.sort n) h.1 (classes n h.0 h.1) (defaults n h.0 h.1) h.3 (beside.givens p found differ gs sc z)
        (givens_pass gs u w ts al xs sc z (length sc) x h.2 [] x (given_sorts p F gs) refl
        (none_given F code notes w ts al xs z (length sc) x sc refl here))
    shapes_pass (t.Shape.event wr) n pl v u w ts al xs sc z x h here =
        operators.event_goes p found differ code notes declared fine w ts al xs sc z x here (found.sort n) h.0 pl h.1
    shapes_pass t.Shape.bare_event n pl v u w ts al xs sc z x h here =
        operators.event_goes p found differ code notes declared fine w ts al xs sc z x here (found.sort n) h.0 pl h.1
    -- loops and blocks
    shapes_pass (t.Shape.loop_form b) n pl v u w ts al xs sc z x h here =
        loop_goes F code notes w ts al xs sc z h.0 (found.sort n) (found.sort (number_of b)) h.2
        (beside.trees p found differ b sc (looped z)) (tree_begins p found differ b sc (looped z))
        (λ w2 e inside. trees_pass b u w2 ts (rules.looped h.0 al) xs sc (looped z) e h.1 inside) x here
    shapes_pass (t.Shape.block_form b) n pl v u w ts al xs sc z x h here =
        value_lands F code notes w ts al xs sc x (found.sort (number_of b)) (found.sort n) h.1 (trees_pass b u w ts al xs sc z x h.0 here)
    shapes_pass (t.Shape.cases b bs) n pl v u w ts al xs sc z x h here =
        case_goes p found differ code notes w ts al xs sc z (found.sort (number_of b)) (found.sort n) x here
        (beside.trees p found differ b sc z) (trees_pass b (first_tree b bs u) w ts al xs sc z x h.0 here)
        (arms_pass (number_of b) bs v (rest_trees b bs u) w ts al xs sc z n h.1)
    -- tasks
    shapes_pass (t.Shape.branch b) n pl v u w ts al xs sc z x h here =
        branch_goes F code notes w ts al xs sc z x here h.0 (found.sort n) (found.sort (number_of b)) h.2
        (beside.trees p found differ b sc fresh) (λ e i. trees_pass b u w [] (rules.armed al) xs sc fresh e h.1 i)
    shapes_pass (t.Shape.sync bs) n pl v u w ts al xs sc z x h here =
        sync_goes F code notes w ts al xs sc z x here h.0.0 (how_many bs) pl (arm_spots p differ bs sc) (sorts_at p F bs) (found.sort n)
        (two_or_more bs h.0.1) (arms_many p differ bs sc) (tasks_pass bs u w ts al xs sc z x here h.0.0 h.1) h.2
    shapes_pass (t.Shape.race bs) n pl v u w ts al xs sc z x h here =
        race_goes F code notes w ts al xs sc z x here h.0.0 (how_many bs) pl (arm_spots p differ bs sc) (sorts_at p F bs) (found.sort n)
        (two_or_more bs h.0.1) (arms_many p differ bs sc) (tasks_pass bs u w ts al xs sc z x here h.0.0 (each_trees (rules.armed al) xs
        (found.sort n) bs h.1)) 0 (each_in p found code notes (rules.armed al) xs (found.sort n) bs h.1)
    shapes_pass (t.Shape.rush bs) n pl v u w ts al xs sc z x h here =
        race_goes F code notes w ts al xs sc z x here h.0.0 (how_many bs) pl (arm_spots p differ bs sc) (sorts_at p F bs) (found.sort n)
        (two_or_more bs h.0.1) (arms_many p differ bs sc) (tasks_pass bs u w ts al xs sc z x here h.0.0 (each_trees (rules.armed al) xs
        (found.sort n) bs h.1)) 1 (each_in p found code notes (rules.armed al) xs (found.sort n) bs h.1)
    shapes_pass (t.Shape.spawn b) n pl v u w ts al xs sc z x h here = spawned_passes b u w ts al xs sc z x here n h
    shapes_pass (t.Shape.sleep d) n pl v u w ts al xs sc z x h here =
        operators.sleep_goes p found differ code notes declared fine w ts al xs sc z x here (found.sort n) d h.0 h.1
    shapes_pass t.Shape.sleep_forever n pl v u w ts al xs sc z x h here =
        operators.forever_goes p found differ code notes declared fine w ts al xs sc z x here (found.sort n) h.0 h.1
    -- ---- operands

    -- generators, arms of a `case` and patterns are no forms of their own
    shapes_pass y n pl v u w ts al xs sc z x h here = elim h [ ]

    -- ---- operands

    -- above other operands
    args_pass : (bs : Trees) → AllOf bs → (w : Way) (ts : List ℕ) (al : Allowed) (xs : Table) (sc : Scope) (z : Around)
        (x : Option State) → FineTrees p F al xs bs → (e : Option State) (qs : List Sort) → Here w ts al xs sc z e →
        If e (IsOver code notes qs x) →
        Going code notes w ts e (lower.args p differ bs sc z) (noting.args p found differ bs sc z) itself
        (IsOver code notes (turned (sorts_at p F bs) qs) x)
    args_pass no_trees u w ts al xs sc z x h e qs here above = no_operand_goes F code notes w ts al xs sc x qs above
    args_pass (more_trees b bs) u w ts al xs sc z x h e qs here above =
        operand_goes F code notes w ts al xs sc x z qs here above (found.sort (number_of b)) (fine.known.sort (number_of b))
        (beside.trees p found differ b sc z)
        (trees_pass b (first_tree b bs u) w ts al xs sc z e h.0 here)
        (λ v i k. args_pass bs (rest_trees b bs u) w ts al xs sc (up z) x h.1 v (found.sort (number_of b) ∷ qs) i k)

    indices_pass : (q : Sort) (bs : Trees) → AllOf bs → (w : Way) (ts : List ℕ) (al : Allowed) (xs : Table) (sc : Scope) (z : Around)
        (x : Option State) → FineTrees p F al xs bs → IndicesFit p found code notes q (sorts_at p F bs) → (e : Option State)
        (qs : List Sort) → Here w ts al xs sc z e → If e (IsOver code notes qs x) →
        Going code notes w ts e (lower.args p differ bs sc z) (noting.indices p found differ q bs sc z) itself
        (IsOver code notes (turned (noted_indices q (sorts_at p F bs)) qs) x)
    indices_pass q no_trees u w ts al xs sc z x h f e qs here above = no_operand_goes F code notes w ts al xs sc x qs above
    indices_pass q (more_trees b bs) u w ts al xs sc z x h f e qs here above =
        let r = index_in q (found.sort (number_of b)) in
        wide_operand_goes F code notes w ts al xs sc x z qs here above (found.sort (number_of b)) r f.1 f.0
        (beside.trees p found differ b sc z)
        (trees_pass b (first_tree b bs u) w ts al xs sc z e h.0 here)
        (λ v i k. indices_pass q bs (rest_trees b bs u) w ts al xs sc (up z) x h.1 f.2 v (r ∷ qs) i k)

    pairs_pass : (ps : t.Pairs) → Each (NodeStands p) (pairs_order ps) → (w : Way) (ts : List ℕ) (al : Allowed) (xs : Table) (sc : Scope)
        (z : Around) (x : Option State) (k q : Sort) → IsKnown k → FinePairs p F al xs ps → PairsFit p F k q ps → (e : Option State)
        (qs : List Sort) → Here w ts al xs sc z e → If e (IsOver code notes qs x) →
        Going code notes w ts e (lower.paired_args p differ ps sc z) (noting.paired_args p found differ k ps sc z) itself
        (IsOver code notes (turned (noted_pairs p F k ps) qs) x)
    pairs_pass t.Pairs.no_pairs u w ts al xs sc z x k q known h f e qs here above = no_operand_goes F code notes w ts al xs sc x qs above
    pairs_pass (t.Pairs.more_pairs b d ps) u w ts al xs sc z x k q known h f e qs here above =
        let v = each_first (NodeStands p) (post_order b ++ post_order d) (pairs_order ps) u in
        pair_goes F code notes w ts al xs sc x z qs here above (found.sort (number_of b)) k (found.sort (number_of d)) known
        (fine.known.sort (number_of d)) f.0
        (beside.trees p found differ b sc z) (beside.trees p found differ d sc (up z))
        (trees_pass b (left b d v) w ts al xs sc z e h.0 here) (λ y i. trees_pass d (right b d v) w ts al xs sc (up z) y h.1 i)
        (λ y i j. pairs_pass ps (each_rest (NodeStands p) (post_order b ++ post_order d) (pairs_order ps) u) w ts al xs sc (up (up z)) x k q
        known h.2 f.2 y (found.sort (number_of d) ∷ k ∷ qs) i j)

    holes_pass : (hs : Holes) → Each (NodeStands p) (holes_order hs) → (w : Way) (ts : List ℕ) (al : Allowed) (xs : Table) (sc : Scope)
        (z : Around) (x : Option State) → FineHoles p F al xs hs → (e : Option State) (qs : List Sort) → Here w ts al xs sc z e →
        If e (IsOver code notes qs x) →
        Going code notes w ts e (lower.holed p differ hs sc z) (noting.holed p found differ hs sc z) itself
        (IsOver code notes (turned (noted_holes p F hs) qs) x)
    holes_pass no_holes u w ts al xs sc z x h e qs here above = no_operand_goes F code notes w ts al xs sc x qs above
    holes_pass (more_holes b bs hs) u w ts al xs sc z x h e qs here above =
        hole_goes p found code notes w ts al xs sc x (found.sort (number_of b)) (fine.known.sort (number_of b)) bs (noted_holes p F hs) z qs
        here above (beside.trees p found differ b sc z)
        (trees_pass b (each_first (NodeStands p) (post_order b) (holes_order hs) u) w ts al xs sc z e h.0 here)
        (λ y i k. holes_pass hs (each_rest (NodeStands p) (post_order b) (holes_order hs) u) w ts al xs sc
        (raised (suc (one_if (is_text bs) 0)) z) x h.1 y (with_text bs (found.sort (number_of b) ∷ qs)) i k)

    -- values that an instance is given go into locals from l on
    givens_pass : (gs : Givens) → Each (NodeStands p) (givens_order gs) → (w : Way) (ts : List ℕ) (al : Allowed) (xs : Table) (sc : Scope)
        (z : Around) (l : ℕ) (x : Option State) → FineGivens p F al xs gs → (done : List Sort) (e : Option State) (all : List Sort) →
        turned (given_sorts p F gs) done ≡ turned all [] → If e (Given F code notes w ts al xs z l x done sc) →
        Going code notes w ts e (lower.given_args p differ gs sc z) (noting.given_args p found differ gs sc z) itself
        (Gave F code notes w ts al xs z l x all)
    givens_pass no_givens u w ts al xs sc z l x h done e all k i = no_given_goes F code notes w ts al xs z l x all
        (subst (λ zs. If e (Given F code notes w ts al xs z l x zs sc)) k i)
    givens_pass (more_givens y b gs) u w ts al xs sc z l x h done e all k i =
        given_goes F code notes w ts al xs z l x sc done (found.sort (number_of b)) i (beside.trees p found differ b sc z)
        (trees_pass b (each_first (NodeStands p) (post_order b) (givens_order gs) u) w ts al xs sc z e h.0 (λ d j. (i d j).inside))
        (λ v j. givens_pass gs (each_rest (NodeStands p) (post_order b) (givens_order gs) u) w ts al xs (hidden ∷ sc) z l x h.1
        (found.sort (number_of b) ∷ done) v all k j)

    -- what `set` writes to
    target_passes : (b : Tree) → AllStand b → (w : Way) (ts : List ℕ) (al : Allowed) (xs : Table) (sc : Scope) (z : Around)
        (x : Option State) → FineTarget p F al xs b → Settled p F al xs b → Here w ts al xs sc z x →
        TargetOf p found differ code notes declared fine w ts al xs sc z x b
    target_passes (tree i pl (t.Shape.name y)) u w ts al xs sc z x h f here =
        target_name p found differ code notes declared fine w ts al xs sc z x here i pl y f
    target_passes (tree i pl (t.Shape.member b y)) u w ts al xs sc z x h f here =
        target_member p found differ code notes declared fine w ts al xs sc z x i pl b y f
        (trees_pass b (inside (NodeStands p) i pl (t.Shape.member b y) u) w ts al xs sc z x h here)
    target_passes (tree i pl (t.Shape.index b bs)) u w ts al xs sc z x h f here =
        let v = inside (NodeStands p) i pl (t.Shape.index b bs) u in
        target_index p found differ code notes declared fine w ts al xs sc z x here i pl b bs f
        (beside.targets p found differ b (base_of p b) sc z)
        (target_passes b (first_tree b bs v) w ts al xs sc z x h.0 f.0 here)
        (λ e qs j k. indices_pass (found.sort (number_of b)) bs (rest_trees b bs v) w ts al xs sc (up (raised (target_operands b) z)) x h.1
        (indices_fit p found code notes f.1 (sorts_known p F fine.known bs)) e qs j k)
    target_passes (tree i pl y) u w ts al xs sc z x h f here = elim h [ ]

    -- ---- the clauses of a `for`

    clause_parts : (y : Shape) (n : ℕ) (pl : Place) → Each (NodeStands p) (parts y) → (w : Way) (ts : List ℕ)
        (al : Allowed) (z : Around) (list : ℕ) (given : Sort) (xs : Table) (sc : Scope) →
        (FineShape p F (rules.tried al) xs n pl y → (i : ℕ) (e : Option State) → Here w (i ∷ ts) (rules.tried al) xs sc (enclosed z) e →
        Value w (i ∷ ts) e (lower.piece p differ (tree n pl y) sc (enclosed z))
        (noting.walk p found differ (tree n pl y) sc (enclosed z)) (found.sort n)) →
        on_statement (statement_of_shape y pl) (FineShape p F (rules.tried al) xs n pl y)
        (λ d. FineInnerOf p F (rules.tried al) xs y × Fit (inner_sort_of p F y) (found.sort n) × Defines p F d n xs)
        (λ d. ⊥) (λ g. FineInnerOf p F (rules.tried al) xs y × Generates p F n xs (inner_sort_of p F y) g) →
        ClauseParts p found code notes w ts al z list given n xs sc (lower.piece p differ (tree n pl y) sc (enclosed z))
        (noting.walk p found differ (tree n pl y) sc (enclosed z)) (lower.inner_shape p differ y sc (enclosed z))
        (noting.inner_shape p found differ y sc (enclosed z)) (statement_of_shape y pl)
    clause_parts (t.Shape.definition y b) n pl u w ts al z list given xs sc whole h = (
      found.sort (number_of b),
      (λ i e inside. trees_pass b u w (i ∷ ts) (rules.tried al) xs sc (enclosed z) e h.0 inside),
      h.1,
      h.2,
      fine.known.sort n,
    )
    clause_parts (t.Shape.typed y wr b) n pl u w ts al z list given xs sc whole h = (
      found.sort (number_of b),
      (λ i e inside. trees_pass b (behind_type wr b u) w (i ∷ ts) (rules.tried al) xs sc (enclosed z) e h.0 inside),
      h.1,
      h.2,
      fine.known.sort n,
    )
    clause_parts (t.Shape.variable y wr b) n pl u w ts al z list given xs sc whole h = (
      found.sort (number_of b),
      (λ i e inside. trees_pass b (behind_type wr b u) w (i ∷ ts) (rules.tried al) xs sc (enclosed z) e h.0 inside),
      h.1,
      h.2,
      fine.known.sort n,
    )
    clause_parts (t.Shape.defer b) n pl u w ts al z list given xs sc whole h = h
    clause_parts (t.Shape.elements y b) n pl u w ts al z list given xs sc whole h = (
      _,
      found.sort (number_of b),
      of_domain,
      (λ i e inside. trees_pass b u w (i ∷ ts) (rules.tried al) xs sc (enclosed z) e h.0 inside),
      h.1,
    )
    clause_parts (t.Shape.entries k y b) n pl u w ts al z list given xs sc whole h = (
      _,
      found.sort (number_of b),
      of_keyed,
      (λ i e inside. trees_pass b u w (i ∷ ts) (rules.tried al) xs sc (enclosed z) e h.0 inside),
      h.1,
    )
    clause_parts (t.Shape.range y b d) n pl u w ts al z list given xs sc whole h = (
      _,
      _,
      of_ends,
      ends_part p found code notes w ts al z list given xs sc (found.sort (number_of b)) (found.sort (number_of d))
          (fine.known.sort (number_of b))
          (beside.trees p found differ b sc (enclosed z))
          (λ i e inside. trees_pass b (left b d u) w (i ∷ ts) (rules.tried al) xs sc (enclosed z) e h.0.0 inside)
          (λ i e inside. trees_pass d (right b d u) w (i ∷ ts) (rules.tried al) xs sc (up (enclosed z)) e h.0.1 inside),
      h.1,
    )
    clause_parts y n pl u w ts al z list given xs sc whole h = (found.sort n, whole h)

    levels_pass : (bs : Trees) → AllOf bs → (w : Way) (ts : List ℕ) (al : Allowed) (z : Around) (list : ℕ) (given : Sort) (xs : Table)
        (sc : Scope) → FineClauses p F (rules.tried al) xs bs → {body : Scope → Maker} {walked : Scope → Walk} →
        ((e : Scope) → Beside (body e) (walked e)) →
        ((e : Scope) → LevelGoes F code notes w ts al z list given (seen_after bs xs) e (body e) (walked e)) →
        LevelGoes F code notes w ts al z list given xs sc (lower.levels p differ bs sc (enclosed z) body)
        (noting.levels p found differ bs sc (enclosed z) walked)
    levels_pass no_trees u w ts al z list given xs sc h b k = k sc
    levels_pass (more_trees (tree n pl y) bs) u w ts al z list given xs sc h b k =
        let v = first_tree (tree n pl y) bs u in
        clause_goes p found code notes w ts al z list given differ n xs sc (beside.trees p found differ (tree n pl y) sc (enclosed z))
        (beside.inners p found differ (tree n pl y) sc (enclosed z)) (λ e. beside.clauses_of p found differ bs e (enclosed z) b)
        (statement_of_shape y pl)
        (clause_parts y n pl (inside (NodeStands p) n pl y v) w ts al z list given xs sc
        (λ k i e g. tree_goes code notes (found.sort n) (shapes_pass y n pl (own (NodeStands p) n pl y v) (inside (NodeStands p) n pl y v) w
        (i ∷ ts) (rules.tried al) xs sc (enclosed z) e k g)) h.0)
        (λ e. levels_pass bs (rest_trees (tree n pl y) bs u) w ts al z list given (stated_behind (statement_of_shape y pl) n xs) e h.1 b k)

    -- ---- the arms of a `case`, and of a group

    arms_pass : (k : ℕ) (bs : Trees) → ArmsStand p bs → AllOf bs → (w : Way) (ts : List ℕ) (al : Allowed) (xs : Table) (sc : Scope)
        (z : Around) (n : ℕ) → FineArms p F al xs (found.sort k) (found.sort n) bs →
        Chooses p found differ code notes w ts al xs sc z (found.sort k) (found.sort n)
        (lower.arms p differ bs (length sc) (hidden ∷ sc) z) (noting.arms p found differ bs (length sc) (hidden ∷ sc) z)
    arms_pass k no_trees v u w ts al xs sc z n h = elim h [ ]
    arms_pass k (more_trees (tree m l (t.Shape.arm b d)) no_trees) v u w ts al xs sc z n h =
        let a = inside (NodeStands p) m l (t.Shape.arm b d) (first_tree (tree m l (t.Shape.arm b d)) no_trees u) in
        arm_chooses p found differ code notes w ts al xs sc z (found.sort k) (found.sort n) (found.sort (number_of d)) h.0.1
        (beside.trees p found differ d (hidden ∷ sc) z)
        (λ e i. trees_pass d (right b d a) w ts al xs (hidden ∷ sc) z e h.0.0 i) b true (fine.known.sort k) v.0 (λ e. absurd (cc))
    arms_pass k (more_trees (tree m l (t.Shape.arm b d)) (more_trees f bs)) v u w ts al xs sc z n h =
        let a = inside (NodeStands p) m l (t.Shape.arm b d) (first_tree (tree m l (t.Shape.arm b d)) (more_trees f bs) u) in
        arm_chooses p found differ code notes w ts al xs sc z (found.sort k) (found.sort n) (found.sort (number_of d)) h.0.1
        (beside.trees p found differ d (hidden ∷ sc) z)
        (λ e i. trees_pass d (right b d a) w ts al xs (hidden ∷ sc) z e h.0.0 i) b false (fine.known.sort k) v.0
        (λ i. arms_pass k (more_trees f bs) v.1 (rest_trees (tree m l (t.Shape.arm b d)) (more_trees f bs) u) w ts al xs sc z n h.1)
    arms_pass k (more_trees (tree m l y) bs) v u w ts al xs sc z n h = elim h.0 [ ]

    tasks_pass : (bs : Trees) → AllOf bs → (w : Way) (ts : List ℕ) (al : Allowed) (xs : Table) (sc : Scope) (z : Around)
        (x : Option State) (here : Here w ts al xs sc z x) → al.waits ≡ true → FineTrees p F (rules.armed al) xs bs →
        Arming code notes w x (lower.task_arms p differ bs sc) (noting.task_arms p found differ bs sc) (arm_spots p differ bs sc)
        (sorts_at p F bs)
    tasks_pass no_trees u w ts al xs sc z x here waits h = no_arms code notes
    tasks_pass (more_trees b bs) u w ts al xs sc z x here waits h =
        task_goes F code notes w ts al xs sc z x here waits (found.sort (number_of b)) (beside.trees p found differ b sc fresh)
        (λ e i. trees_pass b (first_tree b bs u) w [] (rules.armed al) xs sc fresh e h.0 i)
        (tasks_pass bs (rest_trees b bs u) w ts al xs sc z x here waits h.1)

    -- ---- calls

    object_passes : (b : Tree) → AllStand b → (w : Way) (ts : List ℕ) (al : Allowed) (xs : Table) (sc : Scope) (z : Around)
        (x : Option State) → FineObject p F al xs b → Here w ts al xs sc z x →
        Value w ts x (lower.inner p differ b sc z) (noting.inner p found differ b sc z) (object_sort p F b)
    object_passes (tree n pl (t.Shape.member b y)) u w ts al xs sc z x h here =
        trees_pass b (inside (NodeStands p) n pl (t.Shape.member b y) u) w ts al xs sc z x h here
    object_passes (tree n pl y) u w ts al xs sc z x h here = elim h [ ]

    quotient_passes : (bs : Trees) → AllOf bs → (w : Way) (ts : List ℕ) (al : Allowed) (xs : Table) (sc : Scope) (z : Around)
        (x : Option State) → Here w ts al xs sc z x → (n : ℕ) (f : Form) → IsOfQuotient f → FineQuotient p F al xs n f bs →
        FormGoes w ts x (code_then (lower.quotient p differ bs sc z) (apply.finish f 2 true))
        (walk_then (noting.quotient p found differ bs sc z) (walks.finish f 2 true)) (found.sort n)
    quotient_passes no_trees u w ts al xs sc z x here n f i h = elim h [ ]
    quotient_passes (more_trees (tree m l (t.Shape.chained y b d)) bs) u w ts al xs sc z x here n f i h =
        let v = inside (NodeStands p) m l (t.Shape.chained y b d) (first_tree (tree m l (t.Shape.chained y b d)) bs u) in
        let qb = found.sort (number_of b) in
        let qd = found.sort (number_of d) in
        then_goes code notes (counted.both (beside.trees p found differ b sc z) (beside.trees p found differ d sc (up z)))
        (then_goes code notes (beside.trees p found differ b sc z) (trees_pass b (left b d v) w ts al xs sc z x h.0 here) (λ e j.
        value_over_goes w ts al xs sc x qd (qb ∷ []) (value_over F code notes w ts al xs sc x qb [] (over_itself code notes) j)
        (trees_pass d (right b d v) w ts al xs sc (up z) e h.1
        (value_here F code notes w ts al xs sc x qb z (fine.known.sort (number_of b)) here j))))
        (λ e above. quotient_ends p found differ code notes declared fine w ts al xs sc z x here qb qd (found.sort n) above f i h.2)
    quotient_passes (more_trees (tree m l y) bs) u w ts al xs sc z x here n f i h = elim h [ ]

    -- the call that a `spawn` starts
    spawned_passes : (b : Tree) → AllStand b → (w : Way) (ts : List ℕ) (al : Allowed) (xs : Table) (sc : Scope) (z : Around)
        (x : Option State) → Here w ts al xs sc z x → (n : ℕ) → FineSpawned p F al xs n b →
        FormGoes w ts x (lower.spawned p differ b sc z) (noting.spawned p found differ b sc z) (found.sort n)
    spawned_passes (tree m pl (t.Shape.call b bs)) u w ts al xs sc z x here n h =
        let v = inside (NodeStands p) m pl (t.Shape.call b bs) u in
        let none = form.picking None in
        by_kind none (spawned_callee (callee_of p b none pl)) _ _ _ _ _ _ _ _
        (spawned_is none (callee_of p b none pl) (callee_is p b none pl)) h
        (λ f i k. part.named_call p found differ code notes declared fine w ts al xs sc z x here bs n f i
        (λ e qs g j. args_pass bs (rest_trees b bs v) w ts al xs sc (started f z) x k.0 e qs g j) k.1)
        (λ f i k. part.member_call p found differ code notes declared fine w ts al xs sc z x here b bs n f i
        (object_passes b (first_tree b bs v) w ts al xs sc z x k.0 here)
        (λ e qs g j. args_pass bs (rest_trees b bs v) w ts al xs sc (up z) x k.1 e qs g j) k.2)
        (λ f i k. elim k [ ]) (λ f i k. elim k [ ])
    spawned_passes (tree m pl y) u w ts al xs sc z x here n h = elim h [ ]

    -- ---- statements

    stated_passes : (b : Tree) → AllStand b → (may_defer : Bool) (w : Way) (ts : List ℕ) (al : Allowed) (xs : Table) (sc : Scope)
        (z : Around) (x : Option State) → Here w ts al xs sc z x →
        on_statement (statement_of b) (Fine p F al xs b)
        (λ y. FineInner p F al xs b × Fit (inner_sort p F b) (found.sort (number_of b)) × Defines p F y (number_of b) xs)
        (λ d. (may_defer ≡ true) × FineInner p F (rules.deferred al) xs b × Fit s.unit (found.sort (number_of b))) (λ y. ⊥) →
        Going code notes w ts x
        (lower.stated p differ (statement_of b) sc (lower.piece p differ b sc z) (lower.inner p differ b sc z))
        (noting.stated p found differ (statement_of b) (found.sort (number_of b)) sc (noting.walk p found differ b sc z)
        (noting.inner p found differ b sc z)) itself
        (Next F code notes w ts al (one_deferred (statement_of b)) (found.sort (number_of b)) (seen_behind b xs)
        (scope_stated (statement_of b) sc) (around_stated p differ (statement_of b) z) x)
    stated_passes (tree n pl y) u m w ts al xs sc z x here h =
        states_go F code notes w ts al xs sc z x here p n (part_sort y) (lower.piece p differ (tree n pl y) sc z)
        (lower.inner_shape p differ y sc z) (noting.walk p found differ (tree n pl y) sc z) (noting.inner_shape p found differ y sc z)
        found differ (fine.known.sort n) (beside.inner_shapes p found differ y sc z) (inner_shape_begins p found differ y sc z)
        (statement_of_shape y pl)
        (statement_parts y n pl (inside (NodeStands p) n pl y u) m w ts al xs sc z x here
        (λ k. tree_goes code notes (found.sort n) (shapes_pass y n pl (own (NodeStands p) n pl y u) (inside (NodeStands p) n pl y u) w ts al
        xs sc z x k here)) h)

    statement_parts : (y : Shape) (n : ℕ) (pl : Place) → Each (NodeStands p) (parts y) → (may_defer : Bool) (w : Way) (ts : List ℕ)
        (al : Allowed) (xs : Table) (sc : Scope) (z : Around) (x : Option State) (here : Here w ts al xs sc z x) →
        (FineShape p F al xs n pl y →
        Value w ts x (lower.piece p differ (tree n pl y) sc z) (noting.walk p found differ (tree n pl y) sc z) (found.sort n)) →
        on_statement (statement_of_shape y pl) (FineShape p F al xs n pl y)
        (λ d. FineInnerOf p F al xs y × Fit (inner_sort_of p F y) (found.sort n) × Defines p F d n xs)
        (λ d. (may_defer ≡ true) × FineInnerOf p F (rules.deferred al) xs y × Fit s.unit (found.sort n)) (λ d. ⊥) →
        Parts F code notes w ts al xs sc z x here p n (part_sort y) (lower.piece p differ (tree n pl y) sc z)
        (lower.inner_shape p differ y sc z) (noting.walk p found differ (tree n pl y) sc z) (noting.inner_shape p found differ y sc z)
        (statement_of_shape y pl)
    statement_parts (t.Shape.definition y b) n pl u m w ts al xs sc z x here k h =
        (trees_pass b u w ts al xs sc z x h.0 here, h.1, h.2)
    statement_parts (t.Shape.typed y wr b) n pl u m w ts al xs sc z x here k h =
        (trees_pass b (behind_type wr b u) w ts al xs sc z x h.0 here, h.1, h.2)
    statement_parts (t.Shape.variable y wr b) n pl u m w ts al xs sc z x here k h =
        (trees_pass b (behind_type wr b u) w ts al xs sc z x h.0 here, h.1, h.2)
    statement_parts (t.Shape.defer b) n pl u m w ts al xs sc z x here k h =
        (λ e i. trees_pass b u w ts (rules.deferred al) xs sc (enclosed z) e h.1 i, h.2)
    statement_parts (t.Shape.elements y b) n pl u m w ts al xs sc z x here k h = h
    statement_parts (t.Shape.entries i y b) n pl u m w ts al xs sc z x here k h = h
    statement_parts (t.Shape.range y b d) n pl u m w ts al xs sc z x here k h = h
    statement_parts y n pl u m w ts al xs sc z x here k h = k h

    more_pass : (bs : Trees) → AllOf bs → (may_defer : Bool) (w : Way) (ts : List ℕ) (al : Allowed) (xs : Table) (sc : Scope) (z : Around)
        (x : Option State) (k : ℕ) (q : Sort) (e : Option State) → FineAll p F may_defer al xs bs →
        If e (Next F code notes w ts al k q xs sc z x) →
        Going code notes w ts e (lower.more_statements p differ bs sc z) (noting.more_statements p found differ bs sc z) itself
        (Next F code notes w ts al (deferred_in k bs) (last_sort p F q bs) (seen_after bs xs) (scope_behind bs sc)
        (around_behind p differ bs z) x)
    more_pass no_trees u m w ts al xs sc z x k q e h above = no_more F code notes w ts al above
    more_pass (more_trees b bs) u m w ts al xs sc z x k q e h above =
        let stated = statement_of b in
        next_goes F code notes w ts al stated q (found.sort (number_of b)) (seen_behind b xs) (scope_stated stated sc)
        (around_stated p differ stated z) (stated_beside b sc z) above
        (λ y here. stated_passes b (first_tree b bs u) m w ts al xs sc z y here h.0)
        (λ y i. more_pass bs (rest_trees b bs u) m w ts al (seen_behind b xs) (scope_stated stated sc) (around_stated p differ stated z) x
        (deferred_by stated k) (found.sort (number_of b)) y h.1 i)

    -- a block: what was deferred in it has run behind it
    block_passes : (bs : Trees) → AllOf bs → (w : Way) (ts : List ℕ) (al : Allowed) (xs : Table) (sc : Scope) (z : Around)
        (x : Option State) → FineAll p F true al xs bs → Here w ts al xs sc z x →
        Going code notes w ts x (lower.statements p differ bs sc z) (noting.statements p found differ bs sc z) itself
        (Settles code notes ts (left_sort bs) x)
    block_passes no_trees u w ts al xs sc z x h here = weaker F code notes w ts al
        (part.unit_passes p found differ code notes declared fine w ts al xs sc z x here)
        (λ y k. value_settles code notes ts s.unit (λ v e. steady_of code notes (here v e)) y k)
    block_passes (more_trees b bs) u w ts al xs sc z x h here =
        let stated = statement_of b in
        let z2 = around_stated p differ stated z in
        then_goes code notes (stated_beside b sc z) (stated_passes b (first_tree b bs u) true w ts al xs sc z x here h.0) (λ y i.
        then_goes code notes (beside.more p found differ bs (scope_stated stated sc) z2)
        (more_pass bs (rest_trees b bs u) true w ts al (seen_behind b xs) (scope_stated stated sc) z2 x (one_deferred stated)
        (found.sort (number_of b)) y h.1 i) (λ e k.
        leaves_go F code notes w ts al xs sc z x here (deferred_in (one_deferred stated) bs) (last_sort p F (found.sort (number_of b)) bs)
        (seen_after bs (seen_behind b xs)) (scope_behind bs (scope_stated stated sc)) (around_behind p differ bs z2)
        (last_known (found.sort (number_of b)) (fine.known.sort (number_of b)) bs) (behind_base p differ (more_trees b bs) z)
        (deferred_count b bs z) k (any_defer (more_trees b bs)) (λ f. no_block b bs f)))

    -- conditions, which defer none
    conditions_pass : (bs : Trees) → AllOf bs → (w : Way) (ts : List ℕ) (al : Allowed) (xs : Table) (sc : Scope) (z : Around)
        (x : Option State) → FineAll p F false al xs bs → Here w ts al xs sc z x →
        Going code notes w ts x (lower.statements p differ bs sc z) (noting.statements p found differ bs sc z) itself
        (Next F code notes w ts al 0 (left_sort bs) (seen_after bs xs) (scope_behind bs sc) z x)
    conditions_pass no_trees u w ts al xs sc z x h here = plain_goes F code notes w ts al xs sc z x here s.unit
        (part.unit_passes p found differ code notes declared fine w ts al xs sc z x here)
    conditions_pass (more_trees b bs) u w ts al xs sc z x h here =
        let stated = statement_of b in
        let z2 = around_stated p differ stated z in
        let none = conditions_none p differ F al xs (more_trees b bs) h in
        then_goes code notes (stated_beside b sc z) (stated_passes b (first_tree b bs u) false w ts al xs sc z x here h.0) (λ y i.
        then_goes code notes (beside.more p found differ bs (scope_stated stated sc) z2)
        (more_pass bs (rest_trees b bs u) false w ts al (seen_behind b xs) (scope_stated stated sc) z2 x (one_deferred stated)
        (found.sort (number_of b)) y h.1 i) (λ e k.
        none_leaves z.defers (any_defer (more_trees b bs)) none (λ g r.
        subst (λ a. Next F code notes w ts al 0 (last_sort p F (found.sort (number_of b)) bs) (seen_after bs (seen_behind b xs))
        (scope_behind bs (scope_stated stated sc)) a x g) (none_around p differ (more_trees b bs) none z)
        (subst (λ j. Next F code notes w ts al j (last_sort p F (found.sort (number_of b)) bs) (seen_after bs (seen_behind b xs))
        (scope_behind bs (scope_stated stated sc)) (around_behind p differ bs z2) x g) (no_block b bs none) (k g r)))))
