-- How often a number is live or still to come, through every form, start and end.
use Rattle.std.proofs.Common.{refl, ◌≡◌, ◌+◌, ◌≤◌, ℕ, List, [], ◌∷◌, ◌++◌, Option, Some, None, Bool, true, false, cond, sym, subst}
use Rattle.verse_base.specs.declared.places.Place.{Place}
use Rattle.verse_tree.specs.Tree.{Bytes, Tree, tree, Shape, Trees, no_trees, more_trees, Holes, no_holes, more_holes, Givens, no_givens}
use Rattle.verse_tree.specs.Tree.{more_givens}
use Rattle.verse_tree.specs.Tree as t
use Rattle.verse_tree.specs.declared.exprs.Operator.TheVariants as op
use Rattle.verse_tree.specs.declared.tables.Ref.{Ref}
use Rattle.verse_tree.specs.declared.tables.Ref.TheVariants as ref
use Rattle.verse_value.specs.Val.{Val, unit}
use Rattle.verse_value.specs.Operations.{tuple_of}
use Rattle.verse_meaning_state.specs.State.{State}
use Rattle.verse_meaning_state.specs.Waits.{never, after}
use Rattle.verse_meaning_state.specs.Turns.{Kind, sync, race, rush}
use Rattle.verse_meaning_state.specs.Effects.{still}
use Rattle.verse_meaning.specs.Programs.{Program, ref_at}
use Rattle.verse_meaning.specs.Residuals as form
use Rattle.verse_meaning.specs.Residuals.{Env, Form, Generator, Values, Role, part, body, root, Residual, arms, Scopes, none, Arms}
use Rattle.verse_meaning.specs.Residuals.{no_arms, gave, runs, arms_leaves, behind_leaves, leaves}
use Rattle.verse_meaning.specs.Outcomes.{World, set_behind, Outcome, value, failed, returned, broke, halted, rests, TaskOutcome, ends}
use Rattle.verse_meaning.specs.Outcomes.{Went, went, quits, on_went_task, finished, not_given, all_gave, first_gave, with_arm, leave_all}
use Rattle.verse_meaning.specs.Outcomes.{on_went, told}
use Rattle.verse_meaning.specs.Forms.{Deeper, look, this_of, values_of}
use Rattle.verse_meaning.specs.Evaluating.{Statement, plain, defines, defers, generates, statement_of, Callee, alone, of_object, of_value}
use Rattle.verse_meaning.specs.Evaluating.{of_quotient, no_callee, spawned_callee, mode_of, on_bool, callee_of, base_of, enum_member}
use Rattle.verse_meaning.specs.Evaluating.{picked, none_left, class_ref, pattern_fits, cancel_behind, cancel_arms, scope_ended}
use Rattle.verse_meaning.specs.Evaluating.{scope_returned, scope_end, or_stands, settled, arm_gave, begins_scope, stated, claused}
use Rattle.verse_meaning.specs.Evaluating.{generates_from, levelled, by_callee, named, member_form, membered, ev, ev_shape, statements}
use Rattle.verse_meaning.specs.Evaluating.{inner, inner_shape, all_args, holed, paired_args, given_args, quotient, quotient_tree}
use Rattle.verse_meaning.specs.Evaluating.{quotient_shape, targets, targets_shape, indices, clauses, level, chosen, arm_of, arm_of_shape}
use Rattle.verse_meaning.specs.Evaluating.{started, spawned, spawned_shape}
use Rattle.verse_meaning.specs.Runs.{forest_leaves}
use Rattle.verse_meaning.specs.Laws.{KeepsWent}
use Rattle.verse_meaning.specs.RunLaws.{count, to_come}
use Rattle.verse_meaning.proofs.NumberingForms.{DeeperFits, apply_fits, defined_fits, read_bound_fits, read_slot_fits}
use Rattle.verse_meaning.proofs.Forms.{DeeperKeeps, added_memory, still_memory}
use Rattle.verse_meaning.proofs.Numbering.{Fits, FitsTask, OutcomeFits, TaskFits, armed_out, attempted_fits, branch_fits, closing_fits}
use Rattle.verse_meaning.proofs.Numbering.{count_behind, denied_fits, gave_count, kept_stock, known_fits, left_stock, on_went_fits}
use Rattle.verse_meaning.proofs.Numbering.{outside_fits, runs_count, spends_fits, spends_out, stock, suspended_fits, there_fits}
use Rattle.verse_meaning.proofs.Numbering.{told_fits, valued_fits, KeepsLeaves}
use Rattle.verse_meaning.proofs.Evaluating.{arms_keep, behind_keep, clauses_keep, ev_keeps, statements_keep}
use native.Mathlib.Omega.{arith}

module _ (i : ℕ) (p : Program) (k : Deeper) (keeps : DeeperKeeps k) (d : DeeperFits i k) where
  -- the end of a scope
  ended_stock : (q : Role) (v : Val) (x : World) (outer : Scopes) → stock i (finished q v (set_behind x outer)) ≡
      count i (behind_leaves outer []) + (count i (forest_leaves x.tasks) + to_come i x.state)
  ended_stock part v x outer = refl
  ended_stock body v x outer = refl
  ended_stock (root None) v x outer = refl
  ended_stock (root (Some n)) v x outer = refl

  outer_stock : (c b o x y : ℕ) → (c + o) + (x + y) ≤ b → c + (o + y) ≤ b
  outer_stock c b o x y h = omega (arith, h)

  ended_went : (c b : ℕ) (q : Role) (outer : Scopes) (v : Val) (u : World) (x : Went) →
      (c + count i (behind_leaves outer [])) + stock i u ≤ b → KeepsWent u x →
      TaskFits i c b (on_went_task x (λ x. ends v (finished q v (set_behind x outer))))
  unfolding on_went_task
  ended_went c b q outer v u (went x) h a = subst (λ y. c + y ≤ b) (sym (ended_stock q v x outer)) (outer_stock c b (count i
      (behind_leaves outer [])) (count i (behind_leaves x.behind [])) _ (subst (λ y. (c + count i (behind_leaves outer [])) + y ≤ b) (sym
      (kept_stock i u x a)) h))
  ended_went c b q outer v u (quits x) h a = tt

  ended_fits : (c b : ℕ) (q : Role) (outer : Scopes) (v : Val) (u : World) → (c + count i (behind_leaves outer [])) + stock i u ≤ b →
      TaskFits i c b (scope_ended p k q outer v u)
  ended_fits c b q outer v u h = ended_went c b q outer v u (cancel_behind p k u.behind u) h (behind_keep p k keeps u.behind u)

  returned_fits : (c b : ℕ) (q : Role) (outer : Scopes) (v : Val) (u : World) → (c + count i (behind_leaves outer [])) + stock i u ≤ b →
      TaskFits i c b (scope_returned p k q outer v u)
  returned_fits c b part outer v u h = tt
  returned_fits c b body outer v u h = ended_fits c b body outer v u h
  returned_fits c b (root entry) outer v u h = ended_fits c b (root entry) outer v u h

  not_given_fits : (c b : ℕ) (q : Role) (t : State) → TaskFits i c b (not_given q t)
  not_given_fits c b part t = tt
  not_given_fits c b body t = tt
  not_given_fits c b (root entry) t = tt

  pub scope_out : (c b : ℕ) (q : Role) (outer : Scopes) (o : Outcome) → OutcomeFits i (c + count i (behind_leaves outer [])) b o →
      TaskFits i c b (scope_end p k q outer o)
  unfolding scope_end
  scope_out c b q outer (value e v u) a = ended_fits c b q outer v u a
  scope_out c b q outer (failed t) a = not_given_fits c b q t
  scope_out c b q outer (returned v u) a = returned_fits c b q outer v u a
  scope_out c b q outer (broke u) a = tt
  scope_out c b q outer (halted h) a = tt
  scope_out c b q outer (rests r u) a = omega (arith, a, count_behind i u.behind (leaves r))

  fresh_scope : (c b o x : ℕ) → c + (o + x) ≤ b → (c + o) + (0 + x) ≤ b
  fresh_scope c b o x h = omega (arith, h)

  -- a scope begins with nothing in its background
  pub scope_fits : (q : Role) (w : World) (o : Outcome) → Fits i (set_behind w none) o → FitsTask i w (scope_end p k q w.behind o)
  scope_fits q w o a c b h = scope_out c b q w.behind o (a (c + count i (behind_leaves w.behind [])) b (fresh_scope c b (count i
      (behind_leaves w.behind [])) _ h))

  settled_all : (c b : ℕ) (pl : Place) (e : Env) (gs : Arms) (w : World) (x : Option (List Val)) →
      c + (count i (arms_leaves gs) + stock i w) ≤ b →
      OutcomeFits i c b (or_stands p k x (rests (arms sync pl e gs) w) (λ vs. told (still (tuple_of vs) w.state) pl e w))
  unfolding or_stands
  settled_all c b pl e gs w None h = h
  settled_all c b pl e gs w (Some vs) h = told_fits i w _ pl e (still_memory w _) c b (omega (arith, h))

  settled_race : (c b : ℕ) (pl : Place) (e : Env) (gs : Arms) (w : World) (x : Option Val) →
      c + (count i (arms_leaves gs) + stock i w) ≤ b →
      OutcomeFits i c b (or_stands p k x (rests (arms race pl e gs) w) (λ v. on_went (cancel_arms p k gs w) (λ w. value e v w)))
  unfolding or_stands
  settled_race c b pl e gs w None h = h
  settled_race c b pl e gs w (Some v) h = on_went_fits i w (cancel_arms p k gs w) _ (arms_keep p k keeps gs w) (λ u c b h. h) c b (omega
      (arith, h))

  settled_rush : (c b : ℕ) (pl : Place) (e : Env) (gs : Arms) (w : World) (x : Option Val) →
      c + (count i (arms_leaves gs) + stock i w) ≤ b →
      OutcomeFits i c b (or_stands p k x (rests (arms rush pl e gs) w) (λ v. value e v (leave_all gs w)))
  unfolding or_stands
  settled_rush c b pl e gs w None h = h
  settled_rush c b pl e gs w (Some v) h = subst (λ y. c + y ≤ b) (sym (left_stock i gs w)) h

  pub settled_fits : (kd : Kind) (pl : Place) (e : Env) (gs : Arms) (w : World) (c b : ℕ) →
      c + (count i (arms_leaves gs) + stock i w) ≤ b → OutcomeFits i c b (settled p k kd pl e gs w)
  unfolding settled
  settled_fits sync pl e gs w c b h = settled_all c b pl e gs w (all_gave gs) h
  settled_fits race pl e gs w c b h = settled_race c b pl e gs w (first_gave gs) h
  settled_fits rush pl e gs w c b h = settled_rush c b pl e gs w (first_gave gs) h

  gave_fits : (kd : Kind) (pl : Place) (e : Env) (gs : Arms) (w : World) (go : World → Outcome) (c b : ℕ) →
      c + (count i (arms_leaves gs) + stock i w) ≤ b → OutcomeFits i c b (go w) → OutcomeFits i c b (arm_gave p k kd pl e gs w go)
  unfolding arm_gave
  gave_fits sync pl e gs w go c b h a = a
  gave_fits race pl e gs w go c b h a = settled_fits race pl e gs w c b h
  gave_fits rush pl e gs w go c b h a = a

  begins_out : (c c' b : ℕ) (w : World) (run : World → Outcome) (go : TaskOutcome → Outcome) → c + stock i w ≤ b → ((u : World) →
      Fits i u (run u)) → ((o : TaskOutcome) → TaskFits i c b o → OutcomeFits i c' b (go o)) → OutcomeFits i c' b (begins_scope p k w run
      go)
  unfolding begins_scope
  begins_out c c' b w run go h f g = spends_out i c' b w _ (λ u q. g (scope_end p k part u.behind (run (set_behind u none))) (scope_fits
      part u (run (set_behind u none)) (f (set_behind u none)) c b (subst (λ y. c + y ≤ b) (sym q) h)))

  begins_fits : (w : World) (run : World → Outcome) (go : TaskOutcome → Outcome) → ((u : World) → Fits i u (run u)) →
      ((u : World) (o : TaskOutcome) → FitsTask i u o → Fits i u (go o)) → Fits i w (begins_scope p k w run go)
  unfolding begins_scope
  begins_fits w run go f g = spends_fits i w _ (λ u. g u (scope_end p k part u.behind (run (set_behind u none))) (scope_fits part u (run
      (set_behind u none)) (f (set_behind u none))))

  stated_fits : (x : Statement) (e : Env) (left : Trees) (m : Bool) (w : World) (whole inner : World → Outcome) (go : Env → Val → World →
      Outcome) → ((u : World) → Fits i u (whole u)) → ((u : World) → Fits i u (inner u)) →
      ((e : Env) (v : Val) (u : World) → Fits i u (go e v u)) → Fits i w (stated p k x e left w whole inner go)
  unfolding stated
  stated_fits plain e left m w whole inner go f g h = valued_fits i w _ _ _ (λ r. refl) (f w) (λ v u. h e v u)
  stated_fits (defines b) e left m w whole inner go f g h =
      valued_fits i w _ _ _ (λ r. refl) (g w) (λ v u. defined_fits i p k keeps d b e v m u go h)
  stated_fits (defers a) e left m w whole inner go f g h = closing_fits i w _ _ _ e (λ r. refl) (h e unit w) (λ u. d.parts a e u)
  stated_fits (generates x) e left m w whole inner go f g h = λ c b h. tt

  claused_fits : (x : Statement) (e : Env) (m : Bool) (w : World) (whole inner : World → Outcome) (go : Env → Val → World → Outcome) →
      ((u : World) → Fits i u (whole u)) → ((u : World) → Fits i u (inner u)) →
      ((e : Env) (v : Val) (u : World) → Fits i u (go e v u)) → Fits i w (claused p k x e w whole inner go)
  unfolding claused
  claused_fits plain e m w whole inner go f g h = valued_fits i w _ _ _ (λ r. refl) (f w) (λ v u. h e v u)
  claused_fits (defines b) e m w whole inner go f g h = valued_fits i w _ _ _ (λ r. refl) (g w) (λ v u. defined_fits i p k keeps d b e v
      m u go h)
  claused_fits (defers a) e m w whole inner go f g h = λ c b h. tt
  claused_fits (generates x) e m w whole inner go f g h = valued_fits i w _ _ _ (λ r. refl) (g w) (λ v u. λ c b h. h)

  from_fits : (g : Generator) (v : Val) (e : Env) (so_far : Val) (m : Bool) (w : World) (go : Val × Val → Val → World →
      Outcome) (wrap : Values → Residual → Residual) → ((vs : Values) → KeepsLeaves (wrap vs)) → ((x : Val × Val) (a : Val) (u : World) →
      Fits i u (go x a u)) →
      Fits i w (generates_from p k g v e so_far w go wrap)
  unfolding generates_from
  from_fits g v e so_far m w go wrap q f = there_fits i w (values_of g v) _ (λ vs. d.takes m go wrap e vs so_far w q f)

  levelled_fits : (x : Statement) (v : Val) (e : Env) (so_far : Val) (m : Bool) (w : World) (on_go : World →
      Outcome) (taken : Generator → Val × Val → Val → World → Outcome) (wrap : Generator → Values → Residual → Residual) →
      ((g : Generator) (vs : Values) → KeepsLeaves (wrap g vs)) → Fits i w (on_go w) → ((g : Generator) (x : Val × Val) (a : Val) (u :
      World) → Fits i u (taken g x a u)) →
      Fits i w (levelled p k x v e so_far w on_go taken wrap)
  unfolding levelled
  levelled_fits plain v e so_far m w on_go taken wrap q a f = a
  levelled_fits (defines b) v e so_far m w on_go taken wrap q a f = a
  levelled_fits (defers b) v e so_far m w on_go taken wrap q a f = λ c b h. tt
  levelled_fits (generates g) v e so_far m w on_go taken wrap q a f = from_fits g v e so_far m w (taken g) (wrap g) (q g) (f g)

  callee_fits : (c : Callee) (m : Bool) (w : World) (f1 f2 f3 f4 : Form → World → Outcome) → ((f : Form) → Fits i w (f1 f w)) →
      ((f : Form) → Fits i w (f2 f w)) → ((f : Form) → Fits i w (f3 f w)) → ((f : Form) → Fits i w (f4 f w)) →
      Fits i w (by_callee p k c w f1 f2 f3 f4)
  unfolding by_callee
  callee_fits (alone f) m w f1 f2 f3 f4 a b c d = a f
  callee_fits (of_object f) m w f1 f2 f3 f4 a b c d = b f
  callee_fits (of_value f) m w f1 f2 f3 f4 a b c d = c f
  callee_fits (of_quotient f) m w f1 f2 f3 f4 a b c d = d f
  callee_fits no_callee m w f1 f2 f3 f4 a b c d = λ c b h. tt

  named_fits : (r : Option Ref) (x : Bytes) (pl : Place) (m : Bool) (e : Env) (w : World) → Fits i w (named p k r x pl e w)
  unfolding named
  named_fits (Some (ref.Field c slot)) x pl m e w = read_slot_fits i (this_of e) slot pl m e w
  named_fits r x pl m e w = read_bound_fits i (look x e) pl m e w

  membered_fits : (v : Option Val) (m : Bool) (e : Env) (w : World) (go : World → Outcome) → Fits i w (go w) →
      Fits i w (membered p k v e w go)
  unfolding membered
  membered_fits (Some v) m e w go a = λ c b h. h
  membered_fits None m e w go a = a

  bool_fits : (b : Bool) (m : Bool) (w : World) (f g : Bool → Outcome) → Fits i w (f true) → Fits i w (g false) →
      Fits i w (on_bool b f g)
  bool_fits true m w f g x y = x
  bool_fits false m w f g x y = y

  mutual
    pub ev_fits : (a : Tree) (m : Bool) (e : Env) (w : World) → Fits i w (ev p k a m e w)
    ev_fits (tree n pl s) m e w = shape_fits s n pl m e w

    pub shape_fits : (s : Shape) (n : ℕ) (pl : Place) (m : Bool) (e : Env) (w : World) → Fits i w (ev_shape p k s n pl m e w)
    shape_fits (t.Shape.block cs) n pl m e w = statements_fits cs m e unit w
    shape_fits (t.Shape.defer a) n pl m e w = λ c b h. tt
    shape_fits (t.Shape.definition x a) n pl m e w = valued_fits i w _ _ _ (λ r. refl) (ev_fits a m e w) (λ v u. λ c b h. h)
    shape_fits (t.Shape.typed x ty a) n pl m e w = valued_fits i w _ _ _ (λ r. refl) (ev_fits a m e w) (λ v u. λ c b h. h)
    shape_fits (t.Shape.variable x ty a) n pl m e w =
        valued_fits i w _ _ _ (λ r. refl) (ev_fits a m e w) (λ v u. apply_fits i p k keeps d (form.varying pl) (v ∷ []) m e u)
    shape_fits (t.Shape.assignment x a b) n pl m e w =
        targets_fits a (form.storing (base_of p a) (mode_of x) pl) (b ∷ []) m e w _ (λ vs u. valued_fits i u _ _ _ (λ r. refl) (ev_fits b m
        e u)
        (λ v z. apply_fits i p k keeps d (form.storing (base_of p a) (mode_of x) pl) (vs ++ v ∷ []) m e z))
    shape_fits (t.Shape.returned a) n pl m e w = valued_fits i w _ _ _ (λ r. refl) (ev_fits a m e w) (λ v u. λ c b h. h)
    shape_fits t.Shape.returned_unit n pl m e w = λ c b h. h
    shape_fits t.Shape.break_form n pl m e w = λ c b h. h
    shape_fits (t.Shape.if_else cs a b) n pl m e w =
        attempted_fits i w _ _ _ (statements_keep p k keeps cs false e unit w) (statements_fits cs false e unit w) (λ e v u. ev_fits a m e
        u) (λ u. ev_fits b m e u)
    shape_fits (t.Shape.if_alone cs a) n pl m e w =
        attempted_fits i w _ _ _ (statements_keep p k keeps cs false e unit w) (statements_fits cs false e unit w) (λ e v u. ev_fits a m e
        u) (λ u. λ c b h. h)
    shape_fits (t.Shape.negation a) n pl m e w =
        denied_fits i w e _ (ev_keeps p k keeps a false e w) (ev_fits a false e w)
    shape_fits (t.Shape.option cs) n pl m e w =
        attempted_fits i w _ _ _ (statements_keep p k keeps cs false e unit w) (statements_fits cs false e unit w) (λ e1 v u. told_fits i u
        _ pl e (still_memory u _)) (λ u.
        (λ c b h. h))
    shape_fits (t.Shape.logic cs) n pl m e w =
        attempted_fits i w _ _ _ (statements_keep p k keeps cs false e unit w) (statements_fits cs false e unit w) (λ e v u. λ c b h. h) (λ
        u. λ c b h. h)
    shape_fits (t.Shape.chained op.Or a b) n pl m e w =
        attempted_fits i w _ _ _ (ev_keeps p k keeps a false e w) (ev_fits a false e w) (λ e v u. λ c b h. h) (λ u. ev_fits b m e u)
    shape_fits (t.Shape.for_form cs a) n pl m e w =
        attempted_fits i w _ _ _ (clauses_keep p k keeps cs false e unit w) (clauses_fits cs false e unit w) (λ e1 v u. level_fits cs a _ pl
        e1 v _ m u (λ e u. ev_fits a m e
        u)) (λ u. λ c b h. h)
    shape_fits (t.Shape.chained op.Div a b) n pl m e w = λ c b h. tt
    shape_fits (t.Shape.chained x a b) n pl m e w =
        valued_fits i w _ _ _ (λ r. refl) (ev_fits a m e w) (λ v u. valued_fits i u _ _ _ (λ r. refl) (ev_fits b m e u) (λ y z. apply_fits i
        p k keeps d
        (form.computing x (p.is_array n) pl) (v ∷ y ∷ []) m e z))
    shape_fits (t.Shape.compared x a b) n pl m e w =
        valued_fits i w _ _ _ (λ r. refl) (ev_fits a m e w) (λ v u. valued_fits i u _ _ _ (λ r. refl) (ev_fits b m e u) (λ y z. apply_fits i
        p k keeps d
        (form.comparing x) (v ∷ y ∷ []) m e z))
    shape_fits (t.Shape.minus a) n pl m e w =
        valued_fits i w _ _ _ (λ r. refl) (ev_fits a m e w) (λ v u. apply_fits i p k keeps d (form.negating pl) (v ∷ []) m e u)
    shape_fits (t.Shape.query a) n pl m e w =
        valued_fits i w _ _ _ (λ r. refl) (ev_fits a m e w) (λ v u. apply_fits i p k keeps d form.querying (v ∷ []) m e u)
    shape_fits (t.Shape.member a x) n pl m e w =
        membered_fits (enum_member p a x) m e w _ (valued_fits i w _ _ _ (λ r. refl) (ev_fits a m e w) (λ v u. apply_fits i p k keeps d
        (member_form (ref_at p n)
        x) (v ∷ []) m e u))
    shape_fits (t.Shape.call a ts) n pl m e w = callee_fits (callee_of p a (picked ts) pl) m w _ _ _ _ (λ f. args_fits ts f [] m e w)
        (λ f. valued_fits i w _ _ _ (λ r. refl) (inner_fits a m e w) (λ v u. args_fits ts f (v ∷ []) m e u)) (λ f. valued_fits i w _ _ _ (λ
        r. refl)
        (ev_fits a m e w) (λ v u. apply_fits i p k keeps d f (v ∷ []) m e u)) (λ f. quotient_fits ts f m e w)
    shape_fits (t.Shape.index a ts) n pl m e w = callee_fits (callee_of p a form.indexing pl) m w _ _ _ _ (λ f. args_fits ts f [] m e
        w)
        (λ f. valued_fits i w _ _ _ (λ r. refl) (inner_fits a m e w) (λ v u. args_fits ts f (v ∷ []) m e u)) (λ f. valued_fits i w _ _ _ (λ
        r. refl)
        (ev_fits a m e w) (λ v u. args_fits ts f (v ∷ []) m e u)) (λ f. quotient_fits ts f m e w)
    shape_fits (t.Shape.integer z) n pl m e w = λ c b h. h
    shape_fits (t.Shape.character c) n pl m e w = λ c b h. h
    shape_fits (t.Shape.text bs) n pl m e w = λ c b h. h
    shape_fits (t.Shape.holes bs hs) n pl m e w = holes_fits hs _ [] m e w
    shape_fits t.Shape.truth n pl m e w = λ c b h. h
    shape_fits t.Shape.falsehood n pl m e w = λ c b h. h
    shape_fits t.Shape.this n pl m e w = known_fits i w (this_of e) _ (λ v. λ c b h. h)
    shape_fits (t.Shape.name x) n pl m e w = named_fits (ref_at p n) x pl m e w
    shape_fits (t.Shape.tuple ts) n pl m e w = args_fits ts _ [] m e w
    shape_fits (t.Shape.array ts) n pl m e w = args_fits ts _ [] m e w
    shape_fits (t.Shape.mapping ps) n pl m e w = pairs_fits ps _ [] m e w
    shape_fits (t.Shape.instance x gs) n pl m e w = known_fits i w (class_ref p (ref_at p n)) _ (λ c. givens_fits gs _ [] m e w)
    shape_fits (t.Shape.event ty) n pl m e w = told_fits i w _ pl e (added_memory w _ _)
    shape_fits t.Shape.bare_event n pl m e w = told_fits i w _ pl e (added_memory w _ _)
    shape_fits (t.Shape.loop_form a) n pl m e w = d.loops m _ _ e w (λ r. refl) (λ u. ev_fits a m e u)
    shape_fits (t.Shape.block_form a) n pl m e w = ev_fits a m e w
    shape_fits (t.Shape.cases a ts) n pl m e w = valued_fits i w _ _ _ (λ r. refl) (ev_fits a m e w) (λ v u. chosen_fits ts v m e u)
    shape_fits (t.Shape.branch a) n pl m e w =
        outside_fits i m w _ (begins_fits w _ _ (λ u. ev_fits a true e u) (λ u o h. branch_fits i u e o h))
    shape_fits (t.Shape.sync ts) n pl m e w = outside_fits i m w _ (λ c b h. started_fits sync pl ts e no_arms w c b (omega (arith, h)))
    shape_fits (t.Shape.race ts) n pl m e w = outside_fits i m w _ (λ c b h. started_fits race pl ts e no_arms w c b (omega (arith, h)))
    shape_fits (t.Shape.rush ts) n pl m e w = outside_fits i m w _ (λ c b h. started_fits rush pl ts e no_arms w c b (omega (arith, h)))
    shape_fits (t.Shape.spawn a) n pl m e w = spawn_fits a m e w
    shape_fits (t.Shape.sleep z) n pl m e w = outside_fits i m w _ (suspended_fits i (after z w.state) e w)
    shape_fits t.Shape.sleep_forever n pl m e w = outside_fits i m w _ (suspended_fits i never e w)
    shape_fits s n pl m e w = λ c b h. tt

    pub statements_fits : (cs : Trees) (m : Bool) (e : Env) (last : Val) (w : World) → Fits i w (statements p k cs m e last w)
    statements_fits no_trees m e last w = λ c b h. h
    statements_fits (more_trees a cs) m e last w =
        stated_fits (statement_of a) e cs m w _ _ _ (λ u. ev_fits a m e u) (λ u. inner_fits a m e u) (λ e v u. statements_fits cs m
        e v
        u)

    pub inner_fits : (a : Tree) (m : Bool) (e : Env) (w : World) → Fits i w (inner p k a m e w)
    inner_fits (tree n pl s) m e w = inner_shape_fits s m e w

    pub inner_shape_fits : (s : Shape) (m : Bool) (e : Env) (w : World) → Fits i w (inner_shape p k s m e w)
    inner_shape_fits (t.Shape.definition x a) m e w = ev_fits a m e w
    inner_shape_fits (t.Shape.typed x ty a) m e w = ev_fits a m e w
    inner_shape_fits (t.Shape.variable x ty a) m e w = ev_fits a m e w
    inner_shape_fits (t.Shape.member a x) m e w = ev_fits a m e w
    inner_shape_fits (t.Shape.elements x a) m e w = ev_fits a m e w
    inner_shape_fits (t.Shape.entries x y a) m e w = ev_fits a m e w
    inner_shape_fits (t.Shape.range x a b) m e w =
        valued_fits i w _ _ _ (λ r. refl) (ev_fits a m e w) (λ v u. valued_fits i u _ _ _ (λ r. refl) (ev_fits b m e u) (λ y z. λ c b h. h))
    inner_shape_fits s m e w = λ c b h. tt

    pub args_fits : (ts : Trees) (f : Form) (vs : List Val) (m : Bool) (e : Env) (w : World) → Fits i w (all_args p k ts f vs m e
        w)
    args_fits no_trees f vs m e w = apply_fits i p k keeps d f vs m e w
    args_fits (more_trees a ts) f vs m e w = valued_fits i w _ _ _ (λ r. refl) (ev_fits a m e w) (λ v u. args_fits ts f (vs ++ v ∷ []) m
        e u)

    pub holes_fits : (hs : Holes) (f : Form) (vs : List Val) (m : Bool) (e : Env) (w : World) → Fits i w (holed p k hs f vs m e
        w)
    holes_fits no_holes f vs m e w = apply_fits i p k keeps d f vs m e w
    holes_fits (more_holes a bs hs) f vs m e w = valued_fits i w _ _ _ (λ r. refl) (ev_fits a m e w) (λ v u. holes_fits hs f (vs ++ v ∷
        []) m e u)

    pub pairs_fits : (ps : t.Pairs) (f : Form) (vs : List Val) (m : Bool) (e : Env) (w : World) → Fits i w (paired_args p k ps f
        vs m e w)
    pairs_fits t.Pairs.no_pairs f vs m e w = apply_fits i p k keeps d f vs m e w
    pairs_fits (t.Pairs.more_pairs a b ps) f vs m e w =
        valued_fits i w _ _ _ (λ r. refl) (ev_fits a m e w) (λ x u. valued_fits i u _ _ _ (λ r. refl) (ev_fits b m e u) (λ y z. pairs_fits
        ps f (vs ++ x ∷
        y ∷ []) m e z))

    pub givens_fits : (gs : Givens) (f : Form) (vs : List Val) (m : Bool) (e : Env) (w : World) → Fits i w (given_args p k gs f
        vs m e w)
    givens_fits no_givens f vs m e w = apply_fits i p k keeps d f vs m e w
    givens_fits (more_givens x a gs) f vs m e w = valued_fits i w _ _ _ (λ r. refl) (ev_fits a m e w) (λ v u. givens_fits gs f (vs ++ v ∷
        []) m e u)

    pub quotient_fits : (ts : Trees) (f : Form) (m : Bool) (e : Env) (w : World) → Fits i w (quotient p k ts f m e w)
    quotient_fits no_trees f m e w = λ c b h. tt
    quotient_fits (more_trees a ts) f m e w = quotient_tree_fits a f m e w

    pub quotient_tree_fits : (a : Tree) (f : Form) (m : Bool) (e : Env) (w : World) → Fits i w (quotient_tree p k a f m e w)
    quotient_tree_fits (tree n pl s) f m e w = quotient_shape_fits s f m e w

    pub quotient_shape_fits : (s : Shape) (f : Form) (m : Bool) (e : Env) (w : World) → Fits i w (quotient_shape p k s f m e w)
    quotient_shape_fits (t.Shape.chained x a b) f m e w =
        valued_fits i w _ _ _ (λ r. refl) (ev_fits a m e w) (λ v u. valued_fits i u _ _ _ (λ r. refl) (ev_fits b m e u) (λ y z. apply_fits i
        p k keeps d f (v ∷ y
        ∷ []) m e z))
    quotient_shape_fits s f m e w = λ c b h. tt

    pub targets_fits : (a : Tree) (f : Form) (left : List Tree) (m : Bool) (e : Env) (w : World) (go : List Val → World → Outcome) →
        ((vs : List Val) (u : World) → Fits i u (go vs u)) → Fits i w (targets p k a f left m e w go)
    targets_fits (tree n pl s) f left m e w go g = targets_shape_fits s f left m e w go g

    pub targets_shape_fits : (s : Shape) (f : Form) (left : List Tree) (m : Bool) (e : Env) (w : World) (go : List Val → World →
        Outcome) → ((vs : List Val) (u : World) → Fits i u (go vs u)) → Fits i w (targets_shape p k s f left m e w go)
    targets_shape_fits (t.Shape.name x) f left m e w go g = g [] w
    targets_shape_fits (t.Shape.member a x) f left m e w go g = valued_fits i w _ _ _ (λ r. refl) (ev_fits a m e w) (λ v u. g (v ∷ []) u)
    targets_shape_fits (t.Shape.index a ts) f left m e w go g = targets_fits a f _ m e w _ (λ vs u. indices_fits ts f vs left m e u go
        g)
    targets_shape_fits s f left m e w go g = λ c b h. tt

    pub indices_fits : (ts : Trees) (f : Form) (vs : List Val) (left : List Tree) (m : Bool) (e : Env) (w : World) (go : List Val →
        World → Outcome) → ((vs : List Val) (u : World) → Fits i u (go vs u)) → Fits i w (indices p k ts f vs left m e w
        go)
    indices_fits no_trees f vs left m e w go g = g vs w
    indices_fits (more_trees a ts) f vs left m e w go g =
        valued_fits i w _ _ _ (λ r. refl) (ev_fits a m e w) (λ v u. indices_fits ts f (vs ++ v ∷ []) left m e u go g)

    pub clauses_fits : (cs : Trees) (m : Bool) (e : Env) (last : Val) (w : World) → Fits i w (clauses p k cs m e last w)
    clauses_fits no_trees m e last w = λ c b h. h
    clauses_fits (more_trees a cs) m e last w =
        claused_fits (statement_of a) e m w _ _ _ (λ u. ev_fits a m e u) (λ u. inner_fits a m e u) (λ e v u. clauses_fits cs m e v
        u)

    pub level_fits : (cs : Trees) (a : Tree) (run : Env → World →
        Outcome) (pl : Place) (e : Env) (v so_far : Val) (m : Bool) (w : World) → ((e : Env) (u : World) → Fits i u (run e u)) →
        Fits i w (level p k cs a run pl e v so_far w)
    level_fits no_trees a run pl e v so_far m w f = valued_fits i w _ _ _ (λ r. refl) (f e w) (λ y u. told_fits i u _ pl e (still_memory u
        _))
    level_fits (more_trees c cs) a run pl e v so_far m w f =
        levelled_fits (statement_of c) v e so_far m w _ _ _ (λ g vs r. refl) (level_fits cs a run pl e v so_far m w f)
        (λ g x so_far u. attempted_fits i u _ _ _ (clauses_keep p k keeps cs false _ unit u) (clauses_fits cs false _ unit u) (λ e1 y z.
        level_fits cs a run pl e1 y so_far m z
        f) (λ z. λ c b h. h))

    pub chosen_fits : (ts : Trees) (v : Val) (m : Bool) (e : Env) (w : World) → Fits i w (chosen p k ts v m e w)
    chosen_fits no_trees v m e w = λ c b h. tt
    chosen_fits (more_trees a ts) v m e w = arm_fits a (none_left ts) v m e w _ (chosen_fits ts v m e w)

    pub arm_fits : (a : Tree) (last : Bool) (v : Val) (m : Bool) (e : Env) (w : World) (go : World → Outcome) → Fits i w (go w) →
        Fits i w (arm_of p k a last v m e w go)
    arm_fits (tree n pl s) last v m e w go g = arm_shape_fits s last v m e w go g

    pub arm_shape_fits : (s : Shape) (last : Bool) (v : Val) (m : Bool) (e : Env) (w : World) (go : World → Outcome) → Fits i w (go w) →
        Fits i w (arm_of_shape p k s last v m e w go)
    arm_shape_fits (t.Shape.arm a b) last v m e w go g = bool_fits (cond last true (pattern_fits p a v)) m w _ _ (ev_fits b m e w) g
    arm_shape_fits s last v m e w go g = λ c b h. tt

    pub started_fits : (kd : Kind) (pl : Place) (ts : Trees) (e : Env) (gs : Arms) (w : World) (c b : ℕ) →
        c + (count i (arms_leaves gs) + stock i w) ≤ b → OutcomeFits i c b (started p k kd pl ts e gs w)
    started_fits kd pl no_trees e gs w c b h = settled_fits kd pl e gs w c b h
    started_fits kd pl (more_trees a ts) e gs w c b h = begins_out (c + count i (arms_leaves gs)) c b w _ _ (omega (arith, h))
        (λ u. ev_fits a true e u) (λ o q. armed_out i (c + count i (arms_leaves gs)) c b o _ _ q
        (λ v z g. gave_fits kd pl e (with_arm gs (gave v no_arms)) z _ c b (omega (arith, g, gave_count i gs v)) (started_fits kd pl ts e
        (with_arm gs (gave v no_arms)) z c b (omega (arith, g, gave_count i gs v))))
        (λ s z g. started_fits kd pl ts e (with_arm gs (runs s no_arms)) z c b (omega (arith, g, runs_count i gs s))))

    pub spawn_fits : (a : Tree) (m : Bool) (e : Env) (w : World) → Fits i w (spawned p k a m e w)
    spawn_fits (tree n pl s) m e w = spawn_shape_fits s pl m e w

    pub spawn_shape_fits : (s : Shape) (pl : Place) (m : Bool) (e : Env) (w : World) → Fits i w (spawned_shape p k s pl m e w)
    spawn_shape_fits (t.Shape.call a ts) pl m e w =
        callee_fits (spawned_callee (callee_of p a (form.picking None) pl)) m w _ _ _ _ (λ f. args_fits ts f [] m e w)
        (λ f. valued_fits i w _ _ _ (λ r. refl) (inner_fits a m e w) (λ v u. args_fits ts f (v ∷ []) m e u)) (λ f c b h. tt) (λ f c b h. tt)
    spawn_shape_fits s pl m e w = λ c b h. tt
