-- What evaluation leaves as it was: one line for each part of a form, and cancelling.
use Rattle.std.proofs.Common.{ℕ, List, [], ◌∷◌, ◌++◌, Option, Some, None, Bool, true, false, cond, refl, sym, subst}
use Rattle.verse_base.specs.declared.places.Place.{Place}
use Rattle.verse_tree.specs.Tree.{Bytes, Tree, tree, Shape, Trees, no_trees, more_trees, Holes, no_holes, more_holes, Givens, no_givens}
use Rattle.verse_tree.specs.Tree.{more_givens}
use Rattle.verse_tree.specs.Tree as t
use Rattle.verse_tree.specs.declared.exprs.Operator.TheVariants as op
use Rattle.verse_tree.specs.declared.tables.Ref.{Ref}
use Rattle.verse_tree.specs.declared.tables.Ref.TheVariants as ref
use Rattle.verse_value.specs.Val.{Val, unit}
use Rattle.verse_meaning_state.specs.State.{State}
use Rattle.verse_meaning_state.specs.Waits.{never, after}
use Rattle.verse_meaning_state.specs.Turns.{Kind, sync, race, rush}
use Rattle.verse_meaning.specs.Programs.{Program, ref_at}
use Rattle.verse_meaning.specs.Residuals as form
use Rattle.verse_meaning.specs.Residuals.{Env, Bound, constant, variable, Base, in_variable, in_self, in_object, Form, Binder, no_name}
use Rattle.verse_meaning.specs.Residuals.{a_constant, a_variable, Generator, Values, Role, part, body, root, Residual, leaf, args, seq}
use Rattle.verse_meaning.specs.Residuals.{deferred, looped, filling, generated, called, arms, Scope, scope, Scopes, none, also, Arms}
use Rattle.verse_meaning.specs.Residuals.{no_arms, gave}
use Rattle.verse_meaning.specs.Residuals.{runs}
use Rattle.verse_meaning.specs.Outcomes.{World, set_behind, Outcome, value, failed, returned, broke, halted, rests, TaskOutcome, ends, Went}
use Rattle.verse_meaning.specs.Outcomes.{went, quits, on_went_task, finished, not_given, all_gave, first_gave, with_arm}
use Rattle.verse_meaning.specs.Forms.{Deeper, look, this_of, values_of}
use Rattle.verse_meaning.specs.Evaluating.{Statement, plain, defines, defers, generates, statement_of, Callee, alone, of_object, of_value}
use Rattle.verse_meaning.specs.Evaluating.{of_quotient, no_callee, spawned_callee, mode_of, on_bool, callee_of, base_of, enum_member}
use Rattle.verse_meaning.specs.Evaluating.{picked, none_left, class_ref, pattern_fits, cancel_kids, cancel_own, cancel_scope_kids}
use Rattle.verse_meaning.specs.Evaluating.{cancel_scope_own}
use Rattle.verse_meaning.specs.Evaluating.{cancel_behind, cancel_arms, scope_ended, scope_returned, scope_end, or_stands, settled, arm_gave}
use Rattle.verse_meaning.specs.Evaluating.{begins_scope, stated, claused, generates_from, levelled, by_callee, named, member_form, membered}
use Rattle.verse_meaning.specs.Evaluating.{ev, ev_shape, statements, inner, inner_shape, all_args, holed, paired_args, given_args, quotient}
use Rattle.verse_meaning.specs.Evaluating.{quotient_tree, quotient_shape, targets, targets_shape, indices, clauses, level, chosen, arm_of}
use Rattle.verse_meaning.specs.Evaluating.{arm_of_shape, started, spawned, spawned_shape}
use Rattle.verse_meaning.specs.Laws.{KeepsWent}
use Rattle.verse_meaning.specs.Laws.{Grown, Leaves, Apart, Keeps, KeepsTask}
use Rattle.verse_meaning.proofs.Forms.{DeeperKeeps, still_memory, added_memory, read_bound_keeps, read_slot_keeps, apply_keeps}
use Rattle.verse_meaning.proofs.Forms.{defined_keeps}
use Rattle.verse_meaning.proofs.Keeping.{undone_keeps, failed_keeps, leaves_same, leaves_then, valued_keeps, attempted_keeps, spends_keeps}
use Rattle.verse_meaning.proofs.Keeping.{there_keeps}
use Rattle.verse_meaning.proofs.Keeping.{known_keeps, told_keeps, outside_keeps, suspended_keeps, dropped_keeps, went_on_keeps}
use Rattle.verse_meaning.proofs.Keeping.{on_went_keeps, closing_keeps, branch_keeps, armed_keeps, left_leaves}

module _ (p : Program) (k : Deeper) (d : DeeperKeeps k) where
  mutual
    pub kids_keep : (r : Residual) (w : World) → KeepsWent w (cancel_kids p k r w)
    kids_keep (leaf x e) w = leaves_same false w
    kids_keep (args e f vs r left) w = kids_keep r w
    kids_keep (seq e b r left) w = kids_keep r w
    kids_keep (deferred e a r) w = kids_keep r w
    kids_keep (looped e a r) w = kids_keep r w
    kids_keep (filling e c pl fs xs vs ss r) w = kids_keep r w
    kids_keep (generated e g cs a pl vs r) w = kids_keep r w
    kids_keep (called e s) w = scope_kids_keep s w
    kids_keep (arms kd pl e gs) w = arms_keep gs w

    pub own_keep : (r : Residual) (w : World) → KeepsWent w (cancel_own p k r w)
    own_keep (leaf x e) w = leaves_same false w
    own_keep (args e f vs r left) w = own_keep r w
    own_keep (seq e b r left) w = own_keep r w
    own_keep (deferred e a r) w =
        went_on_keeps w (cancel_own p k r w) _ (own_keep r w) (λ u. dropped_keeps u (k.parts a e u) (d.parts a e u))
    own_keep (looped e a r) w = own_keep r w
    own_keep (filling e c pl fs xs vs ss r) w = own_keep r w
    own_keep (generated e g cs a pl vs r) w = own_keep r w
    own_keep (called e s) w = scope_own_keep s w
    own_keep (arms kd pl e gs) w = leaves_same false w

    pub scope_kids_keep : (s : Scope) (w : World) → KeepsWent w (cancel_scope_kids p k s w)
    scope_kids_keep (scope q r bs) w = went_on_keeps w (cancel_kids p k r w) _ (kids_keep r w) (λ u. behind_keep bs u)

    pub scope_own_keep : (s : Scope) (w : World) → KeepsWent w (cancel_scope_own p k s w)
    scope_own_keep (scope q r bs) w = own_keep r w

    pub behind_keep : (bs : Scopes) (w : World) → KeepsWent w (cancel_behind p k bs w)
    behind_keep none w = leaves_same false w
    behind_keep (also s bs) w =
        went_on_keeps w (cancel_behind p k bs w) _ (behind_keep bs w) (λ u. went_on_keeps u (cancel_scope_kids p k s u) _ (scope_kids_keep
        s u) (λ x. scope_own_keep s x))

    pub arms_keep : (gs : Arms) (w : World) → KeepsWent w (cancel_arms p k gs w)
    arms_keep no_arms w = leaves_same false w
    arms_keep (gave v gs) w = arms_keep gs w
    arms_keep (runs s gs) w =
        went_on_keeps w (cancel_arms p k gs w) _ (arms_keep gs w) (λ u. went_on_keeps u (cancel_scope_kids p k s u) _ (scope_kids_keep s
        u) (λ x. scope_own_keep s x))

  -- the end of a scope: the outer background stands again
  finished_leaves : (q : Role) (v : Val) (w u x : World) → Leaves true (set_behind w none) u → Leaves false u x →
      Apart true w (finished q v (set_behind x w.behind))
  finished_leaves part v w u x a b = (refl, subst (λ z. Grown w.tasks z) (sym b.1.0) a.1)
  finished_leaves body v w u x a b = (refl, subst (λ z. Grown w.tasks z) (sym b.1.0) a.1)
  finished_leaves (root None) v w u x a b = (refl, subst (λ z. Grown w.tasks z) (sym b.1.0) a.1)
  finished_leaves (root (Some entry)) v w u x a b = (refl, subst (λ z. Grown w.tasks z) (sym b.1.0) a.1)

  ended_went : (q : Role) (v : Val) (w u : World) → Leaves true (set_behind w none) u → (x : Went) → KeepsWent u x →
      KeepsTask true w (on_went_task x (λ x. ends v (finished q v (set_behind x w.behind))))
  unfolding on_went_task
  ended_went q v w u a (went x) b = finished_leaves q v w u x a b
  ended_went q v w u a (quits h) b = tt

  ended_keeps : (q : Role) (v : Val) (w u : World) → Leaves true (set_behind w none) u → KeepsTask true w (scope_ended p k q w.behind v u)
  ended_keeps q v w u a = ended_went q v w u a (cancel_behind p k u.behind u) (behind_keep u.behind u)

  returned_keeps : (q : Role) (v : Val) (w u : World) → Leaves true (set_behind w none) u →
      KeepsTask true w (scope_returned p k q w.behind v u)
  returned_keeps part v w u a = tt
  returned_keeps body v w u a = ended_keeps body v w u a
  returned_keeps (root entry) v w u a = ended_keeps (root entry) v w u a

  not_given_keeps : (q : Role) (w : World) (s : State) → KeepsTask true w (not_given q s)
  not_given_keeps part w s = tt
  not_given_keeps body w s = tt
  not_given_keeps (root entry) w s = tt

  pub scope_keeps : (q : Role) (w : World) (o : Outcome) → Keeps true (set_behind w none) o → KeepsTask true w (scope_end p k q w.behind o)
  unfolding scope_end
  scope_keeps q w (value e v u) a = ended_keeps q v w u a
  scope_keeps q w (failed s) a = not_given_keeps q w s
  scope_keeps q w (returned v u) a = returned_keeps q v w u a
  scope_keeps q w (broke u) a = tt
  scope_keeps q w (halted h) a = tt
  scope_keeps q w (rests r u) a = (refl, (refl, a.1.1))

  quiet_went : (v : Val) (w u : World) → Leaves false (set_behind w none) u → (x : Went) → KeepsWent u x →
      KeepsTask false w (on_went_task x (λ x. ends v (set_behind x w.behind)))
  unfolding on_went_task
  quiet_went v w u a (went x) b = (refl, (leaves_then false (set_behind w none) u x a b).1)
  quiet_went v w u a (quits h) b = tt

  quiet_ended : (v : Val) (w u : World) → Leaves false (set_behind w none) u → KeepsTask false w (scope_ended p k body w.behind v u)
  quiet_ended v w u a = quiet_went v w u a (cancel_behind p k u.behind u) (behind_keep u.behind u)

  -- a call where a failure context is open
  pub quiet_scope : (w : World) (o : Outcome) → Keeps false (set_behind w none) o → KeepsTask false w (scope_end p k body w.behind o)
  unfolding scope_end
  quiet_scope w (value e v u) a = quiet_ended v w u a
  quiet_scope w (failed s) a = a
  quiet_scope w (returned v u) a = quiet_ended v w u a
  quiet_scope w (broke u) a = tt
  quiet_scope w (halted h) a = tt
  quiet_scope w (rests r u) a = cc

  stands_keeps : {A : Type 0} (x : Option A) (m : Bool) (w : World) (o : Outcome) (go : A → Outcome) → Keeps m w o → ((x : A) →
      Keeps m w (go x)) → Keeps m w (or_stands p k x o go)
  unfolding or_stands
  stands_keeps None m w o go a f = a
  stands_keeps (Some x) m w o go a f = f x

  -- a race cancels its other arms before its value is used
  pub settled_keeps : (kd : Kind) (pl : Place) (e : Env) (gs : Arms) (w : World) → Keeps true w (settled p k kd pl e gs w)
  unfolding settled
  settled_keeps sync pl e gs w =
      stands_keeps (all_gave gs) true w _ _ (refl, leaves_same true w) (λ vs. told_keeps true w _ pl e (still_memory w _))
  settled_keeps race pl e gs w =
      stands_keeps (first_gave gs) true w _ _ (refl, leaves_same true w) (λ v. on_went_keeps true w (cancel_arms p k gs w) _ (arms_keep gs
      w) (λ u h. h))
  settled_keeps rush pl e gs w =
      stands_keeps (first_gave gs) true w _ _ (refl, leaves_same true w) (λ v. left_leaves gs w w (leaves_same true w))

  gave_keeps : (kd : Kind) (pl : Place) (e : Env) (gs : Arms) (w : World) (go : World → Outcome) → Keeps true w (go w) →
      Keeps true w (arm_gave p k kd pl e gs w go)
  unfolding arm_gave
  gave_keeps sync pl e gs w go a = a
  gave_keeps race pl e gs w go a = settled_keeps race pl e gs w
  gave_keeps rush pl e gs w go a = a

  begins_keeps : (w : World) (run : World → Outcome) (go : TaskOutcome → Outcome) → ((u : World) → Keeps true u (run u)) →
      ((u : World) (o : TaskOutcome) → KeepsTask true u o → Keeps true u (go o)) → Keeps true w (begins_scope p k w run go)
  unfolding begins_scope
  begins_keeps w run go f g =
      spends_keeps true w w.state.clock.left _ (λ u h. g u (scope_end p k part u.behind (run (set_behind u none))) (scope_keeps part u
      (run (set_behind u none)) (f (set_behind u none))))

  stated_keeps : (x : Statement) (e : Env) (left : Trees) (m : Bool) (w : World) (whole inner : World → Outcome) (go : Env → Val → World →
      Outcome) → ((u : World) → Keeps m u (whole u)) → ((u : World) → Keeps m u (inner u)) →
      ((e : Env) (v : Val) (u : World) → Keeps m u (go e v u)) → Keeps m w (stated p k x e left w whole inner go)
  unfolding stated
  stated_keeps plain e left m w whole inner go f g h = valued_keeps m w (whole w) _ _ (f w) (λ v u a. h e v u)
  stated_keeps (defines b) e left m w whole inner go f g h =
      valued_keeps m w (inner w) _ _ (g w) (λ v u a. defined_keeps p k d b e v m u go h)
  stated_keeps (defers a) e left m w whole inner go f g h = closing_keeps m w (go e unit w) _ _ e (h e unit w) (λ u. d.parts a e u)
  stated_keeps (generates x) e left m w whole inner go f g h = tt

  claused_keeps : (x : Statement) (e : Env) (m : Bool) (w : World) (whole inner : World → Outcome) (go : Env → Val → World → Outcome) →
      ((u : World) → Keeps m u (whole u)) → ((u : World) → Keeps m u (inner u)) →
      ((e : Env) (v : Val) (u : World) → Keeps m u (go e v u)) → Keeps m w (claused p k x e w whole inner go)
  unfolding claused
  claused_keeps plain e m w whole inner go f g h = valued_keeps m w (whole w) _ _ (f w) (λ v u a. h e v u)
  claused_keeps (defines b) e m w whole inner go f g h = valued_keeps m w (inner w) _ _ (g w) (λ v u a. defined_keeps p k d b e v m u go h)
  claused_keeps (defers a) e m w whole inner go f g h = tt
  claused_keeps (generates x) e m w whole inner go f g h = valued_keeps m w (inner w) _ _ (g w) (λ v u a. leaves_same m u)

  from_keeps : (g : Generator) (v : Val) (e : Env) (so_far : Val) (m : Bool) (w : World) (go : Val × Val → Val → World →
      Outcome) (wrap : Values → Residual → Residual) → ((x : Val × Val) (a : Val) (u : World) → Keeps m u (go x a u)) →
      Keeps m w (generates_from p k g v e so_far w go wrap)
  unfolding generates_from
  from_keeps g v e so_far m w go wrap f = there_keeps m w (values_of g v) _ (λ vs. d.takes m go wrap e vs so_far w f)

  levelled_keeps : (x : Statement) (v : Val) (e : Env) (so_far : Val) (m : Bool) (w : World) (on_go : World →
      Outcome) (taken : Generator → Val × Val → Val → World → Outcome) (wrap : Generator → Values → Residual → Residual) →
      Keeps m w (on_go w) → ((g : Generator) (x : Val × Val) (a : Val) (u : World) → Keeps m u (taken g x a u)) →
      Keeps m w (levelled p k x v e so_far w on_go taken wrap)
  unfolding levelled
  levelled_keeps plain v e so_far m w on_go taken wrap a f = a
  levelled_keeps (defines b) v e so_far m w on_go taken wrap a f = a
  levelled_keeps (defers b) v e so_far m w on_go taken wrap a f = tt
  levelled_keeps (generates g) v e so_far m w on_go taken wrap a f = from_keeps g v e so_far m w (taken g) (wrap g) (f g)

  callee_keeps : (c : Callee) (m : Bool) (w : World) (f1 f2 f3 f4 : Form → World → Outcome) → ((f : Form) → Keeps m w (f1 f w)) →
      ((f : Form) → Keeps m w (f2 f w)) → ((f : Form) → Keeps m w (f3 f w)) → ((f : Form) → Keeps m w (f4 f w)) →
      Keeps m w (by_callee p k c w f1 f2 f3 f4)
  unfolding by_callee
  callee_keeps (alone f) m w f1 f2 f3 f4 a b c d = a f
  callee_keeps (of_object f) m w f1 f2 f3 f4 a b c d = b f
  callee_keeps (of_value f) m w f1 f2 f3 f4 a b c d = c f
  callee_keeps (of_quotient f) m w f1 f2 f3 f4 a b c d = d f
  callee_keeps no_callee m w f1 f2 f3 f4 a b c d = tt

  named_keeps : (r : Option Ref) (x : Bytes) (pl : Place) (m : Bool) (e : Env) (w : World) → Keeps m w (named p k r x pl e w)
  unfolding named
  named_keeps (Some (ref.Field c slot)) x pl m e w = read_slot_keeps (this_of e) slot pl m e w
  named_keeps r x pl m e w = read_bound_keeps (look x e) pl m e w

  membered_keeps : (v : Option Val) (m : Bool) (e : Env) (w : World) (go : World → Outcome) → Keeps m w (go w) →
      Keeps m w (membered p k v e w go)
  unfolding membered
  membered_keeps (Some v) m e w go a = leaves_same m w
  membered_keeps None m e w go a = a

  bool_keeps : (b : Bool) (m : Bool) (w : World) (f g : Bool → Outcome) → Keeps m w (f true) → Keeps m w (g false) →
      Keeps m w (on_bool b f g)
  bool_keeps true m w f g x y = x
  bool_keeps false m w f g x y = y

  mutual
    pub ev_keeps : (a : Tree) (m : Bool) (e : Env) (w : World) → Keeps m w (ev p k a m e w)
    ev_keeps (tree n pl s) m e w = shape_keeps s n pl m e w

    pub shape_keeps : (s : Shape) (n : ℕ) (pl : Place) (m : Bool) (e : Env) (w : World) → Keeps m w (ev_shape p k s n pl m e w)
    shape_keeps (t.Shape.block cs) n pl m e w = statements_keep cs m e unit w
    shape_keeps (t.Shape.defer a) n pl m e w = tt
    shape_keeps (t.Shape.definition x a) n pl m e w = valued_keeps m w _ _ _ (ev_keeps a m e w) (λ v u h. leaves_same m u)
    shape_keeps (t.Shape.typed x ty a) n pl m e w = valued_keeps m w _ _ _ (ev_keeps a m e w) (λ v u h. leaves_same m u)
    shape_keeps (t.Shape.variable x ty a) n pl m e w =
        valued_keeps m w _ _ _ (ev_keeps a m e w) (λ v u h. apply_keeps p k d (form.varying pl) (v ∷ []) m e u)
    shape_keeps (t.Shape.assignment x a b) n pl m e w =
        targets_keep a (form.storing (base_of p a) (mode_of x) pl) (b ∷ []) m e w _ (λ vs u. valued_keeps m u _ _ _ (ev_keeps b m e u)
        (λ v z h. apply_keeps p k d (form.storing (base_of p a) (mode_of x) pl) (vs ++ v ∷ []) m e z))
    shape_keeps (t.Shape.returned a) n pl m e w = valued_keeps m w _ _ _ (ev_keeps a m e w) (λ v u h. leaves_same m u)
    shape_keeps t.Shape.returned_unit n pl m e w = leaves_same m w
    shape_keeps t.Shape.break_form n pl m e w = leaves_same m w
    shape_keeps (t.Shape.if_else cs a b) n pl m e w =
        attempted_keeps m w _ _ _ (statements_keep cs false e unit w) (λ e v u h. ev_keeps a m e u) (λ u h. ev_keeps b m e u)
    shape_keeps (t.Shape.if_alone cs a) n pl m e w =
        attempted_keeps m w _ _ _ (statements_keep cs false e unit w) (λ e v u h. ev_keeps a m e u) (λ u h. leaves_same m u)
    shape_keeps (t.Shape.negation a) n pl m e w =
        attempted_keeps m w _ _ _ (ev_keeps a false e w) (λ e v u h. undone_keeps m w.state.memory u) (λ u h. leaves_same m u)
    shape_keeps (t.Shape.option cs) n pl m e w =
        attempted_keeps m w _ _ _ (statements_keep cs false e unit w) (λ e1 v u h. told_keeps m u _ pl e (still_memory u _)) (λ u h.
        leaves_same m u)
    shape_keeps (t.Shape.logic cs) n pl m e w =
        attempted_keeps m w _ _ _ (statements_keep cs false e unit w) (λ e v u h. leaves_same m u) (λ u h. leaves_same m u)
    shape_keeps (t.Shape.chained op.Or a b) n pl m e w =
        attempted_keeps m w _ _ _ (ev_keeps a false e w) (λ e v u h. leaves_same m u) (λ u h. ev_keeps b m e u)
    shape_keeps (t.Shape.for_form cs a) n pl m e w =
        attempted_keeps m w _ _ _ (clauses_keep cs false e unit w) (λ e1 v u h. level_keeps cs a _ pl e1 v _ m u (λ e u. ev_keeps a m e
        u)) (λ u h. leaves_same m u)
    shape_keeps (t.Shape.chained op.Div a b) n pl m e w = tt
    shape_keeps (t.Shape.chained x a b) n pl m e w =
        valued_keeps m w _ _ _ (ev_keeps a m e w) (λ v u h. valued_keeps m u _ _ _ (ev_keeps b m e u) (λ y z h. apply_keeps p k d
        (form.computing x (p.is_array n) pl) (v ∷ y ∷ []) m e z))
    shape_keeps (t.Shape.compared x a b) n pl m e w =
        valued_keeps m w _ _ _ (ev_keeps a m e w) (λ v u h. valued_keeps m u _ _ _ (ev_keeps b m e u) (λ y z h. apply_keeps p k d
        (form.comparing x) (v ∷ y ∷ []) m e z))
    shape_keeps (t.Shape.minus a) n pl m e w =
        valued_keeps m w _ _ _ (ev_keeps a m e w) (λ v u h. apply_keeps p k d (form.negating pl) (v ∷ []) m e u)
    shape_keeps (t.Shape.query a) n pl m e w =
        valued_keeps m w _ _ _ (ev_keeps a m e w) (λ v u h. apply_keeps p k d form.querying (v ∷ []) m e u)
    shape_keeps (t.Shape.member a x) n pl m e w =
        membered_keeps (enum_member p a x) m e w _
        (valued_keeps m w _ _ _ (ev_keeps a m e w) (λ v u h. apply_keeps p k d (member_form (ref_at p n) x) (v ∷ []) m e u))
    shape_keeps (t.Shape.call a ts) n pl m e w = callee_keeps (callee_of p a (picked ts) pl) m w _ _ _ _ (λ f. args_keep ts f [] m e w)
        (λ f. valued_keeps m w _ _ _ (inner_keeps a m e w) (λ v u h. args_keep ts f (v ∷ []) m e u)) (λ f. valued_keeps m w _ _ _
        (ev_keeps a m e w) (λ v u h. apply_keeps p k d f (v ∷ []) m e u)) (λ f. quotient_keeps ts f m e w)
    shape_keeps (t.Shape.index a ts) n pl m e w = callee_keeps (callee_of p a form.indexing pl) m w _ _ _ _ (λ f. args_keep ts f [] m e w)
        (λ f. valued_keeps m w _ _ _ (inner_keeps a m e w) (λ v u h. args_keep ts f (v ∷ []) m e u)) (λ f. valued_keeps m w _ _ _
        (ev_keeps a m e w) (λ v u h. args_keep ts f (v ∷ []) m e u)) (λ f. quotient_keeps ts f m e w)
    shape_keeps (t.Shape.integer z) n pl m e w = leaves_same m w
    shape_keeps (t.Shape.character c) n pl m e w = leaves_same m w
    shape_keeps (t.Shape.text bs) n pl m e w = leaves_same m w
    shape_keeps (t.Shape.holes bs hs) n pl m e w = holes_keep hs _ [] m e w
    shape_keeps t.Shape.truth n pl m e w = leaves_same m w
    shape_keeps t.Shape.falsehood n pl m e w = leaves_same m w
    shape_keeps t.Shape.this n pl m e w = known_keeps m w (this_of e) _ (λ v. leaves_same m w)
    shape_keeps (t.Shape.name x) n pl m e w = named_keeps (ref_at p n) x pl m e w
    shape_keeps (t.Shape.tuple ts) n pl m e w = args_keep ts _ [] m e w
    shape_keeps (t.Shape.array ts) n pl m e w = args_keep ts _ [] m e w
    shape_keeps (t.Shape.mapping ps) n pl m e w = pairs_keep ps _ [] m e w
    shape_keeps (t.Shape.instance x gs) n pl m e w = known_keeps m w (class_ref p (ref_at p n)) _ (λ c. givens_keep gs _ [] m e w)
    shape_keeps (t.Shape.event ty) n pl m e w = told_keeps m w _ pl e (added_memory w _ _)
    shape_keeps t.Shape.bare_event n pl m e w = told_keeps m w _ pl e (added_memory w _ _)
    shape_keeps (t.Shape.loop_form a) n pl m e w = d.loops m _ _ e w (λ u. ev_keeps a m e u)
    shape_keeps (t.Shape.block_form a) n pl m e w = ev_keeps a m e w
    shape_keeps (t.Shape.cases a ts) n pl m e w = valued_keeps m w _ _ _ (ev_keeps a m e w) (λ v u h. chosen_keeps ts v m e u)
    shape_keeps (t.Shape.branch a) n pl m e w =
        outside_keeps m w _ (λ h. begins_keeps w _ _ (λ u. ev_keeps a true e u) (λ u o h. branch_keeps u e o h))
    shape_keeps (t.Shape.sync ts) n pl m e w = outside_keeps m w _ (λ h. started_keeps sync pl ts e no_arms w)
    shape_keeps (t.Shape.race ts) n pl m e w = outside_keeps m w _ (λ h. started_keeps race pl ts e no_arms w)
    shape_keeps (t.Shape.rush ts) n pl m e w = outside_keeps m w _ (λ h. started_keeps rush pl ts e no_arms w)
    shape_keeps (t.Shape.spawn a) n pl m e w = spawn_keeps a m e w
    shape_keeps (t.Shape.sleep z) n pl m e w = outside_keeps m w _ (λ h. suspended_keeps (after z w.state) e w)
    shape_keeps t.Shape.sleep_forever n pl m e w = outside_keeps m w _ (λ h. suspended_keeps never e w)
    shape_keeps s n pl m e w = tt

    pub statements_keep : (cs : Trees) (m : Bool) (e : Env) (last : Val) (w : World) → Keeps m w (statements p k cs m e last w)
    statements_keep no_trees m e last w = leaves_same m w
    statements_keep (more_trees a cs) m e last w =
        stated_keeps (statement_of a) e cs m w _ _ _ (λ u. ev_keeps a m e u) (λ u. inner_keeps a m e u) (λ e v u. statements_keep cs m e v
        u)

    pub inner_keeps : (a : Tree) (m : Bool) (e : Env) (w : World) → Keeps m w (inner p k a m e w)
    inner_keeps (tree n pl s) m e w = inner_shape_keeps s m e w

    pub inner_shape_keeps : (s : Shape) (m : Bool) (e : Env) (w : World) → Keeps m w (inner_shape p k s m e w)
    inner_shape_keeps (t.Shape.definition x a) m e w = ev_keeps a m e w
    inner_shape_keeps (t.Shape.typed x ty a) m e w = ev_keeps a m e w
    inner_shape_keeps (t.Shape.variable x ty a) m e w = ev_keeps a m e w
    inner_shape_keeps (t.Shape.member a x) m e w = ev_keeps a m e w
    inner_shape_keeps (t.Shape.elements x a) m e w = ev_keeps a m e w
    inner_shape_keeps (t.Shape.entries x y a) m e w = ev_keeps a m e w
    inner_shape_keeps (t.Shape.range x a b) m e w =
        valued_keeps m w _ _ _ (ev_keeps a m e w) (λ v u h. valued_keeps m u _ _ _ (ev_keeps b m e u) (λ y z h. leaves_same m z))
    inner_shape_keeps s m e w = tt

    pub args_keep : (ts : Trees) (f : Form) (vs : List Val) (m : Bool) (e : Env) (w : World) → Keeps m w (all_args p k ts f vs m e w)
    args_keep no_trees f vs m e w = apply_keeps p k d f vs m e w
    args_keep (more_trees a ts) f vs m e w = valued_keeps m w _ _ _ (ev_keeps a m e w) (λ v u h. args_keep ts f (vs ++ v ∷ []) m e u)

    pub holes_keep : (hs : Holes) (f : Form) (vs : List Val) (m : Bool) (e : Env) (w : World) → Keeps m w (holed p k hs f vs m e w)
    holes_keep no_holes f vs m e w = apply_keeps p k d f vs m e w
    holes_keep (more_holes a bs hs) f vs m e w = valued_keeps m w _ _ _ (ev_keeps a m e w) (λ v u h. holes_keep hs f (vs ++ v ∷ []) m e u)

    pub pairs_keep : (ps : t.Pairs) (f : Form) (vs : List Val) (m : Bool) (e : Env) (w : World) → Keeps m w (paired_args p k ps f vs m e w)
    pairs_keep t.Pairs.no_pairs f vs m e w = apply_keeps p k d f vs m e w
    pairs_keep (t.Pairs.more_pairs a b ps) f vs m e w =
        valued_keeps m w _ _ _ (ev_keeps a m e w) (λ x u h. valued_keeps m u _ _ _ (ev_keeps b m e u) (λ y z h. pairs_keep ps f (vs ++ x ∷
        y ∷ []) m e z))

    pub givens_keep : (gs : Givens) (f : Form) (vs : List Val) (m : Bool) (e : Env) (w : World) → Keeps m w (given_args p k gs f vs m e w)
    givens_keep no_givens f vs m e w = apply_keeps p k d f vs m e w
    givens_keep (more_givens x a gs) f vs m e w = valued_keeps m w _ _ _ (ev_keeps a m e w) (λ v u h. givens_keep gs f (vs ++ v ∷ []) m e u)

    pub quotient_keeps : (ts : Trees) (f : Form) (m : Bool) (e : Env) (w : World) → Keeps m w (quotient p k ts f m e w)
    quotient_keeps no_trees f m e w = tt
    quotient_keeps (more_trees a ts) f m e w = quotient_tree_keeps a f m e w

    pub quotient_tree_keeps : (a : Tree) (f : Form) (m : Bool) (e : Env) (w : World) → Keeps m w (quotient_tree p k a f m e w)
    quotient_tree_keeps (tree n pl s) f m e w = quotient_shape_keeps s f m e w

    pub quotient_shape_keeps : (s : Shape) (f : Form) (m : Bool) (e : Env) (w : World) → Keeps m w (quotient_shape p k s f m e w)
    quotient_shape_keeps (t.Shape.chained x a b) f m e w =
        valued_keeps m w _ _ _ (ev_keeps a m e w) (λ v u h. valued_keeps m u _ _ _ (ev_keeps b m e u) (λ y z h. apply_keeps p k d f (v ∷ y
        ∷ []) m e z))
    quotient_shape_keeps s f m e w = tt

    pub targets_keep : (a : Tree) (f : Form) (left : List Tree) (m : Bool) (e : Env) (w : World) (go : List Val → World → Outcome) →
        ((vs : List Val) (u : World) → Keeps m u (go vs u)) → Keeps m w (targets p k a f left m e w go)
    targets_keep (tree n pl s) f left m e w go g = targets_shape_keep s f left m e w go g

    pub targets_shape_keep : (s : Shape) (f : Form) (left : List Tree) (m : Bool) (e : Env) (w : World) (go : List Val → World →
        Outcome) → ((vs : List Val) (u : World) → Keeps m u (go vs u)) → Keeps m w (targets_shape p k s f left m e w go)
    targets_shape_keep (t.Shape.name x) f left m e w go g = g [] w
    targets_shape_keep (t.Shape.member a x) f left m e w go g = valued_keeps m w _ _ _ (ev_keeps a m e w) (λ v u h. g (v ∷ []) u)
    targets_shape_keep (t.Shape.index a ts) f left m e w go g = targets_keep a f _ m e w _ (λ vs u. indices_keep ts f vs left m e u go g)
    targets_shape_keep s f left m e w go g = tt

    pub indices_keep : (ts : Trees) (f : Form) (vs : List Val) (left : List Tree) (m : Bool) (e : Env) (w : World) (go : List Val →
        World → Outcome) → ((vs : List Val) (u : World) → Keeps m u (go vs u)) → Keeps m w (indices p k ts f vs left m e w go)
    indices_keep no_trees f vs left m e w go g = g vs w
    indices_keep (more_trees a ts) f vs left m e w go g =
        valued_keeps m w _ _ _ (ev_keeps a m e w) (λ v u h. indices_keep ts f (vs ++ v ∷ []) left m e u go g)

    pub clauses_keep : (cs : Trees) (m : Bool) (e : Env) (last : Val) (w : World) → Keeps m w (clauses p k cs m e last w)
    clauses_keep no_trees m e last w = leaves_same m w
    clauses_keep (more_trees a cs) m e last w =
        claused_keeps (statement_of a) e m w _ _ _ (λ u. ev_keeps a m e u) (λ u. inner_keeps a m e u) (λ e v u. clauses_keep cs m e v u)

    pub level_keeps : (cs : Trees) (a : Tree) (run : Env → World →
        Outcome) (pl : Place) (e : Env) (v so_far : Val) (m : Bool) (w : World) → ((e : Env) (u : World) → Keeps m u (run e u)) →
        Keeps m w (level p k cs a run pl e v so_far w)
    level_keeps no_trees a run pl e v so_far m w f = valued_keeps m w _ _ _ (f e w) (λ y u h. told_keeps m u _ pl e (still_memory u _))
    level_keeps (more_trees c cs) a run pl e v so_far m w f =
        levelled_keeps (statement_of c) v e so_far m w _ _ _ (level_keeps cs a run pl e v so_far m w f)
        (λ g x so_far u. attempted_keeps m u _ _ _ (clauses_keep cs false _ unit u) (λ e1 y z h. level_keeps cs a run pl e1 y so_far m z
        f) (λ z h. leaves_same m z))

    pub chosen_keeps : (ts : Trees) (v : Val) (m : Bool) (e : Env) (w : World) → Keeps m w (chosen p k ts v m e w)
    chosen_keeps no_trees v m e w = tt
    chosen_keeps (more_trees a ts) v m e w = arm_keeps a (none_left ts) v m e w _ (chosen_keeps ts v m e w)

    pub arm_keeps : (a : Tree) (last : Bool) (v : Val) (m : Bool) (e : Env) (w : World) (go : World → Outcome) → Keeps m w (go w) →
        Keeps m w (arm_of p k a last v m e w go)
    arm_keeps (tree n pl s) last v m e w go g = arm_shape_keeps s last v m e w go g

    pub arm_shape_keeps : (s : Shape) (last : Bool) (v : Val) (m : Bool) (e : Env) (w : World) (go : World → Outcome) → Keeps m w (go w) →
        Keeps m w (arm_of_shape p k s last v m e w go)
    arm_shape_keeps (t.Shape.arm a b) last v m e w go g = bool_keeps (cond last true (pattern_fits p a v)) m w _ _ (ev_keeps b m e w) g
    arm_shape_keeps s last v m e w go g = tt

    pub started_keeps : (kd : Kind) (pl : Place) (ts : Trees) (e : Env) (gs : Arms) (w : World) → Keeps true w (started p k kd pl ts e gs w)
    started_keeps kd pl no_trees e gs w = settled_keeps kd pl e gs w
    started_keeps kd pl (more_trees a ts) e gs w = begins_keeps w _ _ (λ u. ev_keeps a true e u) (λ u o h. armed_keeps u o _ _ h
        (λ v z. gave_keeps kd pl e (with_arm gs (gave v no_arms)) z _ (started_keeps kd pl ts e (with_arm gs (gave v no_arms)) z)) (λ s z.
        started_keeps kd pl ts e (with_arm gs (runs s no_arms)) z))

    pub spawn_keeps : (a : Tree) (m : Bool) (e : Env) (w : World) → Keeps m w (spawned p k a m e w)
    spawn_keeps (tree n pl s) m e w = spawn_shape_keeps s pl m e w

    pub spawn_shape_keeps : (s : Shape) (pl : Place) (m : Bool) (e : Env) (w : World) → Keeps m w (spawned_shape p k s pl m e w)
    spawn_shape_keeps (t.Shape.call a ts) pl m e w =
        callee_keeps (spawned_callee (callee_of p a (form.picking None) pl)) m w _ _ _ _ (λ f. args_keep ts f [] m e w)
        (λ f. valued_keeps m w _ _ _ (inner_keeps a m e w) (λ v u h. args_keep ts f (v ∷ []) m e u)) (λ f. tt) (λ f. tt)
    spawn_shape_keeps s pl m e w = tt
