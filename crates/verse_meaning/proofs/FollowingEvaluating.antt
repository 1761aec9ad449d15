-- A relation that each step keeps, through every form, start and end.
use Rattle.std.proofs.Common.{ℕ, List, [], ◌∷◌, ◌++◌, Option, Some, None, Bool, true, false, cond, sym, subst}
use Rattle.verse_base.specs.declared.places.Place.{Place}
use Rattle.verse_tree.specs.Tree.{Bytes, Tree, tree, Shape, Trees, no_trees, more_trees, Holes, no_holes, more_holes, Givens, no_givens}
use Rattle.verse_tree.specs.Tree.{more_givens}
use Rattle.verse_tree.specs.Tree as t
use Rattle.verse_tree.specs.declared.exprs.Operator.TheVariants as op
use Rattle.verse_tree.specs.declared.tables.Ref.{Ref}
use Rattle.verse_tree.specs.declared.tables.Ref.TheVariants as ref
use Rattle.verse_value.specs.Val.{Val, unit}
use Rattle.verse_meaning_state.specs.State.{State, with_result}
use Rattle.verse_meaning_state.specs.Waits.{never, after}
use Rattle.verse_meaning_state.specs.Turns.{Kind, sync, race, rush}
use Rattle.verse_meaning.specs.Programs.{Program, ref_at}
use Rattle.verse_meaning.specs.Residuals as form
use Rattle.verse_meaning.specs.Residuals.{Env, Form, Generator, Values, Role, part, body, root, Residual, leaf, args, seq, deferred}
use Rattle.verse_meaning.specs.Residuals.{looped, filling, generated, called, arms, Scope, scope, Scopes, none, also, Arms, no_arms, gave}
use Rattle.verse_meaning.specs.Residuals.{runs}
use Rattle.verse_meaning.specs.Outcomes.{World, set_behind, Outcome, value, failed, returned, broke, halted, rests, TaskOutcome, ends}
use Rattle.verse_meaning.specs.Outcomes.{Went, went, quits, on_went_task, finished, not_given, all_gave, first_gave, with_arm}
use Rattle.verse_meaning.specs.Forms.{Deeper, look, this_of, values_of}
use Rattle.verse_meaning.specs.Evaluating.{Statement, plain, defines, defers, generates, statement_of, Callee, alone, of_object, of_value}
use Rattle.verse_meaning.specs.Evaluating.{of_quotient, no_callee, spawned_callee, mode_of, on_bool, callee_of, base_of, enum_member}
use Rattle.verse_meaning.specs.Evaluating.{picked, none_left, class_ref, pattern_fits, cancel_kids, cancel_own, cancel_scope_kids}
use Rattle.verse_meaning.specs.Evaluating.{cancel_scope_own, cancel_behind, cancel_arms, scope_ended, scope_returned, scope_end}
use Rattle.verse_meaning.specs.Evaluating.{or_stands, settled, arm_gave, begins_scope, stated, claused, generates_from, levelled}
use Rattle.verse_meaning.specs.Evaluating.{by_callee, named, member_form, membered, ev, ev_shape, statements, inner, inner_shape}
use Rattle.verse_meaning.specs.Evaluating.{all_args, holed, paired_args, given_args, quotient, quotient_tree, quotient_shape, targets}
use Rattle.verse_meaning.specs.Evaluating.{targets_shape, indices, clauses, level, chosen, arm_of, arm_of_shape, started, spawned}
use Rattle.verse_meaning.specs.Evaluating.{spawned_shape}
use Rattle.verse_meaning.specs.RunLaws.{Reaches}
use Rattle.verse_meaning.proofs.Following.{Closed, ReachesTask, ReachesWent, armed_follow, attempted_follow, branch_follow}
use Rattle.verse_meaning.proofs.Following.{closing_follow, denied_follow, dropped_follow, known_follow, left_state, on_went_follow}
use Rattle.verse_meaning.proofs.Following.{outside_follow, spends_follow, suspended_follow, there_follow, told_follow, valued_follow}
use Rattle.verse_meaning.proofs.Following.{went_on_follow, went_then_follow}
use Rattle.verse_meaning.proofs.FollowingForms.{DeeperFollows, added_writes, apply_follow, defined_follow, read_bound_follow}
use Rattle.verse_meaning.proofs.FollowingForms.{read_slot_follow, still_writes}

module _ {R : State → State → Type 0} (cl : Closed R) (p : Program) (k : Deeper) (d : DeeperFollows R k) where
  mutual
    pub kids_follow : (r : Residual) (w : World) → ReachesWent R w.state (cancel_kids p k r w)
    kids_follow (leaf x e) w = cl.same w.state
    kids_follow (args e f vs r left) w = kids_follow r w
    kids_follow (seq e b r left) w = kids_follow r w
    kids_follow (deferred e a r) w = kids_follow r w
    kids_follow (looped e a r) w = kids_follow r w
    kids_follow (filling e c pl fs xs vs ss r) w = kids_follow r w
    kids_follow (generated e g cs a pl vs r) w = kids_follow r w
    kids_follow (called e s) w = scope_kids_follow s w
    kids_follow (arms kd pl e gs) w = arms_follow gs w

    pub own_follow : (r : Residual) (w : World) → ReachesWent R w.state (cancel_own p k r w)
    own_follow (leaf x e) w = cl.same w.state
    own_follow (args e f vs r left) w = own_follow r w
    own_follow (seq e b r left) w = own_follow r w
    own_follow (deferred e a r) w =
        went_on_follow cl w.state (cancel_own p k r w) _ (own_follow r w) (λ u. dropped_follow cl u.state (k.parts a e u) (d.parts a e u))
    own_follow (looped e a r) w = own_follow r w
    own_follow (filling e c pl fs xs vs ss r) w = own_follow r w
    own_follow (generated e g cs a pl vs r) w = own_follow r w
    own_follow (called e s) w = scope_own_follow s w
    own_follow (arms kd pl e gs) w = cl.same w.state

    pub scope_kids_follow : (s : Scope) (w : World) → ReachesWent R w.state (cancel_scope_kids p k s w)
    scope_kids_follow (scope q r bs) w = went_on_follow cl w.state (cancel_kids p k r w) _ (kids_follow r w) (λ u. behind_follow bs u)

    pub scope_own_follow : (s : Scope) (w : World) → ReachesWent R w.state (cancel_scope_own p k s w)
    scope_own_follow (scope q r bs) w = own_follow r w

    pub behind_follow : (bs : Scopes) (w : World) → ReachesWent R w.state (cancel_behind p k bs w)
    behind_follow none w = cl.same w.state
    behind_follow (also s bs) w =
        went_on_follow cl w.state (cancel_behind p k bs w) _ (behind_follow bs w) (λ u. went_on_follow cl u.state (cancel_scope_kids p k s
        u) _ (scope_kids_follow
        s u) (λ x. scope_own_follow s x))

    pub arms_follow : (gs : Arms) (w : World) → ReachesWent R w.state (cancel_arms p k gs w)
    arms_follow no_arms w = cl.same w.state
    arms_follow (gave v gs) w = arms_follow gs w
    arms_follow (runs s gs) w =
        went_on_follow cl w.state (cancel_arms p k gs w) _ (arms_follow gs w) (λ u. went_on_follow cl u.state (cancel_scope_kids p k s u) _
        (scope_kids_follow s
        u) (λ x. scope_own_follow s x))

  -- the end of a scope
  finished_follow : (s : State) (q : Role) (v : Val) (u : World) → R s u.state → R s (finished q v u).state
  finished_follow s part v u a = a
  finished_follow s body v u a = a
  finished_follow s (root entry) v u a = cl.then s u.state (with_result entry v u.state) a (cl.gives_result entry v u.state)

  ended_went : (s : State) (q : Role) (v : Val) (outer : Scopes) (x : Went) → ReachesWent R s x →
      ReachesTask R s (on_went_task x (λ x. ends v (finished q v (set_behind x outer))))
  unfolding on_went_task
  ended_went s q v outer (went x) b = finished_follow s q v (set_behind x outer) b
  ended_went s q v outer (quits h) b = b

  ended_follow : (s : State) (q : Role) (outer : Scopes) (v : Val) (u : World) → R s u.state → ReachesTask R s (scope_ended p k q outer v u)
  ended_follow s q outer v u a =
      ended_went s q v outer (cancel_behind p k u.behind u) (went_then_follow cl s u.state (cancel_behind p k u.behind u) a (behind_follow
      u.behind u))

  returned_follow : (s : State) (q : Role) (outer : Scopes) (v : Val) (u : World) → R s u.state →
      ReachesTask R s (scope_returned p k q outer v u)
  returned_follow s part outer v u a = a
  returned_follow s body outer v u a = ended_follow s body outer v u a
  returned_follow s (root entry) outer v u a = ended_follow s (root entry) outer v u a

  not_given_follow : (s : State) (q : Role) (t : State) → R s t → ReachesTask R s (not_given q t)
  not_given_follow s part t a = a
  not_given_follow s body t a = a
  not_given_follow s (root entry) t a = a

  pub scope_follow : (s : State) (q : Role) (outer : Scopes) (o : Outcome) → Reaches R s o → ReachesTask R s (scope_end p k q outer o)
  unfolding scope_end
  scope_follow s q outer (value e v u) a = ended_follow s q outer v u a
  scope_follow s q outer (failed t) a = not_given_follow s q t a
  scope_follow s q outer (returned v u) a = returned_follow s q outer v u a
  scope_follow s q outer (broke u) a = a
  scope_follow s q outer (halted h) a = a
  scope_follow s q outer (rests r u) a = a

  stands_follow : {A : Type 0} (x : Option A) (m : Bool) (w : World) (o : Outcome) (go : A → Outcome) → Reaches R w.state o → ((x : A) →
      Reaches R w.state (go x)) → Reaches R w.state (or_stands p k x o go)
  unfolding or_stands
  stands_follow None m w o go a f = a
  stands_follow (Some x) m w o go a f = f x

  -- a race cancels its other arms before its value is used
  pub settled_follow : (kd : Kind) (pl : Place) (e : Env) (gs : Arms) (w : World) → Reaches R w.state (settled p k kd pl e gs w)
  unfolding settled
  settled_follow sync pl e gs w =
      stands_follow (all_gave gs) true w _ _ (cl.same w.state) (λ vs. told_follow cl w _ pl e (still_writes w.state _))
  settled_follow race pl e gs w =
      stands_follow (first_gave gs) true w _ _ (cl.same w.state) (λ v. on_went_follow cl w.state (cancel_arms p k gs w) _ (arms_follow gs
      w) (λ u. cl.same u.state))
  settled_follow rush pl e gs w =
      stands_follow (first_gave gs) true w _ _ (cl.same w.state) (λ v. subst (λ x. R w.state x) (sym (left_state gs w)) (cl.same w.state))

  gave_follow : (kd : Kind) (pl : Place) (e : Env) (gs : Arms) (w : World) (go : World → Outcome) → Reaches R w.state (go w) →
      Reaches R w.state (arm_gave p k kd pl e gs w go)
  unfolding arm_gave
  gave_follow sync pl e gs w go a = a
  gave_follow race pl e gs w go a = settled_follow race pl e gs w
  gave_follow rush pl e gs w go a = a

  begins_follow : (w : World) (run : World → Outcome) (go : TaskOutcome → Outcome) → ((u : World) → Reaches R u.state (run u)) →
      ((u : World) (o : TaskOutcome) → ReachesTask R u.state o → Reaches R u.state (go o)) → Reaches R w.state (begins_scope p k w run go)
  unfolding begins_scope
  begins_follow w run go f g =
      spends_follow cl w _ (λ u. g u (scope_end p k part u.behind (run (set_behind u none))) (scope_follow u.state part u.behind
      (run (set_behind u none)) (f (set_behind u none))))

  stated_follow : (x : Statement) (e : Env) (left : Trees) (m : Bool) (w : World) (whole inner : World → Outcome) (go : Env → Val → World →
      Outcome) → ((u : World) → Reaches R u.state (whole u)) → ((u : World) → Reaches R u.state (inner u)) →
      ((e : Env) (v : Val) (u : World) → Reaches R u.state (go e v u)) → Reaches R w.state (stated p k x e left w whole inner go)
  unfolding stated
  stated_follow plain e left m w whole inner go f g h = valued_follow cl w.state (whole w) _ _ (f w) (λ v u. h e v u)
  stated_follow (defines b) e left m w whole inner go f g h =
      valued_follow cl w.state (inner w) _ _ (g w) (λ v u. defined_follow cl p k d b e v m u go h)
  stated_follow (defers a) e left m w whole inner go f g h = closing_follow cl w.state (go e unit w) _ _ e (h e unit w) (λ u. d.parts a e u)
  stated_follow (generates x) e left m w whole inner go f g h = cl.same w.state

  claused_follow : (x : Statement) (e : Env) (m : Bool) (w : World) (whole inner : World → Outcome) (go : Env → Val → World → Outcome) →
      ((u : World) → Reaches R u.state (whole u)) → ((u : World) → Reaches R u.state (inner u)) →
      ((e : Env) (v : Val) (u : World) → Reaches R u.state (go e v u)) → Reaches R w.state (claused p k x e w whole inner go)
  unfolding claused
  claused_follow plain e m w whole inner go f g h = valued_follow cl w.state (whole w) _ _ (f w) (λ v u. h e v u)
  claused_follow (defines b) e m w whole inner go f g h = valued_follow cl w.state (inner w) _ _ (g w) (λ v u. defined_follow cl p k d b e v
      m u go h)
  claused_follow (defers a) e m w whole inner go f g h = cl.same w.state
  claused_follow (generates x) e m w whole inner go f g h = valued_follow cl w.state (inner w) _ _ (g w) (λ v u. cl.same u.state)

  from_follow : (g : Generator) (v : Val) (e : Env) (so_far : Val) (m : Bool) (w : World) (go : Val × Val → Val → World →
      Outcome) (wrap : Values → Residual → Residual) → ((x : Val × Val) (a : Val) (u : World) → Reaches R u.state (go x a u)) →
      Reaches R w.state (generates_from p k g v e so_far w go wrap)
  unfolding generates_from
  from_follow g v e so_far m w go wrap f = there_follow cl w (values_of g v) _ (λ vs. d.takes m go wrap e vs so_far w f)

  levelled_follow : (x : Statement) (v : Val) (e : Env) (so_far : Val) (m : Bool) (w : World) (on_go : World →
      Outcome) (taken : Generator → Val × Val → Val → World → Outcome) (wrap : Generator → Values → Residual → Residual) →
      Reaches R w.state (on_go w) → ((g : Generator) (x : Val × Val) (a : Val) (u : World) → Reaches R u.state (taken g x a u)) →
      Reaches R w.state (levelled p k x v e so_far w on_go taken wrap)
  unfolding levelled
  levelled_follow plain v e so_far m w on_go taken wrap a f = a
  levelled_follow (defines b) v e so_far m w on_go taken wrap a f = a
  levelled_follow (defers b) v e so_far m w on_go taken wrap a f = cl.same w.state
  levelled_follow (generates g) v e so_far m w on_go taken wrap a f = from_follow g v e so_far m w (taken g) (wrap g) (f g)

  callee_follow : (c : Callee) (m : Bool) (w : World) (f1 f2 f3 f4 : Form → World → Outcome) → ((f : Form) → Reaches R w.state (f1 f w)) →
      ((f : Form) → Reaches R w.state (f2 f w)) → ((f : Form) → Reaches R w.state (f3 f w)) → ((f : Form) → Reaches R w.state (f4 f w)) →
      Reaches R w.state (by_callee p k c w f1 f2 f3 f4)
  unfolding by_callee
  callee_follow (alone f) m w f1 f2 f3 f4 a b c d = a f
  callee_follow (of_object f) m w f1 f2 f3 f4 a b c d = b f
  callee_follow (of_value f) m w f1 f2 f3 f4 a b c d = c f
  callee_follow (of_quotient f) m w f1 f2 f3 f4 a b c d = d f
  callee_follow no_callee m w f1 f2 f3 f4 a b c d = cl.same w.state

  named_follow : (r : Option Ref) (x : Bytes) (pl : Place) (m : Bool) (e : Env) (w : World) → Reaches R w.state (named p k r x pl e w)
  unfolding named
  named_follow (Some (ref.Field c slot)) x pl m e w = read_slot_follow cl (this_of e) slot pl m e w
  named_follow r x pl m e w = read_bound_follow cl (look x e) pl m e w

  membered_follow : (v : Option Val) (m : Bool) (e : Env) (w : World) (go : World → Outcome) → Reaches R w.state (go w) →
      Reaches R w.state (membered p k v e w go)
  unfolding membered
  membered_follow (Some v) m e w go a = cl.same w.state
  membered_follow None m e w go a = a

  bool_follow : (b : Bool) (m : Bool) (w : World) (f g : Bool → Outcome) → Reaches R w.state (f true) → Reaches R w.state (g false) →
      Reaches R w.state (on_bool b f g)
  bool_follow true m w f g x y = x
  bool_follow false m w f g x y = y

  mutual
    pub ev_follow : (a : Tree) (m : Bool) (e : Env) (w : World) → Reaches R w.state (ev p k a m e w)
    ev_follow (tree n pl s) m e w = shape_follow s n pl m e w

    pub shape_follow : (s : Shape) (n : ℕ) (pl : Place) (m : Bool) (e : Env) (w : World) → Reaches R w.state (ev_shape p k s n pl m e w)
    shape_follow (t.Shape.block cs) n pl m e w = statements_follow cs m e unit w
    shape_follow (t.Shape.defer a) n pl m e w = cl.same w.state
    shape_follow (t.Shape.definition x a) n pl m e w = valued_follow cl w.state _ _ _ (ev_follow a m e w) (λ v u. cl.same u.state)
    shape_follow (t.Shape.typed x ty a) n pl m e w = valued_follow cl w.state _ _ _ (ev_follow a m e w) (λ v u. cl.same u.state)
    shape_follow (t.Shape.variable x ty a) n pl m e w =
        valued_follow cl w.state _ _ _ (ev_follow a m e w) (λ v u. apply_follow cl p k d (form.varying pl) (v ∷ []) m e u)
    shape_follow (t.Shape.assignment x a b) n pl m e w =
        targets_follow a (form.storing (base_of p a) (mode_of x) pl) (b ∷ []) m e w _ (λ vs u. valued_follow cl u.state _ _ _ (ev_follow b m
        e u)
        (λ v z. apply_follow cl p k d (form.storing (base_of p a) (mode_of x) pl) (vs ++ v ∷ []) m e z))
    shape_follow (t.Shape.returned a) n pl m e w = valued_follow cl w.state _ _ _ (ev_follow a m e w) (λ v u. cl.same u.state)
    shape_follow t.Shape.returned_unit n pl m e w = cl.same w.state
    shape_follow t.Shape.break_form n pl m e w = cl.same w.state
    shape_follow (t.Shape.if_else cs a b) n pl m e w =
        attempted_follow cl w _ _ _ (statements_follow cs false e unit w) (λ e v u. ev_follow a m e u) (λ u. ev_follow b m e u)
    shape_follow (t.Shape.if_alone cs a) n pl m e w =
        attempted_follow cl w _ _ _ (statements_follow cs false e unit w) (λ e v u. ev_follow a m e u) (λ u. cl.same u.state)
    shape_follow (t.Shape.negation a) n pl m e w =
        denied_follow cl w e _ (ev_follow a false e w)
    shape_follow (t.Shape.option cs) n pl m e w =
        attempted_follow cl w _ _ _ (statements_follow cs false e unit w) (λ e1 v u. told_follow cl u _ pl e (still_writes u.state _)) (λ u.
        cl.same u.state)
    shape_follow (t.Shape.logic cs) n pl m e w =
        attempted_follow cl w _ _ _ (statements_follow cs false e unit w) (λ e v u. cl.same u.state) (λ u. cl.same u.state)
    shape_follow (t.Shape.chained op.Or a b) n pl m e w =
        attempted_follow cl w _ _ _ (ev_follow a false e w) (λ e v u. cl.same u.state) (λ u. ev_follow b m e u)
    shape_follow (t.Shape.for_form cs a) n pl m e w =
        attempted_follow cl w _ _ _ (clauses_follow cs false e unit w) (λ e1 v u. level_follow cs a _ pl e1 v _ m u (λ e u. ev_follow a m e
        u)) (λ u. cl.same u.state)
    shape_follow (t.Shape.chained op.Div a b) n pl m e w = cl.same w.state
    shape_follow (t.Shape.chained x a b) n pl m e w =
        valued_follow cl w.state _ _ _ (ev_follow a m e w) (λ v u. valued_follow cl u.state _ _ _ (ev_follow b m e u) (λ y z. apply_follow
        cl p k d
        (form.computing x (p.is_array n) pl) (v ∷ y ∷ []) m e z))
    shape_follow (t.Shape.compared x a b) n pl m e w =
        valued_follow cl w.state _ _ _ (ev_follow a m e w) (λ v u. valued_follow cl u.state _ _ _ (ev_follow b m e u) (λ y z. apply_follow
        cl p k d
        (form.comparing x) (v ∷ y ∷ []) m e z))
    shape_follow (t.Shape.minus a) n pl m e w =
        valued_follow cl w.state _ _ _ (ev_follow a m e w) (λ v u. apply_follow cl p k d (form.negating pl) (v ∷ []) m e u)
    shape_follow (t.Shape.query a) n pl m e w =
        valued_follow cl w.state _ _ _ (ev_follow a m e w) (λ v u. apply_follow cl p k d form.querying (v ∷ []) m e u)
    shape_follow (t.Shape.member a x) n pl m e w =
        membered_follow (enum_member p a x) m e w _ (valued_follow cl w.state _ _ _ (ev_follow a m e w) (λ v u. apply_follow cl p k d
        (member_form (ref_at p n)
        x) (v ∷ []) m e u))
    shape_follow (t.Shape.call a ts) n pl m e w = callee_follow (callee_of p a (picked ts) pl) m w _ _ _ _ (λ f. args_follow ts f [] m e w)
        (λ f. valued_follow cl w.state _ _ _ (inner_follow a m e w) (λ v u. args_follow ts f (v ∷ []) m e u)) (λ f. valued_follow cl w.state
        _ _ _
        (ev_follow a m e w) (λ v u. apply_follow cl p k d f (v ∷ []) m e u)) (λ f. quotient_follow ts f m e w)
    shape_follow (t.Shape.index a ts) n pl m e w = callee_follow (callee_of p a form.indexing pl) m w _ _ _ _ (λ f. args_follow ts f [] m e
        w)
        (λ f. valued_follow cl w.state _ _ _ (inner_follow a m e w) (λ v u. args_follow ts f (v ∷ []) m e u)) (λ f. valued_follow cl w.state
        _ _ _
        (ev_follow a m e w) (λ v u. args_follow ts f (v ∷ []) m e u)) (λ f. quotient_follow ts f m e w)
    shape_follow (t.Shape.integer z) n pl m e w = cl.same w.state
    shape_follow (t.Shape.character c) n pl m e w = cl.same w.state
    shape_follow (t.Shape.text bs) n pl m e w = cl.same w.state
    shape_follow (t.Shape.holes bs hs) n pl m e w = holes_follow hs _ [] m e w
    shape_follow t.Shape.truth n pl m e w = cl.same w.state
    shape_follow t.Shape.falsehood n pl m e w = cl.same w.state
    shape_follow t.Shape.this n pl m e w = known_follow cl w (this_of e) _ (λ v. cl.same w.state)
    shape_follow (t.Shape.name x) n pl m e w = named_follow (ref_at p n) x pl m e w
    shape_follow (t.Shape.tuple ts) n pl m e w = args_follow ts _ [] m e w
    shape_follow (t.Shape.array ts) n pl m e w = args_follow ts _ [] m e w
    shape_follow (t.Shape.mapping ps) n pl m e w = pairs_follow ps _ [] m e w
    shape_follow (t.Shape.instance x gs) n pl m e w = known_follow cl w (class_ref p (ref_at p n)) _ (λ c. givens_follow gs _ [] m e w)
    shape_follow (t.Shape.event ty) n pl m e w = told_follow cl w _ pl e (added_writes w.state _ _)
    shape_follow t.Shape.bare_event n pl m e w = told_follow cl w _ pl e (added_writes w.state _ _)
    shape_follow (t.Shape.loop_form a) n pl m e w = d.loops m _ _ e w (λ u. ev_follow a m e u)
    shape_follow (t.Shape.block_form a) n pl m e w = ev_follow a m e w
    shape_follow (t.Shape.cases a ts) n pl m e w = valued_follow cl w.state _ _ _ (ev_follow a m e w) (λ v u. chosen_follow ts v m e u)
    shape_follow (t.Shape.branch a) n pl m e w =
        outside_follow cl m w _ (begins_follow w _ _ (λ u. ev_follow a true e u) (λ u o h. branch_follow cl u.state e o h))
    shape_follow (t.Shape.sync ts) n pl m e w = outside_follow cl m w _ (started_follow sync pl ts e no_arms w)
    shape_follow (t.Shape.race ts) n pl m e w = outside_follow cl m w _ (started_follow race pl ts e no_arms w)
    shape_follow (t.Shape.rush ts) n pl m e w = outside_follow cl m w _ (started_follow rush pl ts e no_arms w)
    shape_follow (t.Shape.spawn a) n pl m e w = spawn_follow a m e w
    shape_follow (t.Shape.sleep z) n pl m e w = outside_follow cl m w _ (suspended_follow cl (after z w.state) e w)
    shape_follow t.Shape.sleep_forever n pl m e w = outside_follow cl m w _ (suspended_follow cl never e w)
    shape_follow s n pl m e w = cl.same w.state

    pub statements_follow : (cs : Trees) (m : Bool) (e : Env) (last : Val) (w : World) → Reaches R w.state (statements p k cs m e last w)
    statements_follow no_trees m e last w = cl.same w.state
    statements_follow (more_trees a cs) m e last w =
        stated_follow (statement_of a) e cs m w _ _ _ (λ u. ev_follow a m e u) (λ u. inner_follow a m e u) (λ e v u. statements_follow cs m
        e v
        u)

    pub inner_follow : (a : Tree) (m : Bool) (e : Env) (w : World) → Reaches R w.state (inner p k a m e w)
    inner_follow (tree n pl s) m e w = inner_shape_follow s m e w

    pub inner_shape_follow : (s : Shape) (m : Bool) (e : Env) (w : World) → Reaches R w.state (inner_shape p k s m e w)
    inner_shape_follow (t.Shape.definition x a) m e w = ev_follow a m e w
    inner_shape_follow (t.Shape.typed x ty a) m e w = ev_follow a m e w
    inner_shape_follow (t.Shape.variable x ty a) m e w = ev_follow a m e w
    inner_shape_follow (t.Shape.member a x) m e w = ev_follow a m e w
    inner_shape_follow (t.Shape.elements x a) m e w = ev_follow a m e w
    inner_shape_follow (t.Shape.entries x y a) m e w = ev_follow a m e w
    inner_shape_follow (t.Shape.range x a b) m e w =
        valued_follow cl w.state _ _ _ (ev_follow a m e w) (λ v u. valued_follow cl u.state _ _ _ (ev_follow b m e u) (λ y z. cl.same
        z.state))
    inner_shape_follow s m e w = cl.same w.state

    pub args_follow : (ts : Trees) (f : Form) (vs : List Val) (m : Bool) (e : Env) (w : World) → Reaches R w.state (all_args p k ts f vs m e
        w)
    args_follow no_trees f vs m e w = apply_follow cl p k d f vs m e w
    args_follow (more_trees a ts) f vs m e w = valued_follow cl w.state _ _ _ (ev_follow a m e w) (λ v u. args_follow ts f (vs ++ v ∷ []) m
        e u)

    pub holes_follow : (hs : Holes) (f : Form) (vs : List Val) (m : Bool) (e : Env) (w : World) → Reaches R w.state (holed p k hs f vs m e
        w)
    holes_follow no_holes f vs m e w = apply_follow cl p k d f vs m e w
    holes_follow (more_holes a bs hs) f vs m e w = valued_follow cl w.state _ _ _ (ev_follow a m e w) (λ v u. holes_follow hs f (vs ++ v ∷
        []) m e u)

    pub pairs_follow : (ps : t.Pairs) (f : Form) (vs : List Val) (m : Bool) (e : Env) (w : World) → Reaches R w.state (paired_args p k ps f
        vs m e w)
    pairs_follow t.Pairs.no_pairs f vs m e w = apply_follow cl p k d f vs m e w
    pairs_follow (t.Pairs.more_pairs a b ps) f vs m e w =
        valued_follow cl w.state _ _ _ (ev_follow a m e w) (λ x u. valued_follow cl u.state _ _ _ (ev_follow b m e u) (λ y z. pairs_follow
        ps f (vs ++ x ∷
        y ∷ []) m e z))

    pub givens_follow : (gs : Givens) (f : Form) (vs : List Val) (m : Bool) (e : Env) (w : World) → Reaches R w.state (given_args p k gs f
        vs m e w)
    givens_follow no_givens f vs m e w = apply_follow cl p k d f vs m e w
    givens_follow (more_givens x a gs) f vs m e w = valued_follow cl w.state _ _ _ (ev_follow a m e w) (λ v u. givens_follow gs f (vs ++ v ∷
        []) m e u)

    pub quotient_follow : (ts : Trees) (f : Form) (m : Bool) (e : Env) (w : World) → Reaches R w.state (quotient p k ts f m e w)
    quotient_follow no_trees f m e w = cl.same w.state
    quotient_follow (more_trees a ts) f m e w = quotient_tree_follow a f m e w

    pub quotient_tree_follow : (a : Tree) (f : Form) (m : Bool) (e : Env) (w : World) → Reaches R w.state (quotient_tree p k a f m e w)
    quotient_tree_follow (tree n pl s) f m e w = quotient_shape_follow s f m e w

    pub quotient_shape_follow : (s : Shape) (f : Form) (m : Bool) (e : Env) (w : World) → Reaches R w.state (quotient_shape p k s f m e w)
    quotient_shape_follow (t.Shape.chained x a b) f m e w =
        valued_follow cl w.state _ _ _ (ev_follow a m e w) (λ v u. valued_follow cl u.state _ _ _ (ev_follow b m e u) (λ y z. apply_follow
        cl p k d f (v ∷ y
        ∷ []) m e z))
    quotient_shape_follow s f m e w = cl.same w.state

    pub targets_follow : (a : Tree) (f : Form) (left : List Tree) (m : Bool) (e : Env) (w : World) (go : List Val → World → Outcome) →
        ((vs : List Val) (u : World) → Reaches R u.state (go vs u)) → Reaches R w.state (targets p k a f left m e w go)
    targets_follow (tree n pl s) f left m e w go g = targets_shape_follow s f left m e w go g

    pub targets_shape_follow : (s : Shape) (f : Form) (left : List Tree) (m : Bool) (e : Env) (w : World) (go : List Val → World →
        Outcome) → ((vs : List Val) (u : World) → Reaches R u.state (go vs u)) → Reaches R w.state (targets_shape p k s f left m e w go)
    targets_shape_follow (t.Shape.name x) f left m e w go g = g [] w
    targets_shape_follow (t.Shape.member a x) f left m e w go g = valued_follow cl w.state _ _ _ (ev_follow a m e w) (λ v u. g (v ∷ []) u)
    targets_shape_follow (t.Shape.index a ts) f left m e w go g = targets_follow a f _ m e w _ (λ vs u. indices_follow ts f vs left m e u go
        g)
    targets_shape_follow s f left m e w go g = cl.same w.state

    pub indices_follow : (ts : Trees) (f : Form) (vs : List Val) (left : List Tree) (m : Bool) (e : Env) (w : World) (go : List Val →
        World → Outcome) → ((vs : List Val) (u : World) → Reaches R u.state (go vs u)) → Reaches R w.state (indices p k ts f vs left m e w
        go)
    indices_follow no_trees f vs left m e w go g = g vs w
    indices_follow (more_trees a ts) f vs left m e w go g =
        valued_follow cl w.state _ _ _ (ev_follow a m e w) (λ v u. indices_follow ts f (vs ++ v ∷ []) left m e u go g)

    pub clauses_follow : (cs : Trees) (m : Bool) (e : Env) (last : Val) (w : World) → Reaches R w.state (clauses p k cs m e last w)
    clauses_follow no_trees m e last w = cl.same w.state
    clauses_follow (more_trees a cs) m e last w =
        claused_follow (statement_of a) e m w _ _ _ (λ u. ev_follow a m e u) (λ u. inner_follow a m e u) (λ e v u. clauses_follow cs m e v
        u)

    pub level_follow : (cs : Trees) (a : Tree) (run : Env → World →
        Outcome) (pl : Place) (e : Env) (v so_far : Val) (m : Bool) (w : World) → ((e : Env) (u : World) → Reaches R u.state (run e u)) →
        Reaches R w.state (level p k cs a run pl e v so_far w)
    level_follow no_trees a run pl e v so_far m w f = valued_follow cl w.state _ _ _ (f e w) (λ y u. told_follow cl u _ pl e (still_writes
        u.state _))
    level_follow (more_trees c cs) a run pl e v so_far m w f =
        levelled_follow (statement_of c) v e so_far m w _ _ _ (level_follow cs a run pl e v so_far m w f)
        (λ g x so_far u. attempted_follow cl u _ _ _ (clauses_follow cs false _ unit u) (λ e1 y z. level_follow cs a run pl e1 y so_far m z
        f) (λ z. cl.same z.state))

    pub chosen_follow : (ts : Trees) (v : Val) (m : Bool) (e : Env) (w : World) → Reaches R w.state (chosen p k ts v m e w)
    chosen_follow no_trees v m e w = cl.same w.state
    chosen_follow (more_trees a ts) v m e w = arm_follow a (none_left ts) v m e w _ (chosen_follow ts v m e w)

    pub arm_follow : (a : Tree) (last : Bool) (v : Val) (m : Bool) (e : Env) (w : World) (go : World → Outcome) → Reaches R w.state (go w) →
        Reaches R w.state (arm_of p k a last v m e w go)
    arm_follow (tree n pl s) last v m e w go g = arm_shape_follow s last v m e w go g

    pub arm_shape_follow : (s : Shape) (last : Bool) (v : Val) (m : Bool) (e : Env) (w : World) (go : World → Outcome) → Reaches R w.state
        (go w) →
        Reaches R w.state (arm_of_shape p k s last v m e w go)
    arm_shape_follow (t.Shape.arm a b) last v m e w go g = bool_follow (cond last true (pattern_fits p a v)) m w _ _ (ev_follow b m e w) g
    arm_shape_follow s last v m e w go g = cl.same w.state

    pub started_follow : (kd : Kind) (pl : Place) (ts : Trees) (e : Env) (gs : Arms) (w : World) → Reaches R w.state (started p k kd pl ts e
        gs w)
    started_follow kd pl no_trees e gs w = settled_follow kd pl e gs w
    started_follow kd pl (more_trees a ts) e gs w = begins_follow w _ _ (λ u. ev_follow a true e u) (λ u o h. armed_follow cl u.state o _ _
        h
        (λ v z. gave_follow kd pl e (with_arm gs (gave v no_arms)) z _ (started_follow kd pl ts e (with_arm gs (gave v no_arms)) z)) (λ s z.
        started_follow kd pl ts e (with_arm gs (runs s no_arms)) z))

    pub spawn_follow : (a : Tree) (m : Bool) (e : Env) (w : World) → Reaches R w.state (spawned p k a m e w)
    spawn_follow (tree n pl s) m e w = spawn_shape_follow s pl m e w

    pub spawn_shape_follow : (s : Shape) (pl : Place) (m : Bool) (e : Env) (w : World) → Reaches R w.state (spawned_shape p k s pl m e w)
    spawn_shape_follow (t.Shape.call a ts) pl m e w =
        callee_follow (spawned_callee (callee_of p a (form.picking None) pl)) m w _ _ _ _ (λ f. args_follow ts f [] m e w)
        (λ f. valued_follow cl w.state _ _ _ (inner_follow a m e w) (λ v u. args_follow ts f (v ∷ []) m e u)) (λ f. cl.same w.state) (λ f.
        cl.same w.state)
    spawn_shape_follow s pl m e w = cl.same w.state
