-- Groups that still wait, through every form, start and end.
use Rattle.std.proofs.Common.{◌≡◌, refl, ℕ, List, [], ◌∷◌, ◌++◌, Option, Some, None, Bool, true, false, cond}
use Rattle.verse_base.specs.declared.places.Place.{Place}
use Rattle.verse_tree.specs.Tree.{Bytes, Tree, tree, Shape, Trees, no_trees, more_trees, Holes, no_holes, more_holes, Givens, no_givens}
use Rattle.verse_tree.specs.Tree.{more_givens}
use Rattle.verse_tree.specs.Tree as t
use Rattle.verse_tree.specs.declared.exprs.Operator.TheVariants as op
use Rattle.verse_tree.specs.declared.tables.Ref.{Ref}
use Rattle.verse_tree.specs.declared.tables.Ref.TheVariants as ref
use Rattle.verse_value.specs.Val.{Val, unit}
use Rattle.verse_value.specs.Operations.{tuple_of}
use Rattle.verse_meaning_state.specs.State.{State}
use Rattle.verse_meaning_state.specs.Waits.{never, after}
use Rattle.verse_meaning_state.specs.Turns.{Kind, sync, race, rush}
use Rattle.verse_meaning_state.specs.Effects.{still}
use Rattle.verse_meaning.specs.Programs.{Program, ref_at}
use Rattle.verse_meaning.specs.Residuals as form
use Rattle.verse_meaning.specs.Residuals.{Env, Form, Generator, Values, Role, part, body, root, Residual, leaf, args, seq, deferred}
use Rattle.verse_meaning.specs.Residuals.{looped, filling, generated, called, arms, Scope, scope, Scopes, none, also, Arms, no_arms, gave}
use Rattle.verse_meaning.specs.Residuals.{runs}
use Rattle.verse_meaning.specs.Outcomes.{World, set_behind, Outcome, value, failed, returned, broke, halted, rests, TaskOutcome, finished}
use Rattle.verse_meaning.specs.Outcomes.{not_given, all_gave, first_gave, with_arm, leave_all, on_went, told}
use Rattle.verse_meaning.specs.Forms.{Deeper, look, this_of, values_of}
use Rattle.verse_meaning.specs.Evaluating.{Statement, plain, defines, defers, generates, statement_of, Callee, alone, of_object, of_value}
use Rattle.verse_meaning.specs.Evaluating.{of_quotient, no_callee, spawned_callee, mode_of, on_bool, callee_of, base_of, enum_member}
use Rattle.verse_meaning.specs.Evaluating.{picked, none_left, class_ref, pattern_fits, cancel_kids, cancel_own, cancel_scope_kids}
use Rattle.verse_meaning.specs.Evaluating.{cancel_scope_own, cancel_behind, cancel_arms, scope_ended, scope_returned, scope_end}
use Rattle.verse_meaning.specs.Evaluating.{or_stands, settled, arm_gave, begins_scope, stated, claused, generates_from, levelled}
use Rattle.verse_meaning.specs.Evaluating.{by_callee, named, member_form, membered, ev, ev_shape, statements, inner, inner_shape}
use Rattle.verse_meaning.specs.Evaluating.{all_args, holed, paired_args, given_args, quotient, quotient_tree, quotient_shape, targets}
use Rattle.verse_meaning.specs.Evaluating.{targets_shape, indices, clauses, level, chosen, arm_of, arm_of_shape, started, spawned}
use Rattle.verse_meaning.specs.Evaluating.{spawned_shape}
use Rattle.verse_meaning.specs.RunLaws.{ArmsWait, BehindWaits}
use Rattle.verse_meaning.proofs.WaitingForms.{DeeperHolds, apply_holds, defined_holds, read_bound_holds, read_slot_holds}
use Rattle.verse_meaning.proofs.Waiting.{Holds, HoldsTask, HoldsWent, OutcomeWaits, TaskWaits, WorldWaits, Wraps, armed_holds}
use Rattle.verse_meaning.proofs.Waiting.{attempted_holds, branch_holds, closing_holds, denied_holds, dropped_holds, gave_waits}
use Rattle.verse_meaning.proofs.Waiting.{known_holds, left_waits, on_went_holds, on_went_task_out, outside_holds, runs_waits}
use Rattle.verse_meaning.proofs.Waiting.{spends_holds, suspended_holds, there_holds, told_holds, valued_holds, went_on_holds}

module _ (p : Program) (k : Deeper) (d : DeeperHolds k) where
  mutual
    pub kids_holds : (r : Residual) (w : World) → HoldsWent w (cancel_kids p k r w)
    kids_holds (leaf x e) w = λ h. h
    kids_holds (args e f vs r left) w = kids_holds r w
    kids_holds (seq e b r left) w = kids_holds r w
    kids_holds (deferred e a r) w = kids_holds r w
    kids_holds (looped e a r) w = kids_holds r w
    kids_holds (filling e c pl fs xs vs ss r) w = kids_holds r w
    kids_holds (generated e g cs a pl vs r) w = kids_holds r w
    kids_holds (called e s) w = scope_kids_holds s w
    kids_holds (arms kd pl e gs) w = arms_holds gs w

    pub own_holds : (r : Residual) (w : World) → HoldsWent w (cancel_own p k r w)
    own_holds (leaf x e) w = λ h. h
    own_holds (args e f vs r left) w = own_holds r w
    own_holds (seq e b r left) w = own_holds r w
    own_holds (deferred e a r) w =
        went_on_holds w (cancel_own p k r w) _ (own_holds r w) (λ u. dropped_holds u (k.parts a e u) (d.parts a e u))
    own_holds (looped e a r) w = own_holds r w
    own_holds (filling e c pl fs xs vs ss r) w = own_holds r w
    own_holds (generated e g cs a pl vs r) w = own_holds r w
    own_holds (called e s) w = scope_own_holds s w
    own_holds (arms kd pl e gs) w = λ h. h

    pub scope_kids_holds : (s : Scope) (w : World) → HoldsWent w (cancel_scope_kids p k s w)
    scope_kids_holds (scope q r bs) w = went_on_holds w (cancel_kids p k r w) _ (kids_holds r w) (λ u. behind_holds bs u)

    pub scope_own_holds : (s : Scope) (w : World) → HoldsWent w (cancel_scope_own p k s w)
    scope_own_holds (scope q r bs) w = own_holds r w

    pub behind_holds : (bs : Scopes) (w : World) → HoldsWent w (cancel_behind p k bs w)
    behind_holds none w = λ h. h
    behind_holds (also s bs) w =
        went_on_holds w (cancel_behind p k bs w) _ (behind_holds bs w) (λ u. went_on_holds u (cancel_scope_kids p k s u) _ (scope_kids_holds
        s u) (λ x. scope_own_holds s x))

    pub arms_holds : (gs : Arms) (w : World) → HoldsWent w (cancel_arms p k gs w)
    arms_holds no_arms w = λ h. h
    arms_holds (gave v gs) w = arms_holds gs w
    arms_holds (runs s gs) w =
        went_on_holds w (cancel_arms p k gs w) _ (arms_holds gs w) (λ u. went_on_holds u (cancel_scope_kids p k s u) _ (scope_kids_holds s
        u) (λ x. scope_own_holds s x))

  -- the end of a scope
  finished_waits : (q : Role) (v : Val) (u : World) → WorldWaits u → WorldWaits (finished q v u)
  finished_waits part v u a = a
  finished_waits body v u a = a
  finished_waits (root entry) v u a = a

  ended_holds : (q : Role) (outer : Scopes) (v : Val) (u : World) → BehindWaits outer → HoldsTask u (scope_ended p k q outer v u)
  ended_holds q outer v u b a =
      on_went_task_out (cancel_behind p k u.behind u) _ (behind_holds u.behind u a) (λ x h. finished_waits q v (set_behind x outer) (
        b,
        h.1,
      ))

  returned_holds : (q : Role) (outer : Scopes) (v : Val) (u : World) → BehindWaits outer → HoldsTask u (scope_returned p k q outer v u)
  returned_holds part outer v u b a = tt
  returned_holds body outer v u b a = ended_holds body outer v u b a
  returned_holds (root entry) outer v u b a = ended_holds (root entry) outer v u b a

  not_given_waits : (q : Role) (t : State) → TaskWaits (not_given q t)
  not_given_waits part t = tt
  not_given_waits body t = tt
  not_given_waits (root entry) t = tt

  pub scope_holds : (q : Role) (outer : Scopes) (o : Outcome) → BehindWaits outer → OutcomeWaits o → TaskWaits (scope_end p k q outer o)
  unfolding scope_end
  scope_holds q outer (value e v u) b a = ended_holds q outer v u b a
  scope_holds q outer (failed t) b a = not_given_waits q t
  scope_holds q outer (returned v u) b a = returned_holds q outer v u b a
  scope_holds q outer (broke u) b a = tt
  scope_holds q outer (halted h) b a = tt
  scope_holds q outer (rests r u) b a = ((a.0, a.1.0), (b, a.1.1))

  settled_all : (pl : Place) (e : Env) (gs : Arms) (w : World) (x : Option (List Val)) → all_gave gs ≡ x → ArmsWait gs → Holds w
      (or_stands p k x (rests (arms sync pl e gs) w) (λ vs. told (still (tuple_of vs) w.state) pl e w))
  unfolding or_stands
  settled_all pl e gs w None h b a = ((h, b), a)
  settled_all pl e gs w (Some vs) h b a = told_holds w _ pl e a

  settled_race : (pl : Place) (e : Env) (gs : Arms) (w : World) (x : Option Val) → first_gave gs ≡ x → ArmsWait gs → Holds w
      (or_stands p k x (rests (arms race pl e gs) w) (λ v. on_went (cancel_arms p k gs w) (λ w. value e v w)))
  unfolding or_stands
  settled_race pl e gs w None h b a = ((h, b), a)
  settled_race pl e gs w (Some v) h b a = on_went_holds w (cancel_arms p k gs w) _ (arms_holds gs w) (λ u h. h) a

  settled_rush : (pl : Place) (e : Env) (gs : Arms) (w : World) (x : Option Val) → first_gave gs ≡ x → ArmsWait gs → Holds w
      (or_stands p k x (rests (arms rush pl e gs) w) (λ v. value e v (leave_all gs w)))
  unfolding or_stands
  settled_rush pl e gs w None h b a = ((h, b), a)
  settled_rush pl e gs w (Some v) h b a = left_waits gs w a b

  pub settled_holds : (kd : Kind) (pl : Place) (e : Env) (gs : Arms) (w : World) → ArmsWait gs → Holds w (settled p k kd pl e gs w)
  unfolding settled
  settled_holds sync pl e gs w b = settled_all pl e gs w (all_gave gs) refl b
  settled_holds race pl e gs w b = settled_race pl e gs w (first_gave gs) refl b
  settled_holds rush pl e gs w b = settled_rush pl e gs w (first_gave gs) refl b

  gave_holds : (kd : Kind) (pl : Place) (e : Env) (gs : Arms) (w : World) (go : World → Outcome) → ArmsWait gs → Holds w (go w) →
      Holds w (arm_gave p k kd pl e gs w go)
  unfolding arm_gave
  gave_holds sync pl e gs w go b a = a
  gave_holds race pl e gs w go b a = settled_holds race pl e gs w b
  gave_holds rush pl e gs w go b a = a

  begins_holds : (w : World) (run : World → Outcome) (go : TaskOutcome → Outcome) → ((u : World) → Holds u (run u)) →
      ((u : World) (o : TaskOutcome) → HoldsTask u o → Holds u (go o)) → Holds w (begins_scope p k w run go)
  unfolding begins_scope
  begins_holds w run go f g = spends_holds w _ (λ u. g u (scope_end p k part u.behind (run (set_behind u none))) (λ h.
      scope_holds part u.behind (run (set_behind u none)) h.0 (f (set_behind u none) (tt, h.1))))

  stated_holds : (x : Statement) (e : Env) (left : Trees) (m : Bool) (w : World) (whole inner : World → Outcome) (go : Env → Val → World →
      Outcome) → ((u : World) → Holds u (whole u)) → ((u : World) → Holds u (inner u)) →
      ((e : Env) (v : Val) (u : World) → Holds u (go e v u)) → Holds w (stated p k x e left w whole inner go)
  unfolding stated
  stated_holds plain e left m w whole inner go f g h = valued_holds w _ _ _ (λ r q. q) (f w) (λ v u. h e v u)
  stated_holds (defines b) e left m w whole inner go f g h =
      valued_holds w _ _ _ (λ r q. q) (g w) (λ v u. defined_holds p k d b e v m u go h)
  stated_holds (defers a) e left m w whole inner go f g h = closing_holds w _ _ _ e (λ r q. q) (h e unit w) (λ u. d.parts a e u)
  stated_holds (generates x) e left m w whole inner go f g q = λ h. tt

  claused_holds : (x : Statement) (e : Env) (m : Bool) (w : World) (whole inner : World → Outcome) (go : Env → Val → World → Outcome) →
      ((u : World) → Holds u (whole u)) → ((u : World) → Holds u (inner u)) →
      ((e : Env) (v : Val) (u : World) → Holds u (go e v u)) → Holds w (claused p k x e w whole inner go)
  unfolding claused
  claused_holds plain e m w whole inner go f g h = valued_holds w _ _ _ (λ r q. q) (f w) (λ v u. h e v u)
  claused_holds (defines b) e m w whole inner go f g h = valued_holds w _ _ _ (λ r q. q) (g w) (λ v u. defined_holds p k d b e v m u go h)
  claused_holds (defers a) e m w whole inner go f g q = λ h. tt
  claused_holds (generates x) e m w whole inner go f g h = valued_holds w _ _ _ (λ r q. q) (g w) (λ v u h. h)

  from_holds : (g : Generator) (v : Val) (e : Env) (so_far : Val) (m : Bool) (w : World) (go : Val × Val → Val → World →
      Outcome) (wrap : Values → Residual → Residual) → ((vs : Values) → Wraps (wrap vs)) → ((x : Val × Val) (a : Val) (u : World) → Holds u
      (go x a u)) →
      Holds w (generates_from p k g v e so_far w go wrap)
  unfolding generates_from
  from_holds g v e so_far m w go wrap b f = there_holds w (values_of g v) _ (λ vs. d.takes m go wrap e vs so_far w b f)

  levelled_holds : (x : Statement) (v : Val) (e : Env) (so_far : Val) (m : Bool) (w : World) (on_go : World →
      Outcome) (taken : Generator → Val × Val → Val → World → Outcome) (wrap : Generator → Values → Residual → Residual) →
      ((g : Generator) (vs : Values) → Wraps (wrap g vs)) → Holds w (on_go w) → ((g : Generator) (x : Val × Val) (a : Val) (u : World) →
      Holds u (taken g x a u)) →
      Holds w (levelled p k x v e so_far w on_go taken wrap)
  unfolding levelled
  levelled_holds plain v e so_far m w on_go taken wrap q a f = a
  levelled_holds (defines b) v e so_far m w on_go taken wrap q a f = a
  levelled_holds (defers b) v e so_far m w on_go taken wrap q a f = λ h. tt
  levelled_holds (generates g) v e so_far m w on_go taken wrap q a f = from_holds g v e so_far m w (taken g) (wrap g) (q g) (f g)

  callee_holds : (c : Callee) (m : Bool) (w : World) (f1 f2 f3 f4 : Form → World → Outcome) → ((f : Form) → Holds w (f1 f w)) →
      ((f : Form) → Holds w (f2 f w)) → ((f : Form) → Holds w (f3 f w)) → ((f : Form) → Holds w (f4 f w)) →
      Holds w (by_callee p k c w f1 f2 f3 f4)
  unfolding by_callee
  callee_holds (alone f) m w f1 f2 f3 f4 a b c d = a f
  callee_holds (of_object f) m w f1 f2 f3 f4 a b c d = b f
  callee_holds (of_value f) m w f1 f2 f3 f4 a b c d = c f
  callee_holds (of_quotient f) m w f1 f2 f3 f4 a b c d = d f
  callee_holds no_callee m w f1 f2 f3 f4 a b c d = λ h. tt

  named_holds : (r : Option Ref) (x : Bytes) (pl : Place) (m : Bool) (e : Env) (w : World) → Holds w (named p k r x pl e w)
  unfolding named
  named_holds (Some (ref.Field c slot)) x pl m e w = read_slot_holds (this_of e) slot pl m e w
  named_holds r x pl m e w = read_bound_holds (look x e) pl m e w

  membered_holds : (v : Option Val) (m : Bool) (e : Env) (w : World) (go : World → Outcome) → Holds w (go w) →
      Holds w (membered p k v e w go)
  unfolding membered
  membered_holds (Some v) m e w go a = λ h. h
  membered_holds None m e w go a = a

  bool_holds : (b : Bool) (m : Bool) (w : World) (f g : Bool → Outcome) → Holds w (f true) → Holds w (g false) →
      Holds w (on_bool b f g)
  bool_holds true m w f g x y = x
  bool_holds false m w f g x y = y

  mutual
    pub ev_holds : (a : Tree) (m : Bool) (e : Env) (w : World) → Holds w (ev p k a m e w)
    ev_holds (tree n pl s) m e w = shape_holds s n pl m e w

    pub shape_holds : (s : Shape) (n : ℕ) (pl : Place) (m : Bool) (e : Env) (w : World) → Holds w (ev_shape p k s n pl m e w)
    shape_holds (t.Shape.block cs) n pl m e w = statements_holds cs m e unit w
    shape_holds (t.Shape.defer a) n pl m e w = λ h. tt
    shape_holds (t.Shape.definition x a) n pl m e w = valued_holds w _ _ _ (λ r q. q) (ev_holds a m e w) (λ v u h. h)
    shape_holds (t.Shape.typed x ty a) n pl m e w = valued_holds w _ _ _ (λ r q. q) (ev_holds a m e w) (λ v u h. h)
    shape_holds (t.Shape.variable x ty a) n pl m e w =
        valued_holds w _ _ _ (λ r q. q) (ev_holds a m e w) (λ v u. apply_holds p k d (form.varying pl) (v ∷ []) m e u)
    shape_holds (t.Shape.assignment x a b) n pl m e w =
        targets_holds a (form.storing (base_of p a) (mode_of x) pl) (b ∷ []) m e w _ (λ vs u. valued_holds u _ _ _ (λ r q. q) (ev_holds b m
        e u)
        (λ v z. apply_holds p k d (form.storing (base_of p a) (mode_of x) pl) (vs ++ v ∷ []) m e z))
    shape_holds (t.Shape.returned a) n pl m e w = valued_holds w _ _ _ (λ r q. q) (ev_holds a m e w) (λ v u h. h)
    shape_holds t.Shape.returned_unit n pl m e w = λ h. h
    shape_holds t.Shape.break_form n pl m e w = λ h. h
    shape_holds (t.Shape.if_else cs a b) n pl m e w =
        attempted_holds w _ _ _ (statements_holds cs false e unit w) (λ e v u. ev_holds a m e u) (λ u. ev_holds b m e u)
    shape_holds (t.Shape.if_alone cs a) n pl m e w =
        attempted_holds w _ _ _ (statements_holds cs false e unit w) (λ e v u. ev_holds a m e u) (λ u h. h)
    shape_holds (t.Shape.negation a) n pl m e w =
        denied_holds w e _ (ev_holds a false e w)
    shape_holds (t.Shape.option cs) n pl m e w =
        attempted_holds w _ _ _ (statements_holds cs false e unit w) (λ e1 v u. told_holds u _ pl e) (λ u h. h)
    shape_holds (t.Shape.logic cs) n pl m e w =
        attempted_holds w _ _ _ (statements_holds cs false e unit w) (λ e v u h. h) (λ u h. h)
    shape_holds (t.Shape.chained op.Or a b) n pl m e w =
        attempted_holds w _ _ _ (ev_holds a false e w) (λ e v u h. h) (λ u. ev_holds b m e u)
    shape_holds (t.Shape.for_form cs a) n pl m e w =
        attempted_holds w _ _ _ (clauses_holds cs false e unit w) (λ e1 v u. level_holds cs a _ pl e1 v _ m u (λ e u. ev_holds a m e
        u)) (λ u h. h)
    shape_holds (t.Shape.chained op.Div a b) n pl m e w = λ h. tt
    shape_holds (t.Shape.chained x a b) n pl m e w =
        valued_holds w _ _ _ (λ r q. q) (ev_holds a m e w) (λ v u. valued_holds u _ _ _ (λ r q. q) (ev_holds b m e u) (λ y z. apply_holds p
        k d
        (form.computing x (p.is_array n) pl) (v ∷ y ∷ []) m e z))
    shape_holds (t.Shape.compared x a b) n pl m e w =
        valued_holds w _ _ _ (λ r q. q) (ev_holds a m e w) (λ v u. valued_holds u _ _ _ (λ r q. q) (ev_holds b m e u) (λ y z. apply_holds p
        k d
        (form.comparing x) (v ∷ y ∷ []) m e z))
    shape_holds (t.Shape.minus a) n pl m e w =
        valued_holds w _ _ _ (λ r q. q) (ev_holds a m e w) (λ v u. apply_holds p k d (form.negating pl) (v ∷ []) m e u)
    shape_holds (t.Shape.query a) n pl m e w =
        valued_holds w _ _ _ (λ r q. q) (ev_holds a m e w) (λ v u. apply_holds p k d form.querying (v ∷ []) m e u)
    shape_holds (t.Shape.member a x) n pl m e w =
        membered_holds (enum_member p a x) m e w _ (valued_holds w _ _ _ (λ r q. q) (ev_holds a m e w) (λ v u. apply_holds p k d
        (member_form (ref_at p n)
        x) (v ∷ []) m e u))
    shape_holds (t.Shape.call a ts) n pl m e w = callee_holds (callee_of p a (picked ts) pl) m w _ _ _ _ (λ f. args_holds ts f [] m e w)
        (λ f. valued_holds w _ _ _ (λ r q. q) (inner_holds a m e w) (λ v u. args_holds ts f (v ∷ []) m e u)) (λ f. valued_holds w _ _ _ (λ r
        q. q)
        (ev_holds a m e w) (λ v u. apply_holds p k d f (v ∷ []) m e u)) (λ f. quotient_holds ts f m e w)
    shape_holds (t.Shape.index a ts) n pl m e w = callee_holds (callee_of p a form.indexing pl) m w _ _ _ _ (λ f. args_holds ts f [] m e w)
        (λ f. valued_holds w _ _ _ (λ r q. q) (inner_holds a m e w) (λ v u. args_holds ts f (v ∷ []) m e u)) (λ f. valued_holds w _ _ _ (λ r
        q. q)
        (ev_holds a m e w) (λ v u. args_holds ts f (v ∷ []) m e u)) (λ f. quotient_holds ts f m e w)
    shape_holds (t.Shape.integer z) n pl m e w = λ h. h
    shape_holds (t.Shape.character c) n pl m e w = λ h. h
    shape_holds (t.Shape.text bs) n pl m e w = λ h. h
    shape_holds (t.Shape.holes bs hs) n pl m e w = holes_holds hs _ [] m e w
    shape_holds t.Shape.truth n pl m e w = λ h. h
    shape_holds t.Shape.falsehood n pl m e w = λ h. h
    shape_holds t.Shape.this n pl m e w = known_holds w (this_of e) _ (λ v h. h)
    shape_holds (t.Shape.name x) n pl m e w = named_holds (ref_at p n) x pl m e w
    shape_holds (t.Shape.tuple ts) n pl m e w = args_holds ts _ [] m e w
    shape_holds (t.Shape.array ts) n pl m e w = args_holds ts _ [] m e w
    shape_holds (t.Shape.mapping ps) n pl m e w = pairs_holds ps _ [] m e w
    shape_holds (t.Shape.instance x gs) n pl m e w = known_holds w (class_ref p (ref_at p n)) _ (λ c. givens_holds gs _ [] m e w)
    shape_holds (t.Shape.event ty) n pl m e w = told_holds w _ pl e
    shape_holds t.Shape.bare_event n pl m e w = told_holds w _ pl e
    shape_holds (t.Shape.loop_form a) n pl m e w = d.loops m _ _ e w (λ r q. q) (λ u. ev_holds a m e u)
    shape_holds (t.Shape.block_form a) n pl m e w = ev_holds a m e w
    shape_holds (t.Shape.cases a ts) n pl m e w = valued_holds w _ _ _ (λ r q. q) (ev_holds a m e w) (λ v u. chosen_holds ts v m e u)
    shape_holds (t.Shape.branch a) n pl m e w =
        outside_holds m w _ (begins_holds w _ _ (λ u. ev_holds a true e u) (λ u o h. branch_holds u e o h))
    shape_holds (t.Shape.sync ts) n pl m e w = outside_holds m w _ (started_holds sync pl ts e no_arms w tt)
    shape_holds (t.Shape.race ts) n pl m e w = outside_holds m w _ (started_holds race pl ts e no_arms w tt)
    shape_holds (t.Shape.rush ts) n pl m e w = outside_holds m w _ (started_holds rush pl ts e no_arms w tt)
    shape_holds (t.Shape.spawn a) n pl m e w = spawn_holds a m e w
    shape_holds (t.Shape.sleep z) n pl m e w = outside_holds m w _ (suspended_holds (after z w.state) e w)
    shape_holds t.Shape.sleep_forever n pl m e w = outside_holds m w _ (suspended_holds never e w)
    shape_holds s n pl m e w = λ h. tt

    pub statements_holds : (cs : Trees) (m : Bool) (e : Env) (last : Val) (w : World) → Holds w (statements p k cs m e last w)
    statements_holds no_trees m e last w = λ h. h
    statements_holds (more_trees a cs) m e last w =
        stated_holds (statement_of a) e cs m w _ _ _ (λ u. ev_holds a m e u) (λ u. inner_holds a m e u) (λ e v u. statements_holds cs m e v
        u)

    pub inner_holds : (a : Tree) (m : Bool) (e : Env) (w : World) → Holds w (inner p k a m e w)
    inner_holds (tree n pl s) m e w = inner_shape_holds s m e w

    pub inner_shape_holds : (s : Shape) (m : Bool) (e : Env) (w : World) → Holds w (inner_shape p k s m e w)
    inner_shape_holds (t.Shape.definition x a) m e w = ev_holds a m e w
    inner_shape_holds (t.Shape.typed x ty a) m e w = ev_holds a m e w
    inner_shape_holds (t.Shape.variable x ty a) m e w = ev_holds a m e w
    inner_shape_holds (t.Shape.member a x) m e w = ev_holds a m e w
    inner_shape_holds (t.Shape.elements x a) m e w = ev_holds a m e w
    inner_shape_holds (t.Shape.entries x y a) m e w = ev_holds a m e w
    inner_shape_holds (t.Shape.range x a b) m e w =
        valued_holds w _ _ _ (λ r q. q) (ev_holds a m e w) (λ v u. valued_holds u _ _ _ (λ r q. q) (ev_holds b m e u) (λ y z h. h))
    inner_shape_holds s m e w = λ h. tt

    pub args_holds : (ts : Trees) (f : Form) (vs : List Val) (m : Bool) (e : Env) (w : World) → Holds w (all_args p k ts f vs m e w)
    args_holds no_trees f vs m e w = apply_holds p k d f vs m e w
    args_holds (more_trees a ts) f vs m e w = valued_holds w _ _ _ (λ r q. q) (ev_holds a m e w) (λ v u. args_holds ts f (vs ++ v ∷ []) m e
        u)

    pub holes_holds : (hs : Holes) (f : Form) (vs : List Val) (m : Bool) (e : Env) (w : World) → Holds w (holed p k hs f vs m e w)
    holes_holds no_holes f vs m e w = apply_holds p k d f vs m e w
    holes_holds (more_holes a bs hs) f vs m e w = valued_holds w _ _ _ (λ r q. q) (ev_holds a m e w) (λ v u. holes_holds hs f (vs ++ v ∷ [])
        m e u)

    pub pairs_holds : (ps : t.Pairs) (f : Form) (vs : List Val) (m : Bool) (e : Env) (w : World) → Holds w (paired_args p k ps f vs m e w)
    pairs_holds t.Pairs.no_pairs f vs m e w = apply_holds p k d f vs m e w
    pairs_holds (t.Pairs.more_pairs a b ps) f vs m e w =
        valued_holds w _ _ _ (λ r q. q) (ev_holds a m e w) (λ x u. valued_holds u _ _ _ (λ r q. q) (ev_holds b m e u) (λ y z. pairs_holds ps
        f (vs ++ x ∷
        y ∷ []) m e z))

    pub givens_holds : (gs : Givens) (f : Form) (vs : List Val) (m : Bool) (e : Env) (w : World) → Holds w (given_args p k gs f vs m e w)
    givens_holds no_givens f vs m e w = apply_holds p k d f vs m e w
    givens_holds (more_givens x a gs) f vs m e w = valued_holds w _ _ _ (λ r q. q) (ev_holds a m e w) (λ v u. givens_holds gs f (vs ++ v ∷
        []) m e u)

    pub quotient_holds : (ts : Trees) (f : Form) (m : Bool) (e : Env) (w : World) → Holds w (quotient p k ts f m e w)
    quotient_holds no_trees f m e w = λ h. tt
    quotient_holds (more_trees a ts) f m e w = quotient_tree_holds a f m e w

    pub quotient_tree_holds : (a : Tree) (f : Form) (m : Bool) (e : Env) (w : World) → Holds w (quotient_tree p k a f m e w)
    quotient_tree_holds (tree n pl s) f m e w = quotient_shape_holds s f m e w

    pub quotient_shape_holds : (s : Shape) (f : Form) (m : Bool) (e : Env) (w : World) → Holds w (quotient_shape p k s f m e w)
    quotient_shape_holds (t.Shape.chained x a b) f m e w =
        valued_holds w _ _ _ (λ r q. q) (ev_holds a m e w) (λ v u. valued_holds u _ _ _ (λ r q. q) (ev_holds b m e u) (λ y z. apply_holds p
        k d f (v ∷ y
        ∷ []) m e z))
    quotient_shape_holds s f m e w = λ h. tt

    pub targets_holds : (a : Tree) (f : Form) (left : List Tree) (m : Bool) (e : Env) (w : World) (go : List Val → World → Outcome) →
        ((vs : List Val) (u : World) → Holds u (go vs u)) → Holds w (targets p k a f left m e w go)
    targets_holds (tree n pl s) f left m e w go g = targets_shape_holds s f left m e w go g

    pub targets_shape_holds : (s : Shape) (f : Form) (left : List Tree) (m : Bool) (e : Env) (w : World) (go : List Val → World →
        Outcome) → ((vs : List Val) (u : World) → Holds u (go vs u)) → Holds w (targets_shape p k s f left m e w go)
    targets_shape_holds (t.Shape.name x) f left m e w go g = g [] w
    targets_shape_holds (t.Shape.member a x) f left m e w go g = valued_holds w _ _ _ (λ r q. q) (ev_holds a m e w) (λ v u. g (v ∷ []) u)
    targets_shape_holds (t.Shape.index a ts) f left m e w go g = targets_holds a f _ m e w _ (λ vs u. indices_holds ts f vs left m e u go g)
    targets_shape_holds s f left m e w go g = λ h. tt

    pub indices_holds : (ts : Trees) (f : Form) (vs : List Val) (left : List Tree) (m : Bool) (e : Env) (w : World) (go : List Val →
        World → Outcome) → ((vs : List Val) (u : World) → Holds u (go vs u)) → Holds w (indices p k ts f vs left m e w go)
    indices_holds no_trees f vs left m e w go g = g vs w
    indices_holds (more_trees a ts) f vs left m e w go g =
        valued_holds w _ _ _ (λ r q. q) (ev_holds a m e w) (λ v u. indices_holds ts f (vs ++ v ∷ []) left m e u go g)

    pub clauses_holds : (cs : Trees) (m : Bool) (e : Env) (last : Val) (w : World) → Holds w (clauses p k cs m e last w)
    clauses_holds no_trees m e last w = λ h. h
    clauses_holds (more_trees a cs) m e last w =
        claused_holds (statement_of a) e m w _ _ _ (λ u. ev_holds a m e u) (λ u. inner_holds a m e u) (λ e v u. clauses_holds cs m e v u)

    pub level_holds : (cs : Trees) (a : Tree) (run : Env → World →
        Outcome) (pl : Place) (e : Env) (v so_far : Val) (m : Bool) (w : World) → ((e : Env) (u : World) → Holds u (run e u)) →
        Holds w (level p k cs a run pl e v so_far w)
    level_holds no_trees a run pl e v so_far m w f = valued_holds w _ _ _ (λ r q. q) (f e w) (λ y u. told_holds u _ pl e)
    level_holds (more_trees c cs) a run pl e v so_far m w f =
        levelled_holds (statement_of c) v e so_far m w _ _ _ (λ g vs r q. q) (level_holds cs a run pl e v so_far m w f)
        (λ g x so_far u. attempted_holds u _ _ _ (clauses_holds cs false _ unit u) (λ e1 y z. level_holds cs a run pl e1 y so_far m z
        f) (λ z h. h))

    pub chosen_holds : (ts : Trees) (v : Val) (m : Bool) (e : Env) (w : World) → Holds w (chosen p k ts v m e w)
    chosen_holds no_trees v m e w = λ h. tt
    chosen_holds (more_trees a ts) v m e w = arm_holds a (none_left ts) v m e w _ (chosen_holds ts v m e w)

    pub arm_holds : (a : Tree) (last : Bool) (v : Val) (m : Bool) (e : Env) (w : World) (go : World → Outcome) → Holds w (go w) →
        Holds w (arm_of p k a last v m e w go)
    arm_holds (tree n pl s) last v m e w go g = arm_shape_holds s last v m e w go g

    pub arm_shape_holds : (s : Shape) (last : Bool) (v : Val) (m : Bool) (e : Env) (w : World) (go : World → Outcome) → Holds w (go w) →
        Holds w (arm_of_shape p k s last v m e w go)
    arm_shape_holds (t.Shape.arm a b) last v m e w go g = bool_holds (cond last true (pattern_fits p a v)) m w _ _ (ev_holds b m e w) g
    arm_shape_holds s last v m e w go g = λ h. tt

    pub started_holds : (kd : Kind) (pl : Place) (ts : Trees) (e : Env) (gs : Arms) (w : World) → ArmsWait gs → Holds w (started p k kd pl
        ts e gs w)
    started_holds kd pl no_trees e gs w b = settled_holds kd pl e gs w b
    started_holds kd pl (more_trees a ts) e gs w b = begins_holds w _ _ (λ u. ev_holds a true e u) (λ u o h. armed_holds u o _ _ h
        (λ v z. gave_holds kd pl e (with_arm gs (gave v no_arms)) z _ (gave_waits gs v b) (started_holds kd pl ts e (with_arm gs (gave v
        no_arms)) z (gave_waits gs v b))) (λ s z c. started_holds kd pl ts e (with_arm gs (runs s no_arms)) z (runs_waits gs s b c)))

    pub spawn_holds : (a : Tree) (m : Bool) (e : Env) (w : World) → Holds w (spawned p k a m e w)
    spawn_holds (tree n pl s) m e w = spawn_shape_holds s pl m e w

    pub spawn_shape_holds : (s : Shape) (pl : Place) (m : Bool) (e : Env) (w : World) → Holds w (spawned_shape p k s pl m e w)
    spawn_shape_holds (t.Shape.call a ts) pl m e w =
        callee_holds (spawned_callee (callee_of p a (form.picking None) pl)) m w _ _ _ _ (λ f. args_holds ts f [] m e w)
        (λ f. valued_holds w _ _ _ (λ r q. q) (inner_holds a m e w) (λ v u. args_holds ts f (v ∷ []) m e u)) (λ f h. tt) (λ f h. tt)
    spawn_shape_holds s pl m e w = λ h. tt
