-- Two evaluations that come to the same, through every form, start and end.
use Rattle.std.proofs.Common.{refl, ℕ, List, [], ◌∷◌, ◌++◌, Option, Some, None, Bool, true, false, cond, sym, subst}
use Rattle.verse_base.specs.declared.places.Place.{Place}
use Rattle.verse_tree.specs.Tree.{Bytes, Tree, tree, Shape, Trees, no_trees, more_trees, Holes, no_holes, more_holes, Givens, no_givens}
use Rattle.verse_tree.specs.Tree.{more_givens}
use Rattle.verse_tree.specs.Tree as t
use Rattle.verse_tree.specs.declared.exprs.Operator.TheVariants as op
use Rattle.verse_tree.specs.declared.tables.Ref.{Ref}
use Rattle.verse_tree.specs.declared.tables.Ref.TheVariants as ref
use Rattle.verse_value.specs.Val.{Val, unit}
use Rattle.verse_meaning_state.specs.State.{State, with_result}
use Rattle.verse_meaning_state.specs.Waits.{never, after}
use Rattle.verse_meaning_state.specs.Turns.{Kind, sync, race, rush, run}
use Rattle.verse_meaning.specs.Programs.{Program, ref_at}
use Rattle.verse_meaning.specs.Residuals as form
use Rattle.verse_meaning.specs.Residuals.{Env, Form, Generator, Values, Role, part, body, root, Residual, leaf, args, seq, deferred}
use Rattle.verse_meaning.specs.Residuals.{looped, filling, generated, called, arms, Scope, scope, Scopes, none, also, Arms, no_arms, gave}
use Rattle.verse_meaning.specs.Residuals.{runs}
use Rattle.verse_meaning.specs.Outcomes.{World, set_behind, Outcome, value, failed, returned, broke, halted, rests, TaskOutcome, finished}
use Rattle.verse_meaning.specs.Outcomes.{not_given, all_gave, first_gave, with_arm}
use Rattle.verse_meaning.specs.Forms.{Deeper, look, this_of, values_of}
use Rattle.verse_meaning.specs.Evaluating.{Statement, plain, defines, defers, generates, statement_of, Callee, alone, of_object, of_value}
use Rattle.verse_meaning.specs.Evaluating.{of_quotient, no_callee, spawned_callee, mode_of, on_bool, callee_of, base_of, enum_member}
use Rattle.verse_meaning.specs.Evaluating.{picked, none_left, class_ref, pattern_fits, cancel_kids, cancel_own, cancel_scope_kids}
use Rattle.verse_meaning.specs.Evaluating.{cancel_scope_own, cancel_behind, cancel_arms, scope_ended, scope_returned, scope_end}
use Rattle.verse_meaning.specs.Evaluating.{or_stands, settled, arm_gave, begins_scope, stated, claused, generates_from, levelled}
use Rattle.verse_meaning.specs.Evaluating.{by_callee, named, member_form, membered, ev, ev_shape, statements, inner, inner_shape}
use Rattle.verse_meaning.specs.Evaluating.{all_args, holed, paired_args, given_args, quotient, quotient_tree, quotient_shape, targets}
use Rattle.verse_meaning.specs.Evaluating.{targets_shape, indices, clauses, level, chosen, arm_of, arm_of_shape, started, spawned}
use Rattle.verse_meaning.specs.Evaluating.{spawned_shape}
use Rattle.verse_meaning.specs.Resuming.{taken}
use Rattle.verse_meaning.specs.RunLaws.{Reaches, StepsStand}
use Rattle.verse_meaning.proofs.Agreeing.{Agrees, AgreesTask, AgreesWent, AlikeTask, Within, alike, armed_agrees, attempted_agrees}
use Rattle.verse_meaning.proofs.Agreeing.{behind_task, branch_agrees, closing_agrees, denied_agrees, dropped_agrees, here, known_agrees}
use Rattle.verse_meaning.proofs.Agreeing.{on_went_agrees, on_went_task_agrees, outside_agrees, spends_agrees, there_agrees, valued_agrees}
use Rattle.verse_meaning.proofs.Agreeing.{went_on_agrees}
use Rattle.verse_meaning.proofs.AgreeingForms.{DeeperAgrees, apply_agrees, defined_agrees}
use Rattle.verse_meaning.proofs.Following.{ReachesTask, left_state, suspended_follow, told_follow}
use Rattle.verse_meaning.proofs.FollowingForms.{added_writes, read_bound_follow, read_slot_follow, still_writes}
use Rattle.verse_meaning.proofs.Counting.{steps_closed}

module _ (l : ℕ) (p : Program) (k k' : Deeper) (d : DeeperAgrees l k k') where
  mutual
    pub kids_agrees : (r : Residual) (w : World) → AgreesWent l w (cancel_kids p k r w) (cancel_kids p k' r w)
    kids_agrees (leaf x e) w = here w
    kids_agrees (args e f vs r left) w = kids_agrees r w
    kids_agrees (seq e b r left) w = kids_agrees r w
    kids_agrees (deferred e a r) w = kids_agrees r w
    kids_agrees (looped e a r) w = kids_agrees r w
    kids_agrees (filling e c pl fs xs vs ss r) w = kids_agrees r w
    kids_agrees (generated e g cs a pl vs r) w = kids_agrees r w
    kids_agrees (called e s) w = scope_kids_agrees s w
    kids_agrees (arms kd pl e gs) w = arms_agrees gs w

    pub own_agrees : (r : Residual) (w : World) → AgreesWent l w (cancel_own p k r w) (cancel_own p k' r w)
    own_agrees (leaf x e) w = here w
    own_agrees (args e f vs r left) w = own_agrees r w
    own_agrees (seq e b r left) w = own_agrees r w
    own_agrees (deferred e a r) w =
        went_on_agrees l w _ _ _ _ (own_agrees r w) (λ u. dropped_agrees l u _ _ (d.parts a e u))
    own_agrees (looped e a r) w = own_agrees r w
    own_agrees (filling e c pl fs xs vs ss r) w = own_agrees r w
    own_agrees (generated e g cs a pl vs r) w = own_agrees r w
    own_agrees (called e s) w = scope_own_agrees s w
    own_agrees (arms kd pl e gs) w = here w

    pub scope_kids_agrees : (s : Scope) (w : World) → AgreesWent l w (cancel_scope_kids p k s w) (cancel_scope_kids p k' s w)
    scope_kids_agrees (scope q r bs) w = went_on_agrees l w _ _ _ _ (kids_agrees r w) (λ u. behind_agrees bs u)

    pub scope_own_agrees : (s : Scope) (w : World) → AgreesWent l w (cancel_scope_own p k s w) (cancel_scope_own p k' s w)
    scope_own_agrees (scope q r bs) w = own_agrees r w

    pub behind_agrees : (bs : Scopes) (w : World) → AgreesWent l w (cancel_behind p k bs w) (cancel_behind p k' bs w)
    behind_agrees none w = here w
    behind_agrees (also s bs) w =
        went_on_agrees l w _ _ _ _ (behind_agrees bs w) (λ u. went_on_agrees l u _ _ _ _ (scope_kids_agrees
        s u) (λ x. scope_own_agrees s x))

    pub arms_agrees : (gs : Arms) (w : World) → AgreesWent l w (cancel_arms p k gs w) (cancel_arms p k' gs w)
    arms_agrees no_arms w = here w
    arms_agrees (gave v gs) w = arms_agrees gs w
    arms_agrees (runs s gs) w =
        went_on_agrees l w _ _ _ _ (arms_agrees gs w) (λ u. went_on_agrees l u _ _ _ _ (scope_kids_agrees s
        u) (λ x. scope_own_agrees s x))

  -- the end of a scope
  finished_steps : (s : State) (q : Role) (v : Val) (u : World) → StepsStand s u.state → StepsStand s (finished q v u).state
  finished_steps s part v u a = a
  finished_steps s body v u a = a
  finished_steps s (root entry) v u a =
      steps_closed.then s u.state (with_result entry v u.state) a (steps_closed.gives_result entry v u.state)

  ended_agrees : (q : Role) (outer : Scopes) (v : Val) (u : World) →
      AgreesTask l u (scope_ended p k q outer v u) (scope_ended p k' q outer v u)
  ended_agrees q outer v u = on_went_task_agrees l u _ _ _ _ (behind_agrees u.behind u) (λ x.
      alike (finished_steps x.state q v (set_behind x outer) (steps_closed.same x.state)))

  returned_agrees : (q : Role) (outer : Scopes) (v : Val) (u : World) →
      AgreesTask l u (scope_returned p k q outer v u) (scope_returned p k' q outer v u)
  returned_agrees part outer v u = here u
  returned_agrees body outer v u = ended_agrees body outer v u
  returned_agrees (root entry) outer v u = ended_agrees (root entry) outer v u

  not_given_steps : (s : State) (q : Role) (t : State) → StepsStand s t → ReachesTask StepsStand s (not_given q t)
  not_given_steps s part t a = a
  not_given_steps s body t a = a
  not_given_steps s (root entry) t a = a

  scope_alike : (s : State) (q : Role) (outer : Scopes) (o : Outcome) → Within l s → Reaches StepsStand s o →
      AlikeTask s (scope_end p k q outer o) (scope_end p k' q outer o)
  unfolding scope_end
  scope_alike s q outer (value e v u) h a = behind_task l s u _ _ h a (ended_agrees q outer v u)
  scope_alike s q outer (failed t) h a = (not_given_steps s q t a, refl)
  scope_alike s q outer (returned v u) h a = behind_task l s u _ _ h a (returned_agrees q outer v u)
  scope_alike s q outer (broke u) h a = (a, refl)
  scope_alike s q outer (halted x) h a = (a, refl)
  scope_alike s q outer (rests r u) h a = (a, refl)

  pub scope_agrees : (w : World) (q : Role) (outer : Scopes) (o o' : Outcome) → Agrees l w o o' →
      AgreesTask l w (scope_end p k q outer o) (scope_end p k' q outer o')
  scope_agrees w q outer o o' a h = subst (λ x. AlikeTask w.state (scope_end p k q outer o) (scope_end p k' q outer x)) (a h).1
      (scope_alike w.state q outer o h (a h).0)

  stands_agrees : {A : Type 0} (x : Option A) (m : Bool) (w : World) (o o' : Outcome) (go go' : A → Outcome) → Agrees l w o o' → ((x : A) →
      Agrees l w (go x) (go' x)) → Agrees l w (or_stands p k x o go) (or_stands p k' x o' go')
  unfolding or_stands
  stands_agrees None m w o o' go go' a f = a
  stands_agrees (Some x) m w o o' go go' a f = f x

  -- a race cancels its other arms before its value is used
  pub settled_agrees : (kd : Kind) (pl : Place) (e : Env) (gs : Arms) (w : World) → Agrees l w (settled p k kd pl e gs w) (settled p k' kd
      pl e gs w)
  unfolding settled
  settled_agrees sync pl e gs w =
      stands_agrees (all_gave gs) true w _ _ _ _ (here w) (λ vs. alike (told_follow steps_closed w _ pl e (still_writes w.state _)))
  settled_agrees race pl e gs w =
      stands_agrees (first_gave gs) true w _ _ _ _ (here w) (λ v. on_went_agrees l w _ _ _ _ (arms_agrees gs
      w) (λ u. here u))
  settled_agrees rush pl e gs w =
      stands_agrees (first_gave gs) true w _ _ _ _ (here w) (λ v. alike (subst (λ x. StepsStand w.state x) (sym (left_state gs w))
      (steps_closed.same w.state)))

  gave_agrees : (kd : Kind) (pl : Place) (e : Env) (gs : Arms) (w : World) (go go' : World → Outcome) → Agrees l w (go w) (go' w) →
      Agrees l w (arm_gave p k kd pl e gs w go) (arm_gave p k' kd pl e gs w go')
  unfolding arm_gave
  gave_agrees sync pl e gs w go go' a = a
  gave_agrees race pl e gs w go go' a = settled_agrees race pl e gs w
  gave_agrees rush pl e gs w go go' a = a

  begins_agrees : (w : World) (run run' : World → Outcome) (go go' : TaskOutcome → Outcome) → ((u : World) → Agrees l u (run u) (run' u)) →
      ((u : World) (o o' : TaskOutcome) → AgreesTask l u o o' → Agrees l u (go o) (go' o')) → Agrees l w (begins_scope p k w run go)
      (begins_scope p k' w run' go')
  unfolding begins_scope
  begins_agrees w run run' go go' f g = spends_agrees l w _ _ (λ u. g u _ _ (scope_agrees u part u.behind (run (set_behind u none)) (run'
      (set_behind u none)) (f (set_behind u none))))

  stated_agrees : (x : Statement) (e : Env) (left : Trees) (m : Bool) (w : World) (whole whole' inner inner' : World → Outcome) (go go' :
      Env → Val → World →
      Outcome) → ((u : World) → Agrees l u (whole u) (whole' u)) → ((u : World) → Agrees l u (inner u) (inner' u)) →
      ((e : Env) (v : Val) (u : World) → Agrees l u (go e v u) (go' e v u)) → Agrees l w (stated p k x e left w whole inner go) (stated p k'
      x e left w whole' inner' go')
  unfolding stated
  stated_agrees plain e left m w whole whole' inner inner' go go' f g h = valued_agrees l w _ _ _ _ _ (f w) (λ v u. h e v u)
  stated_agrees (defines b) e left m w whole whole' inner inner' go go' f g h =
      valued_agrees l w _ _ _ _ _ (g w) (λ v u. defined_agrees l p k k' d b e v m u go go' h)
  stated_agrees (defers a) e left m w whole whole' inner inner' go go' f g h = closing_agrees l w _ _ _ _ _ e (h e unit w) (λ u. d.parts a e
      u)
  stated_agrees (generates x) e left m w whole whole' inner inner' go go' f g h = here w

  claused_agrees : (x : Statement) (e : Env) (m : Bool) (w : World) (whole whole' inner inner' : World → Outcome) (go go' : Env → Val →
      World → Outcome) →
      ((u : World) → Agrees l u (whole u) (whole' u)) → ((u : World) → Agrees l u (inner u) (inner' u)) →
      ((e : Env) (v : Val) (u : World) → Agrees l u (go e v u) (go' e v u)) → Agrees l w (claused p k x e w whole inner go) (claused p k' x
      e w whole' inner' go')
  unfolding claused
  claused_agrees plain e m w whole whole' inner inner' go go' f g h = valued_agrees l w _ _ _ _ _ (f w) (λ v u. h e v u)
  claused_agrees (defines b) e m w whole whole' inner inner' go go' f g h = valued_agrees l w _ _ _ _ _ (g w) (λ v u. defined_agrees l p k
      k' d b e v m u go go' h)
  claused_agrees (defers a) e m w whole whole' inner inner' go go' f g h = here w
  claused_agrees (generates x) e m w whole whole' inner inner' go go' f g h = valued_agrees l w _ _ _ _ _ (g w) (λ v u. here u)

  from_agrees : (g : Generator) (v : Val) (e : Env) (so_far : Val) (m : Bool) (w : World) (go go' : Val × Val → Val → World →
      Outcome) (wrap : Values → Residual → Residual) → ((x : Val × Val) (a : Val) (u : World) → Agrees l u (go x a u) (go' x a u)) →
      Agrees l w (generates_from p k g v e so_far w go wrap) (generates_from p k' g v e so_far w go' wrap)
  unfolding generates_from
  from_agrees g v e so_far m w go go' wrap f = there_agrees l w (values_of g v) _ _ (λ vs. d.takes m go go' wrap e vs so_far w f)

  levelled_agrees : (x : Statement) (v : Val) (e : Env) (so_far : Val) (m : Bool) (w : World) (on_go on_go' : World →
      Outcome) (taken taken' : Generator → Val × Val → Val → World → Outcome) (wrap : Generator → Values → Residual → Residual) →
      Agrees l w (on_go w) (on_go' w) → ((g : Generator) (x : Val × Val) (a : Val) (u : World) → Agrees l u (taken g x a u) (taken' g x a
      u)) →
      Agrees l w (levelled p k x v e so_far w on_go taken wrap) (levelled p k' x v e so_far w on_go' taken' wrap)
  unfolding levelled
  levelled_agrees plain v e so_far m w on_go on_go' taken taken' wrap a f = a
  levelled_agrees (defines b) v e so_far m w on_go on_go' taken taken' wrap a f = a
  levelled_agrees (defers b) v e so_far m w on_go on_go' taken taken' wrap a f = here w
  levelled_agrees (generates g) v e so_far m w on_go on_go' taken taken' wrap a f = from_agrees g v e so_far m w (taken g) (taken' g) (wrap
      g) (f g)

  callee_agrees : (c : Callee) (m : Bool) (w : World) (f1 f1' f2 f2' f3 f3' f4 f4' : Form → World → Outcome) → ((f : Form) → Agrees l w (f1
      f w) (f1' f w)) →
      ((f : Form) → Agrees l w (f2 f w) (f2' f w)) → ((f : Form) → Agrees l w (f3 f w) (f3' f w)) → ((f : Form) → Agrees l w (f4 f w) (f4' f
      w)) →
      Agrees l w (by_callee p k c w f1 f2 f3 f4) (by_callee p k' c w f1' f2' f3' f4')
  unfolding by_callee
  callee_agrees (alone f) m w f1 f1' f2 f2' f3 f3' f4 f4' a b c d = a f
  callee_agrees (of_object f) m w f1 f1' f2 f2' f3 f3' f4 f4' a b c d = b f
  callee_agrees (of_value f) m w f1 f1' f2 f2' f3 f3' f4 f4' a b c d = c f
  callee_agrees (of_quotient f) m w f1 f1' f2 f2' f3 f3' f4 f4' a b c d = d f
  callee_agrees no_callee m w f1 f1' f2 f2' f3 f3' f4 f4' a b c d = here w

  named_agrees : (r : Option Ref) (x : Bytes) (pl : Place) (m : Bool) (e : Env) (w : World) → Agrees l w (named p k r x pl e w) (named p k'
      r x pl e w)
  unfolding named
  named_agrees (Some (ref.Field c slot)) x pl m e w = alike (read_slot_follow steps_closed (this_of e) slot pl m e w)
  named_agrees r x pl m e w = alike (read_bound_follow steps_closed (look x e) pl m e w)

  membered_agrees : (v : Option Val) (m : Bool) (e : Env) (w : World) (go go' : World → Outcome) → Agrees l w (go w) (go' w) →
      Agrees l w (membered p k v e w go) (membered p k' v e w go')
  unfolding membered
  membered_agrees (Some v) m e w go go' a = here w
  membered_agrees None m e w go go' a = a

  bool_agrees : (b : Bool) (m : Bool) (w : World) (f f' g g' : Bool → Outcome) → Agrees l w (f true) (f' true) → Agrees l w (g false) (g'
      false) →
      Agrees l w (on_bool b f g) (on_bool b f' g')
  bool_agrees true m w f f' g g' x y = x
  bool_agrees false m w f f' g g' x y = y

  mutual
    pub ev_agrees : (a : Tree) (m : Bool) (e : Env) (w : World) → Agrees l w (ev p k a m e w) (ev p k' a m e w)
    ev_agrees (tree n pl s) m e w = shape_agrees s n pl m e w

    pub shape_agrees : (s : Shape) (n : ℕ) (pl : Place) (m : Bool) (e : Env) (w : World) → Agrees l w (ev_shape p k s n pl m e w) (ev_shape
        p k' s n pl m e w)
    shape_agrees (t.Shape.block cs) n pl m e w = statements_agrees cs m e unit w
    shape_agrees (t.Shape.defer a) n pl m e w = here w
    shape_agrees (t.Shape.definition x a) n pl m e w = valued_agrees l w _ _ _ _ _ (ev_agrees a m e w) (λ v u. here u)
    shape_agrees (t.Shape.typed x ty a) n pl m e w = valued_agrees l w _ _ _ _ _ (ev_agrees a m e w) (λ v u. here u)
    shape_agrees (t.Shape.variable x ty a) n pl m e w =
        valued_agrees l w _ _ _ _ _ (ev_agrees a m e w) (λ v u. apply_agrees l p k k' d (form.varying pl) (v ∷ []) m e u)
    shape_agrees (t.Shape.assignment x a b) n pl m e w =
        targets_agrees a (form.storing (base_of p a) (mode_of x) pl) (b ∷ []) m e w _ _ (λ vs u. valued_agrees l u _ _ _ _ _ (ev_agrees b m
        e u)
        (λ v z. apply_agrees l p k k' d (form.storing (base_of p a) (mode_of x) pl) (vs ++ v ∷ []) m e z))
    shape_agrees (t.Shape.returned a) n pl m e w = valued_agrees l w _ _ _ _ _ (ev_agrees a m e w) (λ v u. here u)
    shape_agrees t.Shape.returned_unit n pl m e w = here w
    shape_agrees t.Shape.break_form n pl m e w = here w
    shape_agrees (t.Shape.if_else cs a b) n pl m e w =
        attempted_agrees l w _ _ _ _ _ _ (statements_agrees cs false e unit w) (λ e v u. ev_agrees a m e u) (λ u. ev_agrees b m e u)
    shape_agrees (t.Shape.if_alone cs a) n pl m e w =
        attempted_agrees l w _ _ _ _ _ _ (statements_agrees cs false e unit w) (λ e v u. ev_agrees a m e u) (λ u. here u)
    shape_agrees (t.Shape.negation a) n pl m e w =
        denied_agrees l w e _ _ (ev_agrees a false e w)
    shape_agrees (t.Shape.option cs) n pl m e w =
        attempted_agrees l w _ _ _ _ _ _ (statements_agrees cs false e unit w) (λ e1 v u. alike (told_follow steps_closed u _ pl e
        (still_writes u.state _))) (λ u. here u)
    shape_agrees (t.Shape.logic cs) n pl m e w =
        attempted_agrees l w _ _ _ _ _ _ (statements_agrees cs false e unit w) (λ e v u. here u) (λ u. here u)
    shape_agrees (t.Shape.chained op.Or a b) n pl m e w =
        attempted_agrees l w _ _ _ _ _ _ (ev_agrees a false e w) (λ e v u. here u) (λ u. ev_agrees b m e u)
    shape_agrees (t.Shape.for_form cs a) n pl m e w =
        attempted_agrees l w _ _ _ _ _ _ (clauses_agrees cs false e unit w) (λ e1 v u. level_agrees cs a _ _ pl e1 v _ m u (λ e u. ev_agrees
        a m e
        u)) (λ u. here u)
    shape_agrees (t.Shape.chained op.Div a b) n pl m e w = here w
    shape_agrees (t.Shape.chained x a b) n pl m e w =
        valued_agrees l w _ _ _ _ _ (ev_agrees a m e w) (λ v u. valued_agrees l u _ _ _ _ _ (ev_agrees b m e u) (λ y z. apply_agrees l p k
        k' d
        (form.computing x (p.is_array n) pl) (v ∷ y ∷ []) m e z))
    shape_agrees (t.Shape.compared x a b) n pl m e w =
        valued_agrees l w _ _ _ _ _ (ev_agrees a m e w) (λ v u. valued_agrees l u _ _ _ _ _ (ev_agrees b m e u) (λ y z. apply_agrees l p k
        k' d
        (form.comparing x) (v ∷ y ∷ []) m e z))
    shape_agrees (t.Shape.minus a) n pl m e w =
        valued_agrees l w _ _ _ _ _ (ev_agrees a m e w) (λ v u. apply_agrees l p k k' d (form.negating pl) (v ∷ []) m e u)
    shape_agrees (t.Shape.query a) n pl m e w =
        valued_agrees l w _ _ _ _ _ (ev_agrees a m e w) (λ v u. apply_agrees l p k k' d form.querying (v ∷ []) m e u)
    shape_agrees (t.Shape.member a x) n pl m e w =
        membered_agrees (enum_member p a x) m e w _ _ (valued_agrees l w _ _ _ _ _ (ev_agrees a m e w) (λ v u. apply_agrees l p k k' d
        (member_form (ref_at p n)
        x) (v ∷ []) m e u))
    shape_agrees (t.Shape.call a ts) n pl m e w = callee_agrees (callee_of p a (picked ts) pl) m w _ _ _ _ _ _ _ _ (λ f. args_agrees ts f []
        m e w)
        (λ f. valued_agrees l w _ _ _ _ _ (inner_agrees a m e w) (λ v u. args_agrees ts f (v ∷ []) m e u)) (λ f. valued_agrees l w _ _ _ _ _
        (ev_agrees a m e w) (λ v u. apply_agrees l p k k' d f (v ∷ []) m e u)) (λ f. quotient_agrees ts f m e w)
    shape_agrees (t.Shape.index a ts) n pl m e w = callee_agrees (callee_of p a form.indexing pl) m w _ _ _ _ _ _ _ _ (λ f. args_agrees ts f
        [] m e w)
        (λ f. valued_agrees l w _ _ _ _ _ (inner_agrees a m e w) (λ v u. args_agrees ts f (v ∷ []) m e u)) (λ f. valued_agrees l w _ _ _ _ _
        (ev_agrees a m e w) (λ v u. args_agrees ts f (v ∷ []) m e u)) (λ f. quotient_agrees ts f m e w)
    shape_agrees (t.Shape.integer z) n pl m e w = here w
    shape_agrees (t.Shape.character c) n pl m e w = here w
    shape_agrees (t.Shape.text bs) n pl m e w = here w
    shape_agrees (t.Shape.holes bs hs) n pl m e w = holes_agrees hs _ [] m e w
    shape_agrees t.Shape.truth n pl m e w = here w
    shape_agrees t.Shape.falsehood n pl m e w = here w
    shape_agrees t.Shape.this n pl m e w = known_agrees l w (this_of e) _ _ (λ v. here w)
    shape_agrees (t.Shape.name x) n pl m e w = named_agrees (ref_at p n) x pl m e w
    shape_agrees (t.Shape.tuple ts) n pl m e w = args_agrees ts _ [] m e w
    shape_agrees (t.Shape.array ts) n pl m e w = args_agrees ts _ [] m e w
    shape_agrees (t.Shape.mapping ps) n pl m e w = pairs_agrees ps _ [] m e w
    shape_agrees (t.Shape.instance x gs) n pl m e w = known_agrees l w (class_ref p (ref_at p n)) _ _ (λ c. givens_agrees gs _ [] m e w)
    shape_agrees (t.Shape.event ty) n pl m e w = alike (told_follow steps_closed w _ pl e (added_writes w.state _ _))
    shape_agrees t.Shape.bare_event n pl m e w = alike (told_follow steps_closed w _ pl e (added_writes w.state _ _))
    shape_agrees (t.Shape.loop_form a) n pl m e w = d.loops m _ _ _ e w (λ u. ev_agrees a m e u)
    shape_agrees (t.Shape.block_form a) n pl m e w = ev_agrees a m e w
    shape_agrees (t.Shape.cases a ts) n pl m e w = valued_agrees l w _ _ _ _ _ (ev_agrees a m e w) (λ v u. chosen_agrees ts v m e u)
    shape_agrees (t.Shape.branch a) n pl m e w =
        outside_agrees l m w _ _ (begins_agrees w _ _ _ _ (λ u. ev_agrees a true e u) (λ u o o' h. branch_agrees l u e o o' h))
    shape_agrees (t.Shape.sync ts) n pl m e w = outside_agrees l m w _ _ (started_agrees sync pl ts e no_arms w)
    shape_agrees (t.Shape.race ts) n pl m e w = outside_agrees l m w _ _ (started_agrees race pl ts e no_arms w)
    shape_agrees (t.Shape.rush ts) n pl m e w = outside_agrees l m w _ _ (started_agrees rush pl ts e no_arms w)
    shape_agrees (t.Shape.spawn a) n pl m e w = spawn_agrees a m e w
    shape_agrees (t.Shape.sleep z) n pl m e w = outside_agrees l m w _ _ (alike (suspended_follow steps_closed (after z w.state) e w))
    shape_agrees t.Shape.sleep_forever n pl m e w = outside_agrees l m w _ _ (alike (suspended_follow steps_closed never e w))
    shape_agrees s n pl m e w = here w

    pub statements_agrees : (cs : Trees) (m : Bool) (e : Env) (last : Val) (w : World) → Agrees l w (statements p k cs m e last w)
        (statements p k' cs m e last w)
    statements_agrees no_trees m e last w = here w
    statements_agrees (more_trees a cs) m e last w =
        stated_agrees (statement_of a) e cs m w _ _ _ _ _ _ (λ u. ev_agrees a m e u) (λ u. inner_agrees a m e u) (λ e v u. statements_agrees
        cs m e v
        u)

    pub inner_agrees : (a : Tree) (m : Bool) (e : Env) (w : World) → Agrees l w (inner p k a m e w) (inner p k' a m e w)
    inner_agrees (tree n pl s) m e w = inner_shape_agrees s m e w

    pub inner_shape_agrees : (s : Shape) (m : Bool) (e : Env) (w : World) → Agrees l w (inner_shape p k s m e w) (inner_shape p k' s m e w)
    inner_shape_agrees (t.Shape.definition x a) m e w = ev_agrees a m e w
    inner_shape_agrees (t.Shape.typed x ty a) m e w = ev_agrees a m e w
    inner_shape_agrees (t.Shape.variable x ty a) m e w = ev_agrees a m e w
    inner_shape_agrees (t.Shape.member a x) m e w = ev_agrees a m e w
    inner_shape_agrees (t.Shape.elements x a) m e w = ev_agrees a m e w
    inner_shape_agrees (t.Shape.entries x y a) m e w = ev_agrees a m e w
    inner_shape_agrees (t.Shape.range x a b) m e w =
        valued_agrees l w _ _ _ _ _ (ev_agrees a m e w) (λ v u. valued_agrees l u _ _ _ _ _ (ev_agrees b m e u) (λ y z. here z))
    inner_shape_agrees s m e w = here w

    pub args_agrees : (ts : Trees) (f : Form) (vs : List Val) (m : Bool) (e : Env) (w : World) → Agrees l w (all_args p k ts f vs m e w)
        (all_args p k' ts f vs m e w)
    args_agrees no_trees f vs m e w = apply_agrees l p k k' d f vs m e w
    args_agrees (more_trees a ts) f vs m e w = valued_agrees l w _ _ _ _ _ (ev_agrees a m e w) (λ v u. args_agrees ts f (vs ++ v ∷ []) m e
        u)

    pub holes_agrees : (hs : Holes) (f : Form) (vs : List Val) (m : Bool) (e : Env) (w : World) → Agrees l w (holed p k hs f vs m e w)
        (holed p k' hs f vs m e w)
    holes_agrees no_holes f vs m e w = apply_agrees l p k k' d f vs m e w
    holes_agrees (more_holes a bs hs) f vs m e w = valued_agrees l w _ _ _ _ _ (ev_agrees a m e w) (λ v u. holes_agrees hs f (vs ++ v ∷ [])
        m e u)

    pub pairs_agrees : (ps : t.Pairs) (f : Form) (vs : List Val) (m : Bool) (e : Env) (w : World) → Agrees l w (paired_args p k ps f vs m e
        w) (paired_args p k' ps f vs m e w)
    pairs_agrees t.Pairs.no_pairs f vs m e w = apply_agrees l p k k' d f vs m e w
    pairs_agrees (t.Pairs.more_pairs a b ps) f vs m e w =
        valued_agrees l w _ _ _ _ _ (ev_agrees a m e w) (λ x u. valued_agrees l u _ _ _ _ _ (ev_agrees b m e u) (λ y z. pairs_agrees ps f
        (vs ++ x ∷
        y ∷ []) m e z))

    pub givens_agrees : (gs : Givens) (f : Form) (vs : List Val) (m : Bool) (e : Env) (w : World) → Agrees l w (given_args p k gs f vs m e
        w) (given_args p k' gs f vs m e w)
    givens_agrees no_givens f vs m e w = apply_agrees l p k k' d f vs m e w
    givens_agrees (more_givens x a gs) f vs m e w = valued_agrees l w _ _ _ _ _ (ev_agrees a m e w) (λ v u. givens_agrees gs f (vs ++ v ∷
        []) m e u)

    pub quotient_agrees : (ts : Trees) (f : Form) (m : Bool) (e : Env) (w : World) → Agrees l w (quotient p k ts f m e w) (quotient p k' ts
        f m e w)
    quotient_agrees no_trees f m e w = here w
    quotient_agrees (more_trees a ts) f m e w = quotient_tree_agrees a f m e w

    pub quotient_tree_agrees : (a : Tree) (f : Form) (m : Bool) (e : Env) (w : World) → Agrees l w (quotient_tree p k a f m e w)
        (quotient_tree p k' a f m e w)
    quotient_tree_agrees (tree n pl s) f m e w = quotient_shape_agrees s f m e w

    pub quotient_shape_agrees : (s : Shape) (f : Form) (m : Bool) (e : Env) (w : World) → Agrees l w (quotient_shape p k s f m e w)
        (quotient_shape p k' s f m e w)
    quotient_shape_agrees (t.Shape.chained x a b) f m e w =
        valued_agrees l w _ _ _ _ _ (ev_agrees a m e w) (λ v u. valued_agrees l u _ _ _ _ _ (ev_agrees b m e u) (λ y z. apply_agrees l p k
        k' d f (v ∷ y
        ∷ []) m e z))
    quotient_shape_agrees s f m e w = here w

    pub targets_agrees : (a : Tree) (f : Form) (left : List Tree) (m : Bool) (e : Env) (w : World) (go go' : List Val → World → Outcome) →
        ((vs : List Val) (u : World) → Agrees l u (go vs u) (go' vs u)) → Agrees l w (targets p k a f left m e w go) (targets p k' a f left
        m e w go')
    targets_agrees (tree n pl s) f left m e w go go' g = targets_shape_agrees s f left m e w go go' g

    pub targets_shape_agrees : (s : Shape) (f : Form) (left : List Tree) (m : Bool) (e : Env) (w : World) (go go' : List Val → World →
        Outcome) → ((vs : List Val) (u : World) → Agrees l u (go vs u) (go' vs u)) → Agrees l w (targets_shape p k s f left m e w go)
        (targets_shape p k' s f left m e w go')
    targets_shape_agrees (t.Shape.name x) f left m e w go go' g = g [] w
    targets_shape_agrees (t.Shape.member a x) f left m e w go go' g = valued_agrees l w _ _ _ _ _ (ev_agrees a m e w) (λ v u. g (v ∷ []) u)
    targets_shape_agrees (t.Shape.index a ts) f left m e w go go' g = targets_agrees a f _ m e w _ _ (λ vs u. indices_agrees ts f vs left m
        e u go go' g)
    targets_shape_agrees s f left m e w go go' g = here w

    pub indices_agrees : (ts : Trees) (f : Form) (vs : List Val) (left : List Tree) (m : Bool) (e : Env) (w : World) (go go' : List Val →
        World → Outcome) → ((vs : List Val) (u : World) → Agrees l u (go vs u) (go' vs u)) → Agrees l w (indices p k ts f vs left m e w go)
        (indices p k' ts f vs left m e w go')
    indices_agrees no_trees f vs left m e w go go' g = g vs w
    indices_agrees (more_trees a ts) f vs left m e w go go' g =
        valued_agrees l w _ _ _ _ _ (ev_agrees a m e w) (λ v u. indices_agrees ts f (vs ++ v ∷ []) left m e u go go' g)

    pub clauses_agrees : (cs : Trees) (m : Bool) (e : Env) (last : Val) (w : World) → Agrees l w (clauses p k cs m e last w) (clauses p k'
        cs m e last w)
    clauses_agrees no_trees m e last w = here w
    clauses_agrees (more_trees a cs) m e last w =
        claused_agrees (statement_of a) e m w _ _ _ _ _ _ (λ u. ev_agrees a m e u) (λ u. inner_agrees a m e u) (λ e v u. clauses_agrees cs m
        e v u)

    pub level_agrees : (cs : Trees) (a : Tree) (run run' : Env → World →
        Outcome) (pl : Place) (e : Env) (v so_far : Val) (m : Bool) (w : World) → ((e : Env) (u : World) → Agrees l u (run e u) (run' e u))
        →
        Agrees l w (level p k cs a run pl e v so_far w) (level p k' cs a run' pl e v so_far w)
    level_agrees no_trees a run run' pl e v so_far m w f = valued_agrees l w _ _ _ _ _ (f e w) (λ y u. alike (told_follow steps_closed u _
        pl e (still_writes u.state _)))
    level_agrees (more_trees c cs) a run run' pl e v so_far m w f =
        levelled_agrees (statement_of c) v e so_far m w _ _ _ _ _ (level_agrees cs a run run' pl e v so_far m w f)
        (λ g x so_far u. attempted_agrees l u _ _ _ _ _ _ (clauses_agrees cs false _ unit u) (λ e1 y z. level_agrees cs a run run' pl e1 y
        so_far m z
        f) (λ z. here z))

    pub chosen_agrees : (ts : Trees) (v : Val) (m : Bool) (e : Env) (w : World) → Agrees l w (chosen p k ts v m e w) (chosen p k' ts v m e
        w)
    chosen_agrees no_trees v m e w = here w
    chosen_agrees (more_trees a ts) v m e w = arm_agrees a (none_left ts) v m e w _ _ (chosen_agrees ts v m e w)

    pub arm_agrees : (a : Tree) (last : Bool) (v : Val) (m : Bool) (e : Env) (w : World) (go go' : World → Outcome) → Agrees l w (go w) (go'
        w) →
        Agrees l w (arm_of p k a last v m e w go) (arm_of p k' a last v m e w go')
    arm_agrees (tree n pl s) last v m e w go go' g = arm_shape_agrees s last v m e w go go' g

    pub arm_shape_agrees : (s : Shape) (last : Bool) (v : Val) (m : Bool) (e : Env) (w : World) (go go' : World → Outcome) → Agrees l w (go
        w) (go' w) →
        Agrees l w (arm_of_shape p k s last v m e w go) (arm_of_shape p k' s last v m e w go')
    arm_shape_agrees (t.Shape.arm a b) last v m e w go go' g = bool_agrees (cond last true (pattern_fits p a v)) m w _ _ _ _ (ev_agrees b m
        e w) g
    arm_shape_agrees s last v m e w go go' g = here w

    pub started_agrees : (kd : Kind) (pl : Place) (ts : Trees) (e : Env) (gs : Arms) (w : World) → Agrees l w (started p k kd pl ts e gs w)
        (started p k' kd pl ts e gs w)
    started_agrees kd pl no_trees e gs w = settled_agrees kd pl e gs w
    started_agrees kd pl (more_trees a ts) e gs w = begins_agrees w _ _ _ _ (λ u. ev_agrees a true e u) (λ u o o' h. armed_agrees l u o o' _
        _ _ _ h
        (λ v z. gave_agrees kd pl e (with_arm gs (gave v no_arms)) z _ _ (started_agrees kd pl ts e (with_arm gs (gave v no_arms)) z)) (λ s
        z.
        started_agrees kd pl ts e (with_arm gs (runs s no_arms)) z))

    pub spawn_agrees : (a : Tree) (m : Bool) (e : Env) (w : World) → Agrees l w (spawned p k a m e w) (spawned p k' a m e w)
    spawn_agrees (tree n pl s) m e w = spawn_shape_agrees s pl m e w

    pub spawn_shape_agrees : (s : Shape) (pl : Place) (m : Bool) (e : Env) (w : World) → Agrees l w (spawned_shape p k s pl m e w)
        (spawned_shape p k' s pl m e w)
    spawn_shape_agrees (t.Shape.call a ts) pl m e w =
        callee_agrees (spawned_callee (callee_of p a (form.picking None) pl)) m w _ _ _ _ _ _ _ _ (λ f. args_agrees ts f [] m e w)
        (λ f. valued_agrees l w _ _ _ _ _ (inner_agrees a m e w) (λ v u. args_agrees ts f (v ∷ []) m e u)) (λ f. here w) (λ f. here w)
    spawn_shape_agrees s pl m e w = here w
