-- Two depths that come to the same, where no more steps are left than either has.
use Rattle.std.proofs.Common.{◌≡◌, ◌≤◌, ℕ, zero, suc, length, List, [], ◌∷◌, ◌++◌, Option, Some, None, Bool, true, false, refl, subst}
use Rattle.std.proofs.Math.Path.{ap}
use Rattle.std.proofs.Math.Nat.{le_refl, le_trans, le_of_suc-le, le_of_suc-le-suc}
use Rattle.verse_base.specs.declared.places.Place.{Place}
use Rattle.verse_tree.specs.ItemTree.{FunTree}
use Rattle.verse_tree.specs.Tree.{Tree, Trees}
use Rattle.verse_tree.specs.PostOrder.{parts}
use Rattle.verse_value.specs.Val.{Val, unit}
use Rattle.verse_meaning_state.specs.Turns.{going}
use Rattle.verse_meaning_state.specs.Waits.{has}
use Rattle.verse_meaning_state.specs.State.{stepped, with_entry}
use Rattle.verse_meaning.specs.Programs.{Program, fun_at}
use Rattle.verse_meaning.specs.Residuals as form
use Rattle.verse_meaning.specs.Residuals.{Arms, Env, Form, Generator, Residual, Role, Scope, Scopes, Values, also, args, arms, body}
use Rattle.verse_meaning.specs.Residuals.{called, deferred, filling, gave, generated, is_behind, leaf, looped, no_arms, none, root, runs}
use Rattle.verse_meaning.specs.Residuals.{scope, scope_leaves, seq}
use Rattle.verse_meaning.specs.Outcomes.{ArmsOutcome, BehindOutcome, Outcome, TaskOutcome, World, arm_before, arm_came, arms_came}
use Rattle.verse_meaning.specs.Outcomes.{behind_came, element_before, element_came, set_behind, stand, stops_arms, with_state}
use Rattle.verse_meaning.specs.Forms.{Deeper, next_value, with_taken}
use Rattle.verse_meaning.specs.Evaluating.{on_bool}
use Rattle.verse_meaning.specs.Resuming.{form_done, operands, resume, resume_arms, resume_behind, resume_scope, taken}
use Rattle.verse_meaning.specs.Runs.{deeper, entered, on_next, taking, with_params, with_this}
use Rattle.verse_meaning.specs.RunLaws.{DepthEnough, StepsStand}
use Rattle.verse_meaning.proofs.Agreeing.{Agrees, AgreesTask, Alike, Within, attempted_agrees, behind_it, behind_task, call_end_agrees}
use Rattle.verse_meaning.proofs.Agreeing.{closing_agrees, here, known_agrees, no_step_right, spends_less, task_agrees, turned_agrees}
use Rattle.verse_meaning.proofs.Agreeing.{valued_agrees, no_step_left}
use Rattle.verse_meaning.proofs.AgreeingForms.{DeeperAgrees, apply_agrees, defined_agrees, filled_agrees}
use Rattle.verse_meaning.proofs.FollowingGoing.{ReachesArms, ReachesBehind, arm_came_follow, before_follow, behind_came_follow}
use Rattle.verse_meaning.proofs.FollowingGoing.{element_follow, front_follow}
use Rattle.verse_meaning.proofs.AgreeingEvaluating.{chosen_agrees, clauses_agrees, ev_agrees, level_agrees, scope_agrees, settled_agrees}
use Rattle.verse_meaning.proofs.AgreeingEvaluating.{statements_agrees}
use Rattle.verse_meaning.proofs.Counting.{steps_closed}

module _ (l : ℕ) (p : Program) where
  taking_agrees : (f : ℕ) (o : Option Val) (vs : List Val) (w : World) (go go' : FunTree → Env → Outcome) →
      ((fn : FunTree) (e : Env) → Agrees l w (go fn e) (go' fn e)) → Agrees l w (taking p f o vs w go) (taking p f o vs w go')
  taking_agrees f o vs w go go' h =
      known_agrees l w (fun_at p f) _ _ (λ fn. known_agrees l w (with_params fn.params vs (with_this o)) _ _ (λ e. h fn e))

  next_agrees : (x : Option ((Val × Val) × Values)) (w : World) (o : Outcome) (go go' : Val × Val → Values → Outcome) →
      Agrees l w o o → ((v : Val × Val) (vs : Values) → Agrees l w (go v vs) (go' v vs)) → Agrees l w (on_next x o go) (on_next x o go')
  unfolding on_next
  next_agrees None w o go go' a f = a
  next_agrees (Some x) w o go go' a f = f x.0 x.1

  entered_agrees : (k k' : Deeper) (d : DeeperAgrees l k k') (q : Role) (f : FunTree) (e : Env) (m : Bool) (w : World) →
      AgreesTask l w (entered p k q f e m w) (entered p k' q f e m w)
  entered_agrees k k' d q f e m w = scope_agrees l p k k' d w q w.behind _ _ (ev_agrees l p k k' d f.body m e (set_behind w none))

below : (i l n : ℕ) → suc i ≤ l → l ≤ suc n → i ≤ n
below i l n b h = le_of_suc-le-suc (le_trans b h)

pub deeper_agrees : (p : Program) (n n' l : ℕ) → l ≤ n → l ≤ n' → DeeperAgrees l (deeper p n) (deeper p n')
deeper_agrees p zero zero l a b = record {
  calls = λ f o vs m e w. taking_agrees l p f o vs w _ _ (λ fn e1. here w);
  spawns = λ f o vs e w. taking_agrees l p f o vs w _ _ (λ fn e1. here w);
  loops = λ m go go' wrap e w f. here w;
  takes = λ m go go' wrap e vs x w f. next_agrees l p (next_value vs) w _ _ _ (here w) (λ x left. here w);
  parts = λ x e w. here w;
  defaults = λ x m e w. here w;
}
deeper_agrees p zero (suc n') l a b = record {
  calls = λ f o vs m e w. taking_agrees l p f o vs w _ _ (λ fn e1. no_step_left l w _ a);
  spawns = λ f o vs e w. taking_agrees l p f o vs w _ _ (λ fn e1. no_step_left l w _ a);
  loops = λ m go go' wrap e w f. no_step_left l w _ a;
  takes = λ m go go' wrap e vs x w f. next_agrees l p (next_value vs) w _ _ _ (here w) (λ x left. no_step_left l w _ a);
  parts = λ x e w. no_step_left l w _ a;
  defaults = λ x m e w. no_step_left l w _ a;
}
deeper_agrees p (suc n) zero l a b = record {
  calls = λ f o vs m e w. taking_agrees l p f o vs w _ _ (λ fn e1. no_step_right l w _ b);
  spawns = λ f o vs e w. taking_agrees l p f o vs w _ _ (λ fn e1. no_step_right l w _ b);
  loops = λ m go go' wrap e w f. no_step_right l w _ b;
  takes = λ m go go' wrap e vs x w f. next_agrees l p (next_value vs) w _ _ _ (here w) (λ x left. no_step_right l w _ b);
  parts = λ x e w. no_step_right l w _ b;
  defaults = λ x m e w. no_step_right l w _ b;
}
deeper_agrees p (suc n) (suc n') l a b = record {
  calls = λ f o vs m e w. taking_agrees l p f o vs w _ _ (λ fn e1. spends_less l w _ _ (λ i c. call_end_agrees i (with_state w (stepped i
      w.state)) e _ _ (entered_agrees i p (deeper p n) (deeper p n') (deeper_agrees p n n' i (below i l n c a) (below i l n' c b)) body fn
      e1 m (with_state w (stepped i w.state))) (le_refl i)));
  spawns = λ f o vs e w. taking_agrees l p f o vs w _ _ (λ fn e1. spends_less l w _ _ (λ i c. task_agrees i (with_state w (stepped i
      w.state)) e _ _ _ (λ h. behind_task i (stepped i w.state) (with_state w (with_entry (stepped i w.state))) _ _ h (steps_closed.enters
      (stepped i w.state)) (entered_agrees i p (deeper p n) (deeper p n') (deeper_agrees p n n' i (below i l n c a) (below i l n' c b))
      (root (Some (length w.state.clock.results))) fn e1 true (with_state w (with_entry (stepped i w.state))))) (le_refl i)));
  loops = λ m go go' wrap e w f. spends_less l w _ _ (λ i c. turned_agrees i (with_state w (stepped i w.state)) _ _ wrap e _ _
      (λ h. f (with_state w (stepped i w.state)) (le_trans h (le_of_suc-le c))) (λ x. (deeper_agrees p n n' i (below i l n c a) (below i l
      n' c b)).loops m go go' wrap e x (λ y h. f y (le_trans h (le_of_suc-le c)))) (le_refl i));
  takes = λ m go go' wrap e vs q w f. next_agrees l p (next_value vs) w _ _ _ (here w) (λ x left. spends_less l w _ _ (λ i c.
      valued_agrees i (with_state w (stepped i w.state)) _ _ (wrap left) _ _ (λ h. f x q (with_state w (stepped i w.state)) (le_trans h
      (le_of_suc-le c))) (λ y z. (deeper_agrees p n n' i (below i l n c a) (below i l n' c b)).takes m go go' wrap e left y z (λ x q y h.
      f x q y (le_trans h (le_of_suc-le c)))) (le_refl i)));
  parts = λ x e w. spends_less l w _ _ (λ i c. ev_agrees i p (deeper p n) (deeper p n') (deeper_agrees p n n' i (below i l n c a) (below i
      l n' c b)) x false e (with_state w (stepped i w.state)) (le_refl i));
  defaults = λ x m e w. spends_less l w _ _ (λ i c. call_end_agrees i (with_state w (stepped i w.state)) e _ _ (scope_agrees i p (deeper p
      n) (deeper p n') (deeper_agrees p n n' i (below i l n c a) (below i l n' c b)) (with_state w (stepped i w.state)) body w.behind _ _
      (ev_agrees i p (deeper p n) (deeper p n') (deeper_agrees p n n' i (below i l n c a) (below i l n' c b)) x m [] (set_behind
      (with_state w (stepped i w.state)) none))) (le_refl i));
}

-- what is behind, and the arms, as lists
abbrev AgreesBehind : ℕ → World → BehindOutcome → BehindOutcome → Type 0
AgreesBehind l w o o' = Within l w.state → ReachesBehind StepsStand w.state o × (o ≡ o')

abbrev AgreesArms : ℕ → World → ArmsOutcome → ArmsOutcome → Type 0
AgreesArms l w o o' = Within l w.state → ReachesArms StepsStand w.state o × (o ≡ o')

on_both : {A : Type 0} (P : A → A → Type 0) (b : Bool) (f g f' g' : Bool → A) → P (f true) (f' true) → P (g false) (g' false) →
    P (on_bool b f g) (on_bool b f' g')
on_both P true f g f' g' x y = x
on_both P false f g f' g' x y = y

module _ (l : ℕ) (w : World) where
  element_agrees : (o o' : TaskOutcome) (bs : Scopes) → AgreesTask l w o o' → AgreesBehind l w (element_came o bs) (element_came o' bs)
  element_agrees o o' bs a h = (element_follow steps_closed w.state o bs (a h).0, ap (λ x. element_came x bs) (a h).1)

  before_agrees : (s : Scope) (o o' : BehindOutcome) → AgreesBehind l w o o' → AgreesBehind l w (element_before s o) (element_before s o')
  before_agrees s o o' a h = (before_follow steps_closed w.state s o (a h).0, ap (λ x. element_before s x) (a h).1)

  behind_agrees : (q : Role) (r : Residual) (o o' : BehindOutcome) → AgreesBehind l w o o' →
      AgreesTask l w (behind_came q r o) (behind_came q r o')
  behind_agrees q r o o' a h = (behind_came_follow steps_closed w.state q r o (a h).0, ap (λ x. behind_came q r x) (a h).1)

  arm_came_agrees : (o o' : TaskOutcome) (gs : Arms) → AgreesTask l w o o' → AgreesArms l w (arm_came o gs) (arm_came o' gs)
  arm_came_agrees o o' gs a h = (arm_came_follow steps_closed w.state o gs (a h).0, ap (λ x. arm_came x gs) (a h).1)

  front_agrees : (f : Arms → Arms) (o o' : ArmsOutcome) → AgreesArms l w o o' → AgreesArms l w (arm_before f o) (arm_before f o')
  front_agrees f o o' a h = (front_follow steps_closed w.state f o (a h).0, ap (λ x. arm_before f x) (a h).1)

  arms_came_alike : (o : ArmsOutcome) (go go' : Arms → World → Outcome) → Within l w.state → ReachesArms StepsStand w.state o →
      ((gs : Arms) (u : World) → Agrees l u (go gs u) (go' gs u)) → Alike w.state (arms_came o go) (arms_came o go')
  unfolding arms_came
  arms_came_alike (stand gs u) go go' h a f = behind_it l w.state u _ _ h a (f gs u)
  arms_came_alike (stops_arms x) go go' h a f = (a, refl)

  arms_came_agrees : (o o' : ArmsOutcome) (go go' : Arms → World → Outcome) → AgreesArms l w o o' → ((gs : Arms) (u : World) →
      Agrees l u (go gs u) (go' gs u)) → Agrees l w (arms_came o go) (arms_came o' go')
  arms_came_agrees o o' go go' a f h =
      subst (λ x. Alike w.state (arms_came o go) (arms_came x go')) (a h).1 (arms_came_alike o go go' h (a h).0 f)

module _ (l : ℕ) (p : Program) (k k' : Deeper) (d : DeeperAgrees l k k') where
  done_agrees : (f : Form) (vs : List Val) (e : Env) (w : World) → Agrees l w (form_done p k f vs e w) (form_done p k' f vs e w)
  done_agrees (form.choosing ts) (v ∷ []) e w = chosen_agrees l p k k' d ts v true e w
  done_agrees f vs e w = apply_agrees l p k k' d f vs true e w

  operands_agree : (e : Env) (f : Form) (vs : List Val) (left : List Tree) (w : World) →
      Agrees l w (operands p k e f vs left w) (operands p k' e f vs left w)
  operands_agree e f vs [] w = done_agrees f vs e w
  operands_agree e f vs (a ∷ left) w =
      valued_agrees l w _ _ _ _ _ (ev_agrees l p k k' d a true e w) (λ v u. operands_agree e f (vs ++ v ∷ []) left u)

  taken_agrees : (g : Generator) (cs : Trees) (a : Tree) (pl : Place) (e : Env) (x : Val × Val) (so_far : Val) (w : World) →
      Agrees l w (taken p k g cs a pl e x so_far w) (taken p k' g cs a pl e x so_far w)
  taken_agrees g cs a pl e x so_far w = attempted_agrees l w _ _ _ _ _ _ (clauses_agrees l p k k' d cs false (with_taken g x e) unit w)
      (λ e1 y u. level_agrees l p k k' d cs a _ _ pl e1 y so_far true u (λ e z. ev_agrees l p k k' d a true e z)) (λ u. here u)

  mutual
    pub resume_agrees : (r : Residual) (n : ℕ) (v : Val) (w : World) → Agrees l w (resume p k r n v w) (resume p k' r n v w)
    resume_agrees (leaf x e) n v w = here w
    resume_agrees (args e f vs r left) n v w =
        valued_agrees l w _ _ _ _ _ (resume_agrees r n v w) (λ y u. operands_agree e f (vs ++ y ∷ []) left u)
    resume_agrees (seq e b r left) n v w =
        valued_agrees l w _ _ _ _ _ (resume_agrees r n v w) (λ y u. defined_agrees l p k k' d b e y true u _ _ (λ e z x. statements_agrees
        l p k k' d left true e z x))
    resume_agrees (deferred e a r) n v w = closing_agrees l w _ _ _ _ _ e (resume_agrees r n v w) (λ u. d.parts a e u)
    resume_agrees (filling e c pl fs xs vs ss r) n v w =
        valued_agrees l w _ _ _ _ _ (resume_agrees r n v w) (λ y u. filled_agrees l p k k' d fs xs vs c (ss ++ y ∷ []) pl true e u)
    resume_agrees (looped e a r) n v w = turned_agrees l w _ _ _ e _ _ (resume_agrees r n v w) (λ u. d.loops true _ _ _ e u (λ z.
        ev_agrees l p k k' d a true e z))
    resume_agrees (generated e g cs a pl vs r) n v w = valued_agrees l w _ _ _ _ _ (resume_agrees r n v w) (λ y u. d.takes true _ _ _ e
        vs y u (λ x b z. taken_agrees g cs a pl e x b z))
    resume_agrees (called e s) n v w = call_end_agrees l w e _ _ (resume_scope_agrees s n v w)
    resume_agrees (arms kd pl e gs) n v w =
        arms_came_agrees l w _ _ _ _ (resume_arms_agree gs n v w) (λ gs u. settled_agrees l p k k' d kd pl e gs u)

    pub resume_scope_agrees : (s : Scope) (n : ℕ) (v : Val) (w : World) →
        AgreesTask l w (resume_scope p k s n v w) (resume_scope p k' s n v w)
    resume_scope_agrees (scope q r bs) n v w = on_both (AgreesTask l w) (is_behind n bs) _ _ _ _ (behind_agrees l w q r _ _
        (resume_behind_agrees bs n v w)) (scope_agrees l p k k' d w q w.behind _ _ (resume_agrees r n v (set_behind w bs)))

    pub resume_behind_agrees : (bs : Scopes) (n : ℕ) (v : Val) (w : World) →
        AgreesBehind l w (resume_behind p k bs n v w) (resume_behind p k' bs n v w)
    resume_behind_agrees none n v w = here w
    resume_behind_agrees (also s bs) n v w = on_both (AgreesBehind l w) (has n (scope_leaves s)) _ _ _ _ (element_agrees l w _ _ bs
        (resume_scope_agrees s n v w)) (before_agrees l w s _ _ (resume_behind_agrees bs n v w))

    pub resume_arms_agree : (gs : Arms) (n : ℕ) (v : Val) (w : World) →
        AgreesArms l w (resume_arms p k gs n v w) (resume_arms p k' gs n v w)
    resume_arms_agree no_arms n v w = here w
    resume_arms_agree (gave y gs) n v w = front_agrees l w _ _ _ (resume_arms_agree gs n v w)
    resume_arms_agree (runs s gs) n v w = on_both (AgreesArms l w) (has n (scope_leaves s)) _ _ _ _ (arm_came_agrees l w _ _ gs
        (resume_scope_agrees s n v w)) (front_agrees l w _ _ _ (resume_arms_agree gs n v w))

pub depth_enough : DepthEnough
depth_enough p = record {
  evaluation = λ n n' a m e w h h'. (ev_agrees w.state.clock.left p (deeper p n) (deeper p n') (deeper_agrees p n n' w.state.clock.left h
      h') a m e w (le_refl w.state.clock.left)).1;
  going = λ n n' s i v w h h'. (resume_scope_agrees w.state.clock.left p (deeper p n) (deeper p n') (deeper_agrees p n n'
      w.state.clock.left h h') s i v w (le_refl w.state.clock.left)).1;
}
