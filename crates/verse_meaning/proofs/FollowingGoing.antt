-- A relation that each step keeps, where what is suspended goes on.
use Rattle.std.proofs.Common.{ℕ, zero, suc, length, List, [], ◌∷◌, ◌++◌, Option, Some, None, Bool, true, false}
use Rattle.verse_base.specs.declared.places.Place.{Place}
use Rattle.verse_tree.specs.Tree.{Tree, Trees}
use Rattle.verse_tree.specs.ItemTree.{FunTree}
use Rattle.verse_tree.specs.PostOrder.{parts}
use Rattle.verse_value.specs.Val.{Val, unit}
use Rattle.verse_meaning_state.specs.State.{with_entry, State}
use Rattle.verse_meaning_state.specs.Waits.{has}
use Rattle.verse_meaning.specs.Programs.{Program, fun_at}
use Rattle.verse_meaning.specs.Residuals as form
use Rattle.verse_meaning.specs.Residuals.{Env, Form, Generator, Values, Role, body, root, Residual, leaf, args, seq, deferred, looped}
use Rattle.verse_meaning.specs.Residuals.{filling, generated, called, arms, Scope, scope, Scopes, none, also, Arms, no_arms, gave, runs}
use Rattle.verse_meaning.specs.Residuals.{scope_leaves, is_behind}
use Rattle.verse_meaning.specs.Outcomes.{World, with_state, set_behind, Outcome, TaskOutcome, ends, lost, stops, sleeps, BehindOutcome}
use Rattle.verse_meaning.specs.Outcomes.{stays, stops_behind, ArmsOutcome, stand, stops_arms, arm_came, arm_before, arms_came}
use Rattle.verse_meaning.specs.Outcomes.{element_came, element_before, behind_came}
use Rattle.verse_meaning.specs.Forms.{Deeper, with_taken, next_value}
use Rattle.verse_meaning.specs.Evaluating.{on_bool, ev}
use Rattle.verse_meaning.specs.Resuming.{form_done, operands, taken, resume, resume_scope, resume_behind, resume_arms}
use Rattle.verse_meaning.specs.Runs.{with_params, with_this, taking, entered, on_next, deeper}
use Rattle.verse_meaning.specs.RunLaws.{Reaches, halted_state}
use Rattle.verse_meaning.proofs.Following.{Closed, ReachesTask, attempted_follow, call_end_follow, closing_follow, known_follow}
use Rattle.verse_meaning.proofs.Following.{reaches_then, spends_follow, task_follow, task_then_follow, turned_follow, valued_follow}
use Rattle.verse_meaning.proofs.FollowingForms.{DeeperFollows, apply_follow, defined_follow, filled_follow}
use Rattle.verse_meaning.proofs.FollowingEvaluating.{chosen_follow, clauses_follow, ev_follow, level_follow, scope_follow, settled_follow}
use Rattle.verse_meaning.proofs.FollowingEvaluating.{statements_follow}

bool_task : (b : Bool) (R : State → State → Type 0) (s : State) (f g : Bool → TaskOutcome) → ReachesTask R s (f true) →
    ReachesTask R s (g false) → ReachesTask R s (on_bool b f g)
bool_task true R s f g x y = x
bool_task false R s f g x y = y

-- what is behind, and the arms, as lists
abbrev pub ReachesBehind : (State → State → Type 0) → State → BehindOutcome → Type 0
ReachesBehind R s (stays bs u) = R s u.state
ReachesBehind R s (stops_behind h) = R s (halted_state h)

abbrev pub ReachesArms : (State → State → Type 0) → State → ArmsOutcome → Type 0
ReachesArms R s (stand gs u) = R s u.state
ReachesArms R s (stops_arms h) = R s (halted_state h)

bool_behind : (b : Bool) (R : State → State → Type 0) (s : State) (f g : Bool → BehindOutcome) → ReachesBehind R s (f true) →
    ReachesBehind R s (g false) → ReachesBehind R s (on_bool b f g)
bool_behind true R s f g x y = x
bool_behind false R s f g x y = y

bool_arms : (b : Bool) (R : State → State → Type 0) (s : State) (f g : Bool → ArmsOutcome) → ReachesArms R s (f true) →
    ReachesArms R s (g false) → ReachesArms R s (on_bool b f g)
bool_arms true R s f g x y = x
bool_arms false R s f g x y = y

module _ {R : State → State → Type 0} (cl : Closed R) where
  taking_follow : (p : Program) (f : ℕ) (o : Option Val) (vs : List Val) (w : World) (go : FunTree → Env → Outcome) →
      ((fn : FunTree) (e : Env) → Reaches R w.state (go fn e)) → Reaches R w.state (taking p f o vs w go)
  taking_follow p f o vs w go h =
      known_follow cl w (fun_at p f) _ (λ fn. known_follow cl w (with_params fn.params vs (with_this o)) _ (λ e. h fn e))

  next_follow : (x : Option ((Val × Val) × Values)) (s : State) (o : Outcome) (go : Val × Val → Values → Outcome) → Reaches R s o →
      ((v : Val × Val) (vs : Values) → Reaches R s (go v vs)) → Reaches R s (on_next x o go)
  unfolding on_next
  next_follow None s o go a f = a
  next_follow (Some x) s o go a f = f x.0 x.1

  entered_follow : (p : Program) (k : Deeper) (d : DeeperFollows R k) (q : Role) (f : FunTree) (e : Env) (m : Bool) (w : World) →
      ReachesTask R w.state (entered p k q f e m w)
  entered_follow p k d q f e m w =
      scope_follow cl p k d w.state q w.behind (ev p k f.body m e (set_behind w none)) (ev_follow cl p k d f.body m e (set_behind w none))

  pub deeper_follow : (p : Program) (n : ℕ) → DeeperFollows R (deeper p n)
  deeper_follow p zero = record {
    calls = λ f o vs m e w. taking_follow p f o vs w _ (λ fn e1. cl.same w.state);
    spawns = λ f o vs e w. taking_follow p f o vs w _ (λ fn e1. cl.same w.state);
    loops = λ m go wrap e w f. cl.same w.state;
    takes = λ m go wrap e vs a w f. next_follow (next_value vs) w.state _ _ (cl.same w.state) (λ x left. cl.same w.state);
    parts = λ a e w. cl.same w.state;
    defaults = λ a m e w. cl.same w.state;
  }
  deeper_follow p (suc n) = record {
    calls = λ f o vs m e w. taking_follow p f o vs w _ (λ fn e1. spends_follow cl w _ (λ u. call_end_follow cl u.state e
        (entered p (deeper p n) body fn e1 m u) (entered_follow p (deeper p n) (deeper_follow p n) body fn e1 m u)));
    spawns = λ f o vs e w. taking_follow p f o vs w _ (λ fn e1. spends_follow cl w _ (λ u. task_follow cl u.state e _ _
        (task_then_follow cl u.state (with_entry u.state) _ (cl.enters u.state) (entered_follow p (deeper p n) (deeper_follow p n) (root
        (Some (length u.state.clock.results))) fn e1 true (with_state u (with_entry u.state))))));
    loops = λ m go wrap e w f. spends_follow cl w _ (λ u. turned_follow cl u.state (go u) wrap e _ (f u) (λ x. (deeper_follow p
        n).loops m go wrap e x f));
    takes = λ m go wrap e vs a w f. next_follow (next_value vs) w.state _ _ (cl.same w.state) (λ x left. spends_follow cl w _ (λ u.
        valued_follow cl u.state (go x a u) _ _ (f x a u) (λ b z. (deeper_follow p n).takes m go wrap e left b z f)));
    parts = λ a e w. spends_follow cl w _ (λ u. ev_follow cl p (deeper p n) (deeper_follow p n) a false e u);
    defaults = λ a m e w. spends_follow cl w _ (λ u. call_end_follow cl u.state e _ (scope_follow cl p (deeper p n) (deeper_follow p n)
        u.state body u.behind (ev p (deeper p n) a m [] (set_behind u none)) (ev_follow cl p (deeper p n) (deeper_follow p n) a m []
        (set_behind u none))));
  }

  pub element_follow : (s : State) (o : TaskOutcome) (bs : Scopes) → ReachesTask R s o → ReachesBehind R s (element_came o bs)
  unfolding element_came
  element_follow s (ends v u) bs a = a
  element_follow s (lost t) bs a = a
  element_follow s (stops h) bs a = a
  element_follow s (sleeps x u) bs a = a

  pub before_follow : (s : State) (x : Scope) (o : BehindOutcome) → ReachesBehind R s o → ReachesBehind R s (element_before x o)
  unfolding element_before
  before_follow s x (stays bs u) a = a
  before_follow s x (stops_behind h) a = a

  pub behind_came_follow : (s : State) (q : Role) (r : Residual) (o : BehindOutcome) → ReachesBehind R s o → ReachesTask R s (behind_came q
      r o)
  unfolding behind_came
  behind_came_follow s q r (stays bs u) a = a
  behind_came_follow s q r (stops_behind h) a = a

  pub arm_came_follow : (s : State) (o : TaskOutcome) (gs : Arms) → ReachesTask R s o → ReachesArms R s (arm_came o gs)
  unfolding arm_came
  arm_came_follow s (ends v u) gs a = a
  arm_came_follow s (lost t) gs a = a
  arm_came_follow s (stops h) gs a = a
  arm_came_follow s (sleeps x u) gs a = a

  pub front_follow : (s : State) (f : Arms → Arms) (o : ArmsOutcome) → ReachesArms R s o → ReachesArms R s (arm_before f o)
  unfolding arm_before
  front_follow s f (stand gs u) a = a
  front_follow s f (stops_arms h) a = a

  arms_came_follow : (s : State) (o : ArmsOutcome) (go : Arms → World → Outcome) → ReachesArms R s o → ((gs : Arms) (u : World) →
      Reaches R u.state (go gs u)) → Reaches R s (arms_came o go)
  unfolding arms_came
  arms_came_follow s (stand gs u) go a f = reaches_then cl s u.state (go gs u) a (f gs u)
  arms_came_follow s (stops_arms h) go a f = a

module _ {R : State → State → Type 0} (cl : Closed R) (p : Program) (k : Deeper) (d : DeeperFollows R k) where
  done_follow : (f : Form) (vs : List Val) (e : Env) (w : World) → Reaches R w.state (form_done p k f vs e w)
  done_follow (form.choosing ts) (v ∷ []) e w = chosen_follow cl p k d ts v true e w
  done_follow f vs e w = apply_follow cl p k d f vs true e w

  operands_follow : (e : Env) (f : Form) (vs : List Val) (left : List Tree) (w : World) → Reaches R w.state (operands p k e f vs left w)
  operands_follow e f vs [] w = done_follow f vs e w
  operands_follow e f vs (a ∷ left) w =
      valued_follow cl w.state _ _ _ (ev_follow cl p k d a true e w) (λ v u. operands_follow e f (vs ++ v ∷ []) left u)

  taken_follow : (g : Generator) (cs : Trees) (a : Tree) (pl : Place) (e : Env) (x : Val × Val) (so_far : Val) (w : World) →
      Reaches R w.state (taken p k g cs a pl e x so_far w)
  taken_follow g cs a pl e x so_far w =
      attempted_follow cl w _ _ _ (clauses_follow cl p k d cs false (with_taken g x e) unit w) (λ e1 y u. level_follow cl p k d cs a _ pl
      e1 y so_far true u (λ e z. ev_follow cl p k d a true e z)) (λ u. cl.same u.state)

  mutual
    pub resume_follow : (r : Residual) (n : ℕ) (v : Val) (w : World) → Reaches R w.state (resume p k r n v w)
    resume_follow (leaf x e) n v w = cl.same w.state
    resume_follow (args e f vs r left) n v w =
        valued_follow cl w.state _ _ _ (resume_follow r n v w) (λ y u. operands_follow e f (vs ++ y ∷ []) left u)
    resume_follow (seq e b r left) n v w =
        valued_follow cl w.state _ _ _ (resume_follow r n v w) (λ y u. defined_follow cl p k d b e y true u _ (λ e z x. statements_follow
        cl p k d left true e z x))
    resume_follow (deferred e a r) n v w = closing_follow cl w.state _ _ _ e (resume_follow r n v w) (λ u. d.parts a e u)
    resume_follow (filling e c pl fs xs vs ss r) n v w =
        valued_follow cl w.state _ _ _ (resume_follow r n v w) (λ y u. filled_follow cl p k d fs xs vs c (ss ++ y ∷ []) pl true e u)
    resume_follow (looped e a r) n v w =
        turned_follow cl w.state _ _ e _ (resume_follow r n v w) (λ u. d.loops true _ _ e u (λ z. ev_follow cl p k d a true e z))
    resume_follow (generated e g cs a pl vs r) n v w =
        valued_follow cl w.state _ _ _ (resume_follow r n v w) (λ y u. d.takes true _ _ e vs y u (λ x b z. taken_follow g cs a pl e x b z))
    resume_follow (called e s) n v w = call_end_follow cl w.state e _ (resume_scope_follow s n v w)
    resume_follow (arms kd pl e gs) n v w =
        arms_came_follow cl w.state _ _ (resume_arms_follow gs n v w) (λ gs u. settled_follow cl p k d kd pl e gs u)

    pub resume_scope_follow : (s : Scope) (n : ℕ) (v : Val) (w : World) → ReachesTask R w.state (resume_scope p k s n v w)
    resume_scope_follow (scope q r bs) n v w = bool_task (is_behind n bs) R w.state _ _ (behind_came_follow cl w.state q r _
        (resume_behind_follow bs n v w)) (scope_follow cl p k d w.state q w.behind (resume p k r n v (set_behind w bs)) (resume_follow r n
        v (set_behind w bs)))

    pub resume_behind_follow : (bs : Scopes) (n : ℕ) (v : Val) (w : World) → ReachesBehind R w.state (resume_behind p k bs n v w)
    resume_behind_follow none n v w = cl.same w.state
    resume_behind_follow (also s bs) n v w =
        bool_behind (has n (scope_leaves s)) R w.state _ _ (element_follow cl w.state _ bs (resume_scope_follow s n v w)) (before_follow cl
        w.state s _ (resume_behind_follow bs n v w))

    pub resume_arms_follow : (gs : Arms) (n : ℕ) (v : Val) (w : World) → ReachesArms R w.state (resume_arms p k gs n v w)
    resume_arms_follow no_arms n v w = cl.same w.state
    resume_arms_follow (gave y gs) n v w = front_follow cl w.state _ _ (resume_arms_follow gs n v w)
    resume_arms_follow (runs s gs) n v w =
        bool_arms (has n (scope_leaves s)) R w.state _ _ (arm_came_follow cl w.state _ gs (resume_scope_follow s n v w)) (front_follow cl
        w.state _ _ (resume_arms_follow gs n v w))
