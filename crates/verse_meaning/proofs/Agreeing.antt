-- Two evaluations that come to the same where no more than so many steps are left, through the combinators.
use Rattle.std.proofs.Common.{◌≡◌, ◌≤◌, ℕ, zero, suc, Option, Some, None, Bool, true, false, refl, sym, subst}
use Rattle.std.proofs.Math.Nat.{le_trans, le_of_suc-le, not-suc-le-zero}
use Rattle.std.proofs.Math.Path.{ap}
use Rattle.verse_value.specs.Val.{Val, unit}
use Rattle.verse_meaning_state.specs.State.{State, restored, stepped}
use Rattle.verse_meaning_state.specs.Turns.{run}
use Rattle.verse_meaning.specs.Residuals.{Env, Residual, Scope}
use Rattle.verse_meaning.specs.Outcomes.{Outcome, TaskOutcome, Went, World, armed, attempted, branch_started, broke, call_end, closing}
use Rattle.verse_meaning.specs.Outcomes.{dropped, ends, failed, halted, if_known, if_there, lost, on_went, on_went_task, out, outside}
use Rattle.verse_meaning.specs.Outcomes.{quits, ran, rests, returned, sleeps, spends, stops, task_started, turned, value, valued, went}
use Rattle.verse_meaning.specs.Outcomes.{went_on, with_state}
use Rattle.verse_meaning.specs.RunLaws.{Reaches, StepsStand}
use Rattle.verse_meaning.proofs.Following.{ReachesTask, ReachesWent, branch_follow, call_end_follow, denied_follow, dropped_follow}
use Rattle.verse_meaning.proofs.Following.{reaches_then, task_follow, task_then_follow, went_then_follow}
use Rattle.verse_meaning.proofs.Counting.{steps_closed}

abbrev pub Within : ℕ → State → Type 0
Within l s = s.clock.left ≤ l

-- the same outcome, and steps are counted in it
abbrev pub Alike : State → Outcome → Outcome → Type 0
Alike s o o' = Reaches StepsStand s o × (o ≡ o')

abbrev pub AlikeTask : State → TaskOutcome → TaskOutcome → Type 0
AlikeTask s o o' = ReachesTask StepsStand s o × (o ≡ o')

abbrev pub AlikeWent : State → Went → Went → Type 0
AlikeWent s x x' = ReachesWent StepsStand s x × (x ≡ x')

abbrev pub Agrees : ℕ → World → Outcome → Outcome → Type 0
Agrees l w o o' = Within l w.state → Alike w.state o o'

abbrev pub AgreesTask : ℕ → World → TaskOutcome → TaskOutcome → Type 0
AgreesTask l w o o' = Within l w.state → AlikeTask w.state o o'

abbrev pub AgreesWent : ℕ → World → Went → Went → Type 0
AgreesWent l w x x' = Within l w.state → AlikeWent w.state x x'

-- what is the same on both sides
pub alike : {A B X : Type 0} {o : A} → X → B → X × (o ≡ o)
alike a h = (a, refl)

pub here : {A B : Type 0} {o : A} (w : World) → B → StepsStand w.state w.state × (o ≡ o)
here w h = (steps_closed.same w.state, refl)

further : (l : ℕ) (s u : State) → Within l s → StepsStand s u → Within l u
further l s u h a = le_trans a.falls h

pub behind_it : (l : ℕ) (s : State) (u : World) (o o' : Outcome) → Within l s → StepsStand s u.state → Agrees l u o o' → Alike s o o'
behind_it l s u o o' h a f =
    (reaches_then steps_closed s u.state o a (f (further l s u.state h a)).0, (f (further l s u.state h a)).1)

pub behind_task : (l : ℕ) (s : State) (u : World) (o o' : TaskOutcome) → Within l s → StepsStand s u.state → AgreesTask l u o o' →
    AlikeTask s o o'
behind_task l s u o o' h a f =
    (task_then_follow steps_closed s u.state o a (f (further l s u.state h a)).0, (f (further l s u.state h a)).1)

behind_went : (l : ℕ) (s : State) (u : World) (o o' : Went) → Within l s → StepsStand s u.state → AgreesWent l u o o' → AlikeWent s o o'
behind_went l s u o o' h a f =
    (went_then_follow steps_closed s u.state o a (f (further l s u.state h a)).0, (f (further l s u.state h a)).1)

module _ (l : ℕ) where
  valued_alike : (s : State) (o : Outcome) (wrap : Residual → Residual) (go go' : Val → World → Outcome) → Within l s →
      Reaches StepsStand s o → ((v : Val) (u : World) → Agrees l u (go v u) (go' v u)) → Alike s (valued o wrap go) (valued o wrap go')
  unfolding valued
  valued_alike s (value e v u) wrap go go' h a f = behind_it l s u _ _ h a (f v u)
  valued_alike s (failed t) wrap go go' h a f = (a, refl)
  valued_alike s (returned v u) wrap go go' h a f = (a, refl)
  valued_alike s (broke u) wrap go go' h a f = (a, refl)
  valued_alike s (halted x) wrap go go' h a f = (a, refl)
  valued_alike s (rests r u) wrap go go' h a f = (a, refl)

  pub valued_agrees : (w : World) (o o' : Outcome) (wrap : Residual → Residual) (go go' : Val → World → Outcome) → Agrees l w o o' →
      ((v : Val) (u : World) → Agrees l u (go v u) (go' v u)) → Agrees l w (valued o wrap go) (valued o' wrap go')
  valued_agrees w o o' wrap go go' a f h = subst (λ x. Alike w.state (valued o wrap go) (valued x wrap go')) (a h).1 (valued_alike w.state o
      wrap go go' h (a h).0 f)

  attempted_alike : (w : World) (o : Outcome) (y y' : Env → Val → World → Outcome) (n n' : World → Outcome) → Within l w.state →
      Reaches StepsStand w.state o → ((e : Env) (v : Val) (u : World) → Agrees l u (y e v u) (y' e v u)) →
      ((u : World) → Agrees l u (n u) (n' u)) → Alike w.state (attempted o w y n) (attempted o w y' n')
  unfolding attempted
  attempted_alike w (value e v u) y y' n n' h a f g = behind_it l w.state u _ _ h a (f e v u)
  attempted_alike w (failed t) y y' n n' h a f g =
      behind_it l w.state (with_state w (restored w.state.memory t)) _ _ h (steps_closed.undoes w.state t a) (g (with_state w (restored
      w.state.memory t)))
  attempted_alike w (returned v u) y y' n n' h a f g = (a, refl)
  attempted_alike w (broke u) y y' n n' h a f g = (a, refl)
  attempted_alike w (halted x) y y' n n' h a f g = (a, refl)
  attempted_alike w (rests r u) y y' n n' h a f g = (a, refl)

  pub attempted_agrees : (w : World) (o o' : Outcome) (y y' : Env → Val → World → Outcome) (n n' : World → Outcome) → Agrees l w o o' →
      ((e : Env) (v : Val) (u : World) → Agrees l u (y e v u) (y' e v u)) → ((u : World) → Agrees l u (n u) (n' u)) →
      Agrees l w (attempted o w y n) (attempted o' w y' n')
  attempted_agrees w o o' y y' n n' a f g h = subst (λ x. Alike w.state (attempted o w y n) (attempted x w y' n')) (a h).1
      (attempted_alike w o y y' n n' h (a h).0 f g)

  -- a `not`
  pub denied_agrees : (w : World) (e : Env) (o o' : Outcome) → Agrees l w o o' →
      Agrees l w (attempted o w (λ e1 v u. failed (restored w.state.memory u.state)) (λ u. value e unit u)) (attempted o' w (λ e1 v u.
      failed (restored w.state.memory u.state)) (λ u. value e unit u))
  denied_agrees w e o o' a h = (
    denied_follow steps_closed w e o (a h).0,
    ap (λ x. attempted x w (λ e1 v u. failed (restored
        w.state.memory u.state)) (λ u. value e unit u)) (a h).1,
  )

  turned_alike : (s : State) (o : Outcome) (wrap : Residual → Residual) (e : Env) (go go' : World → Outcome) → Within l s →
      Reaches StepsStand s o → ((u : World) → Agrees l u (go u) (go' u)) → Alike s (turned o wrap e go) (turned o wrap e go')
  unfolding turned
  turned_alike s (value e1 v u) wrap e go go' h a f = behind_it l s u _ _ h a (f u)
  turned_alike s (failed t) wrap e go go' h a f = (a, refl)
  turned_alike s (returned v u) wrap e go go' h a f = (a, refl)
  turned_alike s (broke u) wrap e go go' h a f = (a, refl)
  turned_alike s (halted x) wrap e go go' h a f = (a, refl)
  turned_alike s (rests r u) wrap e go go' h a f = (a, refl)

  pub turned_agrees : (w : World) (o o' : Outcome) (wrap : Residual → Residual) (e : Env) (go go' : World → Outcome) → Agrees l w o o' →
      ((u : World) → Agrees l u (go u) (go' u)) → Agrees l w (turned o wrap e go) (turned o' wrap e go')
  turned_agrees w o o' wrap e go go' a f h = subst (λ x. Alike w.state (turned o wrap e go) (turned x wrap e go')) (a h).1 (turned_alike
      w.state o wrap e go go' h (a h).0 f)

  went_on_alike : (s : State) (x : Went) (go go' : World → Went) → Within l s → ReachesWent StepsStand s x →
      ((u : World) → AgreesWent l u (go u) (go' u)) → AlikeWent s (went_on x go) (went_on x go')
  unfolding went_on
  went_on_alike s (went u) go go' h a f = behind_went l s u _ _ h a (f u)
  went_on_alike s (quits x) go go' h a f = (a, refl)

  pub went_on_agrees : (w : World) (x x' : Went) (go go' : World → Went) → AgreesWent l w x x' →
      ((u : World) → AgreesWent l u (go u) (go' u)) → AgreesWent l w (went_on x go) (went_on x' go')
  went_on_agrees w x x' go go' a f h =
      subst (λ y. AlikeWent w.state (went_on x go) (went_on y go')) (a h).1 (went_on_alike w.state x go go' h (a h).0 f)

  on_went_alike : (s : State) (x : Went) (go go' : World → Outcome) → Within l s → ReachesWent StepsStand s x →
      ((u : World) → Agrees l u (go u) (go' u)) → Alike s (on_went x go) (on_went x go')
  unfolding on_went
  on_went_alike s (went u) go go' h a f = behind_it l s u _ _ h a (f u)
  on_went_alike s (quits x) go go' h a f = (a, refl)

  pub on_went_agrees : (w : World) (x x' : Went) (go go' : World → Outcome) → AgreesWent l w x x' →
      ((u : World) → Agrees l u (go u) (go' u)) → Agrees l w (on_went x go) (on_went x' go')
  on_went_agrees w x x' go go' a f h =
      subst (λ y. Alike w.state (on_went x go) (on_went y go')) (a h).1 (on_went_alike w.state x go go' h (a h).0 f)

  ran_alike : (s : State) (o : Outcome) (go : World → Outcome) → Within l s → Reaches StepsStand s o →
      ((u : World) → Agrees l u (go u) (go u)) → Reaches StepsStand s (ran o go)
  unfolding ran
  ran_alike s (value e v u) go h a f = (behind_it l s u _ _ h a (f u)).0
  ran_alike s (failed t) go h a f = a
  ran_alike s (returned v u) go h a f = a
  ran_alike s (broke u) go h a f = a
  ran_alike s (halted x) go h a f = a
  ran_alike s (rests r u) go h a f = a

  ran_agrees : (w : World) (o o' : Outcome) (go : World → Outcome) → Agrees l w o o' → ((u : World) → Agrees l u (go u) (go u)) →
      Agrees l w (ran o go) (ran o' go)
  ran_agrees w o o' go a f h = (ran_alike w.state o go h (a h).0 f, ap (λ x. ran x go) (a h).1)

  closing_alike : (s : State) (o : Outcome) (run run' : World → Outcome) (wrap : Residual → Residual) (e : Env) → Within l s →
      Reaches StepsStand s o → ((u : World) → Agrees l u (run u) (run' u)) → Alike s (closing o run wrap e) (closing o run' wrap e)
  unfolding closing
  closing_alike s (value e1 v u) run run' wrap e h a f = behind_it l s u _ _ h a (ran_agrees u _ _ _ (f u) (λ x. here x))
  closing_alike s (failed t) run run' wrap e h a f = (a, refl)
  closing_alike s (returned v u) run run' wrap e h a f = behind_it l s u _ _ h a (ran_agrees u _ _ _ (f u) (λ x. here x))
  closing_alike s (broke u) run run' wrap e h a f = behind_it l s u _ _ h a (ran_agrees u _ _ _ (f u) (λ x. here x))
  closing_alike s (halted x) run run' wrap e h a f = (a, refl)
  closing_alike s (rests r u) run run' wrap e h a f = (a, refl)

  pub closing_agrees : (w : World) (o o' : Outcome) (run run' : World → Outcome) (wrap : Residual → Residual) (e : Env) →
      Agrees l w o o' → ((u : World) → Agrees l u (run u) (run' u)) → Agrees l w (closing o run wrap e) (closing o' run' wrap e)
  closing_agrees w o o' run run' wrap e a f h = subst (λ x. Alike w.state (closing o run wrap e) (closing x run' wrap e)) (a h).1
      (closing_alike w.state o run run' wrap e h (a h).0 f)

  armed_alike : (s : State) (o : TaskOutcome) (y y' : Val → World → Outcome) (n n' : Scope → World → Outcome) → Within l s →
      ReachesTask StepsStand s o → ((v : Val) (u : World) → Agrees l u (y v u) (y' v u)) → ((x : Scope) (u : World) →
      Agrees l u (n x u) (n' x u)) → Alike s (armed o y n) (armed o y' n')
  unfolding armed
  armed_alike s (ends v u) y y' n n' h a f g = behind_it l s u _ _ h a (f v u)
  armed_alike s (lost t) y y' n n' h a f g = (a, refl)
  armed_alike s (stops x) y y' n n' h a f g = (a, refl)
  armed_alike s (sleeps x u) y y' n n' h a f g = behind_it l s u _ _ h a (g x u)

  pub armed_agrees : (w : World) (o o' : TaskOutcome) (y y' : Val → World → Outcome) (n n' : Scope → World → Outcome) →
      AgreesTask l w o o' → ((v : Val) (u : World) → Agrees l u (y v u) (y' v u)) → ((x : Scope) (u : World) →
      Agrees l u (n x u) (n' x u)) → Agrees l w (armed o y n) (armed o' y' n')
  armed_agrees w o o' y y' n n' a f g h =
      subst (λ x. Alike w.state (armed o y n) (armed x y' n')) (a h).1 (armed_alike w.state o y y' n n' h (a h).0 f g)

  spends_from : (left : ℕ) (w : World) (go go' : World → Outcome) → w.state.clock.left ≡ left → left ≤ l → ((n : ℕ) → suc n ≤ l →
      Alike (stepped n w.state) (go (with_state w (stepped n w.state))) (go' (with_state w (stepped n w.state)))) →
      Alike w.state (spends left w go) (spends left w go')
  unfolding spends
  spends_from zero w go go' e h f = here w h
  spends_from (suc n) w go go' e h f = (
    reaches_then steps_closed w.state (stepped n w.state) _ (steps_closed.spends_one n w.state e) (f n
        h).0,
    (f n h).1,
  )

  -- a step is spent
  pub spends_less : (w : World) (go go' : World → Outcome) → ((n : ℕ) → suc n ≤ l → Alike (stepped n w.state) (go (with_state w (stepped n
      w.state))) (go' (with_state w (stepped n w.state)))) →
      Agrees l w (spends w.state.clock.left w go) (spends w.state.clock.left w go')
  spends_less w go go' f h = spends_from w.state.clock.left w go go' refl h f

  pub spends_agrees : (w : World) (go go' : World → Outcome) → ((u : World) → Agrees l u (go u) (go' u)) →
      Agrees l w (spends w.state.clock.left w go) (spends w.state.clock.left w go')
  spends_agrees w go go' f = spends_less w go go' (λ n h. f (with_state w (stepped n w.state)) (le_of_suc-le h))

  pub there_agrees : {A : Type 0} (w : World) (x : Option A) (go go' : A → Outcome) → ((x : A) → Agrees l w (go x) (go' x)) →
      Agrees l w (if_there x w go) (if_there x w go')
  unfolding if_there
  there_agrees w None go go' f = here w
  there_agrees w (Some x) go go' f = f x

  pub known_agrees : {A : Type 0} (w : World) (x : Option A) (go go' : A → Outcome) → ((x : A) → Agrees l w (go x) (go' x)) →
      Agrees l w (if_known x w go) (if_known x w go')
  unfolding if_known
  known_agrees w None go go' f = here w
  known_agrees w (Some x) go go' f = f x

  pub outside_agrees : (m : Bool) (w : World) (go go' : World → Outcome) → Agrees l w (go w) (go' w) →
      Agrees l w (outside m w go) (outside m w go')
  unfolding outside
  outside_agrees true w go go' f = f
  outside_agrees false w go go' f = here w

  pub dropped_agrees : (w : World) (o o' : Outcome) → Agrees l w o o' → AgreesWent l w (dropped o) (dropped o')
  dropped_agrees w o o' a h = (dropped_follow steps_closed w.state o (a h).0, ap (λ x. dropped x) (a h).1)

  pub call_end_agrees : (w : World) (e : Env) (o o' : TaskOutcome) → AgreesTask l w o o' → Agrees l w (call_end e o) (call_end e o')
  call_end_agrees w e o o' a h = (call_end_follow steps_closed w.state e o (a h).0, ap (λ x. call_end e x) (a h).1)

  pub branch_agrees : (w : World) (e : Env) (o o' : TaskOutcome) → AgreesTask l w o o' →
      Agrees l w (branch_started e o) (branch_started e o')
  branch_agrees w e o o' a h = (branch_follow steps_closed w.state e o (a h).0, ap (λ x. branch_started e x) (a h).1)

  pub task_agrees : (w : World) (e : Env) (v : Val) (o o' : TaskOutcome) → AgreesTask l w o o' →
      Agrees l w (task_started e v o) (task_started e v o')
  task_agrees w e v o o' a h = (task_follow steps_closed w.state e v o (a h).0, ap (λ x. task_started e v x) (a h).1)

  on_went_task_alike : (s : State) (x : Went) (go go' : World → TaskOutcome) → Within l s → ReachesWent StepsStand s x →
      ((u : World) → AgreesTask l u (go u) (go' u)) → AlikeTask s (on_went_task x go) (on_went_task x go')
  unfolding on_went_task
  on_went_task_alike s (went u) go go' h a f = behind_task l s u _ _ h a (f u)
  on_went_task_alike s (quits x) go go' h a f = (a, refl)

  pub on_went_task_agrees : (w : World) (x x' : Went) (go go' : World → TaskOutcome) → AgreesWent l w x x' →
      ((u : World) → AgreesTask l u (go u) (go' u)) → AgreesTask l w (on_went_task x go) (on_went_task x' go')
  on_went_task_agrees w x x' go go' a f h = subst (λ y. AlikeTask w.state (on_went_task x go) (on_went_task y go')) (a h).1
      (on_went_task_alike w.state x go go' h (a h).0 f)

-- where no step is left
none_spent : (n : ℕ) (w : World) (go : World → Outcome) → n ≤ zero → spends n w go ≡ halted (out w.state)
unfolding spends
none_spent zero w go h = refl
none_spent (suc n) w go h = absurd (not-suc-le-zero h)

pub no_step_left : (l : ℕ) (w : World) (go : World → Outcome) → l ≤ zero →
    Agrees l w (halted (out w.state)) (spends w.state.clock.left w go)
no_step_left l w go b h = (steps_closed.same w.state, sym (none_spent w.state.clock.left w go (le_trans h b)))

pub no_step_right : (l : ℕ) (w : World) (go : World → Outcome) → l ≤ zero →
    Agrees l w (spends w.state.clock.left w go) (halted (out w.state))
no_step_right l w go b h = subst (λ x. Alike w.state x (halted (out w.state))) (sym (none_spent w.state.clock.left w go (le_trans h b)))
    (steps_closed.same w.state, refl)
