-- A relation between states that each step of the definition keeps, through the combinators.
use Rattle.std.proofs.Common.{◌≡◌, ℕ, zero, suc, List, [], ◌∷◌, ◌++◌, Option, Some, None, Bool, true, false, refl, subst}
use Rattle.verse_base.specs.declared.places.Place.{Place}
use Rattle.verse_value.specs.Runs.{Line}
use Rattle.verse_value.specs.Val.{Val, unit}
use Rattle.verse_value.specs.Answer.{error, fails, gives, stuck}
use Rattle.verse_meaning_state.specs.Waits.{Cause}
use Rattle.verse_meaning_state.specs.Effects.{Effect, signal_sent}
use Rattle.verse_meaning_state.specs.State.{State, at_moment, drawn, restored, signalled, stepped, with_entry, with_result}
use Rattle.verse_meaning.specs.Residuals.{Arms, Env, Residual, Scope, gave, no_arms, runs}
use Rattle.verse_meaning.specs.Outcomes.{Outcome, TaskOutcome, Went, World, armed, attempted, branch_started, broke, call_end, closing}
use Rattle.verse_meaning.specs.Outcomes.{dropped, ends, failed, halted, if_known, if_there, leave, leave_all, lost, on_went, on_went_task}
use Rattle.verse_meaning.specs.Outcomes.{outside, quits, ran, rests, returned, sleeps, spends, stops, suspended, task_started, told}
use Rattle.verse_meaning.specs.Outcomes.{told_plain, turned, value, valued, went, went_on, with_state}
use Rattle.verse_meaning.specs.RunLaws.{Begins, Reaches, halted_state}

pub begins_same : (xs : List Line) → Begins xs xs
begins_same [] = tt
begins_same (x ∷ xs) = (refl, begins_same xs)

pub begins_more : (xs ys : List Line) → Begins xs (xs ++ ys)
begins_more [] ys = tt
begins_more (x ∷ xs) ys = (refl, begins_more xs ys)

pub begins_then : (xs ys zs : List Line) → Begins xs ys → Begins ys zs → Begins xs zs
begins_then [] ys zs a b = tt
begins_then (x ∷ xs) [] zs a b = absurd a
begins_then (x ∷ xs) (y ∷ ys) [] a b = absurd b
begins_then (x ∷ xs) (y ∷ ys) (z ∷ zs) a b = (subst (λ q. x ≡ q) b.0 a.0, begins_then xs ys zs a.1 b.1)

-- what a relation must hold for: each way in which a state leads to another
pub record Closed (R : State → State → Type 0) : Type 0 where
  pub same : (s : State) → R s s
  pub then : (s t u : State) → R s t → R t u → R s u
  -- the memory alone is another, with more lines
  pub writes : (s u : State) → u.clock ≡ s.clock → Begins s.memory.trace u.memory.trace → R s u
  -- a failed context
  pub undoes : (s u : State) → R s u → R s (restored s.memory u)
  pub spends_one : (l : ℕ) (s : State) → s.clock.left ≡ suc l → R s (stepped l s)
  pub draws : (s : State) → R s (drawn s)
  pub signals : (c : ℕ) (v : Val) (s : State) → R s (signalled c v s)
  pub enters : (s : State) → R s (with_entry s)
  pub gives_result : (entry : Option ℕ) (v : Val) (s : State) → R s (with_result entry v s)
  pub moves : (n : ℕ) (s : State) → R s (at_moment n s)

-- what a task scope and cancelling come to
abbrev pub ReachesTask : (State → State → Type 0) → State → TaskOutcome → Type 0
ReachesTask R s (ends v u) = R s u.state
ReachesTask R s (lost t) = R s t
ReachesTask R s (stops h) = R s (halted_state h)
ReachesTask R s (sleeps x u) = R s u.state

abbrev pub ReachesWent : (State → State → Type 0) → State → Went → Type 0
ReachesWent R s (went u) = R s u.state
ReachesWent R s (quits h) = R s (halted_state h)

-- an effect changes the memory alone
abbrev pub Writes : State → Effect → Type 0
Writes s (gives x) = (x.1.clock ≡ s.clock) × Begins s.memory.trace x.1.memory.trace
Writes s fails = Unit {0}
Writes s (error k) = Unit {0}
Writes s stuck = Unit {0}

module _ {R : State → State → Type 0} (c : Closed R) where
  pub reaches_then : (s t : State) (o : Outcome) → R s t → Reaches R t o → Reaches R s o
  reaches_then s t (value e v u) a b = c.then s t u.state a b
  reaches_then s t (failed u) a b = c.then s t u a b
  reaches_then s t (returned v u) a b = c.then s t u.state a b
  reaches_then s t (broke u) a b = c.then s t u.state a b
  reaches_then s t (halted h) a b = c.then s t (halted_state h) a b
  reaches_then s t (rests r u) a b = c.then s t u.state a b

  pub task_then_follow : (s t : State) (o : TaskOutcome) → R s t → ReachesTask R t o → ReachesTask R s o
  task_then_follow s t (ends v u) a b = c.then s t u.state a b
  task_then_follow s t (lost u) a b = c.then s t u a b
  task_then_follow s t (stops h) a b = c.then s t (halted_state h) a b
  task_then_follow s t (sleeps x u) a b = c.then s t u.state a b

  pub went_then_follow : (s t : State) (o : Went) → R s t → ReachesWent R t o → ReachesWent R s o
  went_then_follow s t (went u) a b = c.then s t u.state a b
  went_then_follow s t (quits h) a b = c.then s t (halted_state h) a b

  pub valued_follow : (s : State) (o : Outcome) (wrap : Residual → Residual) (go : Val → World → Outcome) → Reaches R s o →
      ((v : Val) (u : World) → Reaches R u.state (go v u)) → Reaches R s (valued o wrap go)
  unfolding valued
  valued_follow s (value e v u) wrap go a f = reaches_then s u.state (go v u) a (f v u)
  valued_follow s (failed t) wrap go a f = a
  valued_follow s (returned v u) wrap go a f = a
  valued_follow s (broke u) wrap go a f = a
  valued_follow s (halted h) wrap go a f = a
  valued_follow s (rests r u) wrap go a f = a

  pub attempted_follow : (w : World) (o : Outcome) (yes_do : Env → Val → World → Outcome) (no_do : World → Outcome) → Reaches R w.state o →
      ((e : Env) (v : Val) (u : World) → Reaches R u.state (yes_do e v u)) → ((u : World) → Reaches R u.state (no_do u)) →
      Reaches R w.state (attempted o w yes_do no_do)
  unfolding attempted
  attempted_follow w (value e v u) yes_do no_do a f g = reaches_then w.state u.state (yes_do e v u) a (f e v u)
  attempted_follow w (failed t) yes_do no_do a f g =
      reaches_then w.state (restored w.state.memory t) (no_do (with_state w (restored w.state.memory t))) (c.undoes w.state t a)
      (g (with_state w (restored w.state.memory t)))
  attempted_follow w (returned v u) yes_do no_do a f g = a
  attempted_follow w (broke u) yes_do no_do a f g = a
  attempted_follow w (halted h) yes_do no_do a f g = a
  attempted_follow w (rests r u) yes_do no_do a f g = a

  -- a `not`
  pub denied_follow : (w : World) (e : Env) (o : Outcome) → Reaches R w.state o →
      Reaches R w.state (attempted o w (λ e1 v u. failed (restored w.state.memory u.state)) (λ u. value e unit u))
  unfolding attempted
  denied_follow w e (value e1 v u) a = c.undoes w.state u.state a
  denied_follow w e (failed t) a = c.undoes w.state t a
  denied_follow w e (returned v u) a = a
  denied_follow w e (broke u) a = a
  denied_follow w e (halted h) a = a
  denied_follow w e (rests r u) a = a

  pub turned_follow : (s : State) (o : Outcome) (wrap : Residual → Residual) (e : Env) (go : World → Outcome) → Reaches R s o →
      ((u : World) → Reaches R u.state (go u)) → Reaches R s (turned o wrap e go)
  unfolding turned
  turned_follow s (value e1 v u) wrap e go a f = reaches_then s u.state (go u) a (f u)
  turned_follow s (failed t) wrap e go a f = a
  turned_follow s (returned v u) wrap e go a f = a
  turned_follow s (broke u) wrap e go a f = a
  turned_follow s (halted h) wrap e go a f = a
  turned_follow s (rests r u) wrap e go a f = a

  spends_from : (left : ℕ) (w : World) (go : World → Outcome) → w.state.clock.left ≡ left → ((u : World) → Reaches R u.state (go u)) →
      Reaches R w.state (spends left w go)
  unfolding spends
  spends_from zero w go e f = c.same w.state
  spends_from (suc l) w go e f =
      reaches_then w.state (stepped l w.state) (go (with_state w (stepped l w.state))) (c.spends_one l w.state e) (f (with_state w
      (stepped l w.state)))

  pub spends_follow : (w : World) (go : World → Outcome) → ((u : World) → Reaches R u.state (go u)) →
      Reaches R w.state (spends w.state.clock.left w go)
  spends_follow w go f = spends_from w.state.clock.left w go refl f

  pub there_follow : {A : Type 0} (w : World) (x : Option A) (go : A → Outcome) → ((x : A) → Reaches R w.state (go x)) →
      Reaches R w.state (if_there x w go)
  unfolding if_there
  there_follow w None go f = c.same w.state
  there_follow w (Some x) go f = f x

  pub known_follow : {A : Type 0} (w : World) (x : Option A) (go : A → Outcome) → ((x : A) → Reaches R w.state (go x)) →
      Reaches R w.state (if_known x w go)
  unfolding if_known
  known_follow w None go f = c.same w.state
  known_follow w (Some x) go f = f x

  pub told_follow : (w : World) (x : Effect) (p : Place) (e : Env) → Writes w.state x → Reaches R w.state (told x p e w)
  unfolding told
  told_follow w (gives x) p e a = c.writes w.state x.1 a.0 a.1
  told_follow w fails p e a = c.same w.state
  told_follow w (error k) p e a = c.same w.state
  told_follow w stuck p e a = c.same w.state

  pub plain_follow : (w : World) (x : Effect) (e : Env) → Writes w.state x → Reaches R w.state (told_plain x e w)
  unfolding told_plain
  plain_follow w (gives x) e a = c.writes w.state x.1 a.0 a.1
  plain_follow w fails e a = c.same w.state
  plain_follow w (error k) e a = c.same w.state
  plain_follow w stuck e a = c.same w.state

  pub sent_follow : (o : Option ℕ) (v : Val) (e : Env) (w : World) → Reaches R w.state (told_plain (signal_sent o v w.state) e w)
  unfolding told_plain
  sent_follow None v e w = c.same w.state
  sent_follow (Some x) v e w = c.signals x v w.state

  pub outside_follow : (m : Bool) (w : World) (go : World → Outcome) → Reaches R w.state (go w) → Reaches R w.state (outside m w go)
  unfolding outside
  outside_follow true w go f = f
  outside_follow false w go f = c.same w.state

  pub suspended_follow : (x : Cause) (e : Env) (w : World) → Reaches R w.state (suspended x e w)
  unfolding suspended
  suspended_follow x e w = c.draws w.state

  pub dropped_follow : (s : State) (o : Outcome) → Reaches R s o → ReachesWent R s (dropped o)
  unfolding dropped
  dropped_follow s (value e v u) a = a
  dropped_follow s (failed t) a = a
  dropped_follow s (returned v u) a = a
  dropped_follow s (broke u) a = a
  dropped_follow s (halted h) a = a
  dropped_follow s (rests r u) a = a

  pub went_on_follow : (s : State) (x : Went) (go : World → Went) → ReachesWent R s x → ((u : World) → ReachesWent R u.state (go u)) →
      ReachesWent R s (went_on x go)
  unfolding went_on
  went_on_follow s (went u) go a f = went_then_follow s u.state (go u) a (f u)
  went_on_follow s (quits h) go a f = a

  pub on_went_follow : (s : State) (x : Went) (go : World → Outcome) → ReachesWent R s x → ((u : World) → Reaches R u.state (go u)) →
      Reaches R s (on_went x go)
  unfolding on_went
  on_went_follow s (went u) go a f = reaches_then s u.state (go u) a (f u)
  on_went_follow s (quits h) go a f = a

  pub on_went_task_follow : (s : State) (x : Went) (go : World → TaskOutcome) → ReachesWent R s x → ((u : World) →
      ReachesTask R u.state (go u)) → ReachesTask R s (on_went_task x go)
  unfolding on_went_task
  on_went_task_follow s (went u) go a f = task_then_follow s u.state (go u) a (f u)
  on_went_task_follow s (quits h) go a f = a

  ran_follow : (s : State) (o : Outcome) (go : World → Outcome) → Reaches R s o → ((u : World) → Reaches R u.state (go u)) →
      Reaches R s (ran o go)
  unfolding ran
  ran_follow s (value e v u) go a f = reaches_then s u.state (go u) a (f u)
  ran_follow s (failed t) go a f = a
  ran_follow s (returned v u) go a f = a
  ran_follow s (broke u) go a f = a
  ran_follow s (halted h) go a f = a
  ran_follow s (rests r u) go a f = a

  pub closing_follow : (s : State) (o : Outcome) (run : World → Outcome) (wrap : Residual → Residual) (e : Env) → Reaches R s o →
      ((u : World) → Reaches R u.state (run u)) → Reaches R s (closing o run wrap e)
  unfolding closing
  closing_follow s (value e1 v u) run wrap e a f =
      reaches_then s u.state (ran (run u) (λ w. value e v w)) a (ran_follow u.state (run u) (λ w. value e v w) (f u) (λ x. c.same x.state))
  closing_follow s (failed t) run wrap e a f = a
  closing_follow s (returned v u) run wrap e a f =
      reaches_then s u.state (ran (run u) (λ w. returned v w)) a (ran_follow u.state (run u) (λ w. returned v w) (f u) (λ x. c.same
      x.state))
  closing_follow s (broke u) run wrap e a f =
      reaches_then s u.state (ran (run u) (λ w. broke w)) a (ran_follow u.state (run u) (λ w. broke w) (f u) (λ x. c.same x.state))
  closing_follow s (halted h) run wrap e a f = a
  closing_follow s (rests r u) run wrap e a f = a

  pub call_end_follow : (s : State) (e : Env) (o : TaskOutcome) → ReachesTask R s o → Reaches R s (call_end e o)
  unfolding call_end
  call_end_follow s e (ends v u) a = a
  call_end_follow s e (lost t) a = a
  call_end_follow s e (stops h) a = a
  call_end_follow s e (sleeps x u) a = a

  pub branch_follow : (s : State) (e : Env) (o : TaskOutcome) → ReachesTask R s o → Reaches R s (branch_started e o)
  unfolding branch_started
  branch_follow s e (ends v u) a = a
  branch_follow s e (lost t) a = a
  branch_follow s e (stops h) a = a
  branch_follow s e (sleeps x u) a = a

  pub task_follow : (s : State) (e : Env) (v : Val) (o : TaskOutcome) → ReachesTask R s o → Reaches R s (task_started e v o)
  unfolding task_started
  task_follow s e v (ends x u) a = a
  task_follow s e v (lost t) a = a
  task_follow s e v (stops h) a = a
  task_follow s e v (sleeps x u) a = a

  pub armed_follow : (s : State) (o : TaskOutcome) (gave_do : Val → World → Outcome) (runs_do : Scope → World → Outcome) →
      ReachesTask R s o → ((v : Val) (u : World) → Reaches R u.state (gave_do v u)) → ((x : Scope) (u : World) →
      Reaches R u.state (runs_do x u)) → Reaches R s (armed o gave_do runs_do)
  unfolding armed
  armed_follow s (ends v u) gave_do runs_do a f g = reaches_then s u.state (gave_do v u) a (f v u)
  armed_follow s (lost t) gave_do runs_do a f g = a
  armed_follow s (stops h) gave_do runs_do a f g = a
  armed_follow s (sleeps x u) gave_do runs_do a f g = reaches_then s u.state (runs_do x u) a (g x u)

pub left_state : (gs : Arms) (u : World) → (leave_all gs u).state ≡ u.state
left_state no_arms u = refl
left_state (gave v gs) u = left_state gs u
left_state (runs s gs) u = left_state gs (leave u s)
