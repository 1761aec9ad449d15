-- How what is left as it was passes through the combinators.
use Rattle.std.proofs.Common.{◌≡◌, ℕ, zero, suc, List, [], ◌∷◌, ◌++◌, Option, Some, None, Bool, true, false, refl, sym, subst}
use Rattle.verse_base.specs.declared.places.Place.{Place}
use Rattle.verse_value.specs.Val.{Val}
use Rattle.verse_value.specs.Answer.{gives, fails, error, stuck}
use Rattle.verse_meaning_state.specs.State.{State, Memory as Kept, Clock, stepped, restored}
use Rattle.verse_meaning_state.specs.Waits.{Cause}
use Rattle.verse_meaning_state.specs.Effects.{Effect}
use Rattle.verse_meaning.specs.Residuals.{Env, Residual, Scope, Scopes, none, also, Arms, no_arms, gave, runs, and_then}
use Rattle.verse_meaning.specs.Outcomes.{World, with_state, leave, Outcome, value, failed, returned, broke, halted, rests, TaskOutcome}
use Rattle.verse_meaning.specs.Outcomes.{ends, lost, stops, sleeps, Went, went, quits, valued, attempted, turned, dropped, on_went, went_on}
use Rattle.verse_meaning.specs.Outcomes.{on_went_task, ran, closing, call_end, branch_started, task_started, armed, told, told_plain}
use Rattle.verse_meaning.specs.Outcomes.{if_there}
use Rattle.verse_meaning.specs.Outcomes.{if_known, outside, spends, suspended, leave_all}
use Rattle.verse_meaning.specs.Laws.{KeepsWent, Calm, Grown, Extends, Leaves, LeavesClock, Apart, Keeps, KeepsTask}

pub calm_same : {c : Clock} → Calm c c
calm_same = record { now = refl; next = refl; results = refl; signals = refl }

join : {A : Type 0} {x y z : A} → y ≡ x → z ≡ y → z ≡ x
join {z = z} e f = subst (λ a. z ≡ a) e f

pub calm_then : (c d f : Clock) → Calm c d → Calm d f → Calm c f
calm_then c d f a b = record {
  now = join a.now b.now;
  next = join a.next b.next;
  results = join a.results b.results;
  signals =
      join a.signals b.signals;
}

pub grown_same : (xs : List (Option Scope)) → Grown xs xs
grown_same [] = tt
grown_same (x ∷ xs) = (refl, grown_same xs)

pub grown_then : (xs ys zs : List (Option Scope)) → Grown xs ys → Grown ys zs → Grown xs zs
grown_then [] ys zs a b = tt
grown_then (x ∷ xs) [] zs a b = absurd a
grown_then (x ∷ xs) (y ∷ ys) [] a b = absurd b
grown_then (x ∷ xs) (y ∷ ys) (z ∷ zs) a b = (join b.0 a.0, grown_then xs ys zs a.1 b.1)

pub grown_more : (xs ys : List (Option Scope)) → Grown xs (xs ++ ys)
grown_more [] ys = tt
grown_more (x ∷ xs) ys = (refl, grown_more xs ys)

pub extends_same : (b : Scopes) → Extends b b
extends_same none = tt
extends_same (also s b) = (refl, extends_same b)

pub extends_then : (b c d : Scopes) → Extends b c → Extends c d → Extends b d
extends_then none c d x y = tt
extends_then (also s b) none d x y = absurd x
extends_then (also s b) (also t c) none x y = absurd y
extends_then (also s b) (also t c) (also r d) x y = (join y.0 x.0, extends_then b c d x.1 y.1)

pub extends_more : (b : Scopes) (s : Scope) → Extends b (and_then b s)
extends_more none s = tt
extends_more (also t b) s = (refl, extends_more b s)

pub leaves_same : (m : Bool) (w : World) → Leaves m w w
leaves_same true w = (extends_same w.behind, grown_same w.tasks)
leaves_same false w = (refl, (refl, calm_same))

pub leaves_then : (m : Bool) (w u x : World) → Leaves m w u → Leaves m u x → Leaves m w x
leaves_then true w u x a b = (extends_then w.behind u.behind x.behind a.0 b.0, grown_then w.tasks u.tasks x.tasks a.1 b.1)
leaves_then false w u x a b = (join a.0 b.0, (join a.1.0 b.1.0, calm_then w.state.clock u.state.clock x.state.clock a.1.1 b.1.1))

-- what is left where a failure context is open is left
pub leaves_weak : (m : Bool) (w u : World) → Leaves false w u → Leaves m w u
leaves_weak true w u a =
    (subst (λ z. Extends w.behind z) (sym a.0) (extends_same w.behind), subst (λ z. Grown w.tasks z) (sym a.1.0) (grown_same w.tasks))
leaves_weak false w u a = a

clock_weak : (m : Bool) (w : World) (s : State) → Calm w.state.clock s.clock → LeavesClock m w s
clock_weak true w s a = tt
clock_weak false w s a = a

pub failed_keeps : (m : Bool) (w : World) → Keeps m w (failed w.state)
failed_keeps m w = clock_weak m w w.state calm_same

pub undone_keeps : (m : Bool) (x : Kept) (w : World) → Keeps m w (failed (restored x w.state))
undone_keeps m x w = clock_weak m w (restored x w.state) calm_same

clock_then : (m : Bool) (w u : World) (s : State) → Leaves m w u → LeavesClock m u s → LeavesClock m w s
clock_then true w u s a b = tt
clock_then false w u s a b = calm_then w.state.clock u.state.clock s.clock a.1.1 b

pub keeps_then : (m : Bool) (w u : World) (o : Outcome) → Leaves m w u → Keeps m u o → Keeps m w o
keeps_then m w u (value e v x) a b = leaves_then m w u x a b
keeps_then m w u (failed s) a b = clock_then m w u s a b
keeps_then m w u (returned v x) a b = leaves_then m w u x a b
keeps_then m w u (broke x) a b = leaves_then m w u x a b
keeps_then m w u (halted h) a b = tt
keeps_then m w u (rests r x) a b = (b.0, leaves_then m w u x a b.1)

pub apart_then : (m : Bool) (w u x : World) → Apart m w u → Apart m u x → Apart m w x
apart_then true w u x a b = (join a.0 b.0, grown_then w.tasks u.tasks x.tasks a.1 b.1)
apart_then false w u x a b = leaves_then false w u x a b

pub apart_leaves : (m : Bool) (w u : World) → Apart m w u → Leaves m w u
apart_leaves true w u a = (subst (λ z. Extends w.behind z) (sym a.0) (extends_same w.behind), a.1)
apart_leaves false w u a = a

pub task_then : (m : Bool) (w u : World) (o : TaskOutcome) → Apart m w u → KeepsTask m u o → KeepsTask m w o
task_then m w u (ends v x) a b = apart_then m w u x a b
task_then m w u (lost s) a b = clock_then m w u s (apart_leaves m w u a) b
task_then m w u (stops h) a b = tt
task_then m w u (sleeps s x) a b = (b.0, apart_then m w u x a b.1)

-- a state with another memory, or with fewer steps
pub state_leaves : (m : Bool) (w : World) (s : State) → Calm w.state.clock s.clock → Leaves m w (with_state w s)
state_leaves m w s a = leaves_weak m w (with_state w s) (refl, (refl, a))

pub stepped_calm : (l : ℕ) (s : State) → Calm s.clock (stepped l s).clock
stepped_calm l s = record { now = refl; next = refl; results = refl; signals = refl }

-- each combinator; what follows is asked for in any world that is left so
pub Next : Bool → World → (World → Outcome) → Type 0
Next m w go = (u : World) → Leaves m w u → Keeps m u (go u)

module _ (m : Bool) (w : World) where
  pub valued_keeps : (o : Outcome) (wrap : Residual → Residual) (go : Val → World → Outcome) → Keeps m w o → ((v : Val) (u : World) →
      Leaves m w u → Keeps m u (go v u)) → Keeps m w (valued o wrap go)
  unfolding valued
  valued_keeps (value e v u) wrap go a f = keeps_then m w u (go v u) a (f v u a)
  valued_keeps (failed s) wrap go a f = a
  valued_keeps (returned v u) wrap go a f = a
  valued_keeps (broke u) wrap go a f = a
  valued_keeps (halted h) wrap go a f = a
  valued_keeps (rests r u) wrap go a f = a

  -- at a failure the world is that of the entry but for the steps
  pub attempted_keeps : (o : Outcome) (yes_do : Env → Val → World → Outcome) (no_do : World → Outcome) → Keeps false w o →
      ((e : Env) (v : Val) (u : World) → Leaves m w u → Keeps m u (yes_do e v u)) →
      ((u : World) → Leaves m w u → Keeps m u (no_do u)) → Keeps m w (attempted o w yes_do no_do)
  unfolding attempted
  attempted_keeps (value e v u) yes_do no_do a f g = keeps_then m w u (yes_do e v u) (leaves_weak m w u a) (f e v u (leaves_weak m w u a))
  attempted_keeps (failed s) yes_do no_do a f g =
      keeps_then m w (with_state w (restored w.state.memory s)) (no_do (with_state w (restored w.state.memory s))) (state_leaves m w
      (restored w.state.memory s) a) (g (with_state w (restored w.state.memory s)) (state_leaves m w (restored w.state.memory s) a))
  attempted_keeps (returned v u) yes_do no_do a f g = tt
  attempted_keeps (broke u) yes_do no_do a f g = tt
  attempted_keeps (halted h) yes_do no_do a f g = tt
  attempted_keeps (rests r u) yes_do no_do a f g = tt

  pub turned_keeps : (o : Outcome) (wrap : Residual → Residual) (e : Env) (go : World → Outcome) → Keeps m w o → ((u : World) →
      Leaves m w u → Keeps m u (go u)) → Keeps m w (turned o wrap e go)
  unfolding turned
  turned_keeps (value e1 v u) wrap e go a f = keeps_then m w u (go u) a (f u a)
  turned_keeps (failed s) wrap e go a f = a
  turned_keeps (returned v u) wrap e go a f = a
  turned_keeps (broke u) wrap e go a f = a
  turned_keeps (halted h) wrap e go a f = a
  turned_keeps (rests r u) wrap e go a f = a

  pub spends_keeps : (left : ℕ) (go : World → Outcome) → ((u : World) → Leaves m w u → Keeps m u (go u)) → Keeps m w (spends left w go)
  unfolding spends
  spends_keeps zero go f = tt
  spends_keeps (suc l) go f =
      keeps_then m w (with_state w (stepped l w.state)) (go (with_state w (stepped l w.state))) (state_leaves m w (stepped l w.state)
      (stepped_calm l w.state)) (f (with_state w (stepped l w.state)) (state_leaves m w (stepped l w.state) (stepped_calm l w.state)))

  pub there_keeps : {A : Type 0} (x : Option A) (go : A → Outcome) → ((x : A) → Keeps m w (go x)) → Keeps m w (if_there x w go)
  unfolding if_there
  there_keeps None go f = tt
  there_keeps (Some x) go f = f x

  pub known_keeps : {A : Type 0} (x : Option A) (go : A → Outcome) → ((x : A) → Keeps m w (go x)) → Keeps m w (if_known x w go)
  unfolding if_known
  known_keeps None go f = tt
  known_keeps (Some x) go f = f x

  -- an effect changes the memory alone
  abbrev pub Memory : Effect → Type 0
  Memory (gives x) = x.1.clock ≡ w.state.clock
  Memory fails = Unit {0}
  Memory (error k) = Unit {0}
  Memory stuck = Unit {0}

  same_calm : (s : State) → s.clock ≡ w.state.clock → Calm w.state.clock s.clock
  same_calm s e = subst (λ z. Calm w.state.clock z) (sym e) calm_same

  pub told_keeps : (x : Effect) (p : Place) (e : Env) → Memory x → Keeps m w (told x p e w)
  unfolding told
  told_keeps (gives x) p e a = state_leaves m w x.1 (same_calm x.1 a)
  told_keeps fails p e a = clock_weak m w w.state calm_same
  told_keeps (error k) p e a = tt
  told_keeps stuck p e a = tt

  pub plain_keeps : (x : Effect) (e : Env) → Memory x → Keeps m w (told_plain x e w)
  unfolding told_plain
  plain_keeps (gives x) e a = state_leaves m w x.1 (same_calm x.1 a)
  plain_keeps fails e a = clock_weak m w w.state calm_same
  plain_keeps (error k) e a = tt
  plain_keeps stuck e a = tt

-- what needs that no failure context is open
pub outside_keeps : (m : Bool) (w : World) (go : World → Outcome) → (m ≡ true → Keeps true w (go w)) → Keeps m w (outside m w go)
unfolding outside
outside_keeps true w go f = f refl
outside_keeps false w go f = tt

pub suspended_keeps : (c : Cause) (e : Env) (w : World) → Keeps true w (suspended c e w)
unfolding suspended
suspended_keeps c e w = (refl, (extends_same w.behind, grown_same w.tasks))

-- cancelling and deferred blocks leave all as where a failure context is open
pub dropped_keeps : (w : World) (o : Outcome) → Keeps false w o → KeepsWent w (dropped o)
unfolding dropped
dropped_keeps w (value e v u) a = a
dropped_keeps w (failed s) a = tt
dropped_keeps w (returned v u) a = tt
dropped_keeps w (broke u) a = tt
dropped_keeps w (halted h) a = tt
dropped_keeps w (rests r u) a = tt

went_then : (w u : World) (x : Went) → Leaves false w u → KeepsWent u x → KeepsWent w x
went_then w u (went x) a b = leaves_then false w u x a b
went_then w u (quits h) a b = tt

pub went_on_keeps : (w : World) (x : Went) (go : World → Went) → KeepsWent w x → ((u : World) → KeepsWent u (go u)) →
    KeepsWent w (went_on x go)
unfolding went_on
went_on_keeps w (went u) go a f = went_then w u (go u) a (f u)
went_on_keeps w (quits h) go a f = tt

pub on_went_keeps : (m : Bool) (w : World) (x : Went) (go : World → Outcome) → KeepsWent w x → ((u : World) → Leaves m w u →
    Keeps m w (go u)) → Keeps m w (on_went x go)
unfolding on_went
on_went_keeps m w (went u) go a f = f u (leaves_weak m w u a)
on_went_keeps m w (quits h) go a f = tt

pub on_went_task_keeps : (m : Bool) (w : World) (x : Went) (go : World → TaskOutcome) → KeepsWent w x → ((u : World) → Leaves false w u →
    KeepsTask m w (go u)) → KeepsTask m w (on_went_task x go)
unfolding on_went_task
on_went_task_keeps m w (went u) go a f = f u a
on_went_task_keeps m w (quits h) go a f = tt

ran_keeps : (m : Bool) (w : World) (o : Outcome) (go : World → Outcome) → Keeps false w o →
    ((u : World) → Leaves m w u → Keeps m w (go u)) → Keeps m w (ran o go)
unfolding ran
ran_keeps m w (value e v u) go a f = f u (leaves_weak m w u a)
ran_keeps m w (failed s) go a f = clock_weak m w s a
ran_keeps m w (returned v u) go a f = tt
ran_keeps m w (broke u) go a f = tt
ran_keeps m w (halted h) go a f = tt
ran_keeps m w (rests r u) go a f = cc

pub closing_keeps : (m : Bool) (w : World) (o : Outcome) (run : World → Outcome) (wrap : Residual → Residual) (e : Env) → Keeps m w o →
    ((u : World) → Keeps false u (run u)) → Keeps m w (closing o run wrap e)
unfolding closing
closing_keeps m w (value e1 v u) run wrap e a f =
    keeps_then m w u (ran (run u) (λ w. value e v w)) a (ran_keeps m u (run u) (λ w. value e v w) (f u) (λ x h. h))
closing_keeps m w (failed s) run wrap e a f = a
closing_keeps m w (returned v u) run wrap e a f =
    keeps_then m w u (ran (run u) (λ w. returned v w)) a (ran_keeps m u (run u) (λ w. returned v w) (f u) (λ x h. h))
closing_keeps m w (broke u) run wrap e a f =
    keeps_then m w u (ran (run u) (λ w. broke w)) a (ran_keeps m u (run u) (λ w. broke w) (f u) (λ x h. h))
closing_keeps m w (halted h) run wrap e a f = tt
closing_keeps m w (rests r u) run wrap e a f = a

pub call_end_keeps : (m : Bool) (w : World) (e : Env) (o : TaskOutcome) → KeepsTask m w o → Keeps m w (call_end e o)
unfolding call_end
call_end_keeps m w e (ends v u) a = apart_leaves m w u a
call_end_keeps m w e (lost s) a = a
call_end_keeps m w e (stops h) a = tt
call_end_keeps m w e (sleeps s u) a = (a.0, apart_leaves m w u a.1)

pub leave_leaves : (w u : World) (s : Scope) → Leaves true w u → Leaves true w (leave u s)
leave_leaves w u s a = (extends_then w.behind u.behind (and_then u.behind s) a.0 (extends_more u.behind s), a.1)

pub branch_keeps : (w : World) (e : Env) (o : TaskOutcome) → KeepsTask true w o → Keeps true w (branch_started e o)
unfolding branch_started
branch_keeps w e (ends v u) a = apart_leaves true w u a
branch_keeps w e (lost s) a = tt
branch_keeps w e (stops h) a = tt
branch_keeps w e (sleeps s u) a = leave_leaves w u s (apart_leaves true w u a.1)

pub task_keeps : (w : World) (e : Env) (v : Val) (o : TaskOutcome) → KeepsTask true w o → Keeps true w (task_started e v o)
unfolding task_started
task_keeps w e v (ends x u) a = apart_leaves true w u a
task_keeps w e v (lost s) a = tt
task_keeps w e v (stops h) a = tt
task_keeps w e v (sleeps s u) a =
    ((apart_leaves true w u a.1).0, grown_then w.tasks u.tasks (u.tasks ++ Some s ∷ []) a.1.1 (grown_more u.tasks (Some s ∷ [])))

pub armed_keeps : (w : World) (o : TaskOutcome) (gave_do : Val → World → Outcome) (runs_do : Scope → World → Outcome) →
    KeepsTask true w o → ((v : Val) (u : World) → Keeps true u (gave_do v u)) → ((s : Scope) (u : World) → Keeps true u (runs_do s u)) →
    Keeps true w (armed o gave_do runs_do)
unfolding armed
armed_keeps w (ends v u) gave_do runs_do a f g = keeps_then true w u (gave_do v u) (apart_leaves true w u a) (f v u)
armed_keeps w (lost s) gave_do runs_do a f g = tt
armed_keeps w (stops h) gave_do runs_do a f g = tt
armed_keeps w (sleeps s u) gave_do runs_do a f g = keeps_then true w u (runs_do s u) (apart_leaves true w u a.1) (g s u)

pub left_leaves : (gs : Arms) (w u : World) → Leaves true w u → Leaves true w (leave_all gs u)
left_leaves no_arms w u a = a
left_leaves (gave v gs) w u a = left_leaves gs w u a
left_leaves (runs s gs) w u a = left_leaves gs w (leave u s) (leave_leaves w u s a)
