-- Groups that still wait, through the combinators.
use Rattle.std.proofs.Common.{ℕ, zero, suc, List, [], ◌∷◌, ◌++◌, Option, Some, None, Bool, true, false}
use Rattle.verse_base.specs.declared.places.Place.{Place}
use Rattle.verse_value.specs.Val.{Val, unit}
use Rattle.verse_value.specs.Answer.{error, fails, gives, stuck}
use Rattle.verse_meaning_state.specs.Waits.{Cause}
use Rattle.verse_meaning_state.specs.Effects.{Effect}
use Rattle.verse_meaning_state.specs.State.{restored, stepped}
use Rattle.verse_meaning.specs.Residuals.{Arms, Env, Residual, Scope, Scopes, also, and_then, gave, no_arms, none, runs}
use Rattle.verse_meaning.specs.Outcomes.{Outcome, TaskOutcome, Went, World, armed, attempted, branch_started, broke, call_end, closing}
use Rattle.verse_meaning.specs.Outcomes.{dropped, ends, failed, halted, if_known, if_there, leave, leave_all, lost, on_went, on_went_task}
use Rattle.verse_meaning.specs.Outcomes.{outside, quits, ran, rests, returned, sleeps, spends, stops, suspended, task_started, told}
use Rattle.verse_meaning.specs.Outcomes.{told_plain, turned, value, valued, went, went_on, with_arm, with_state}
use Rattle.verse_meaning.specs.RunLaws.{ArmsWait, BehindWaits, ForestWaits, ScopeWaits, Waiting}

abbrev pub WorldWaits : World → Type 0
WorldWaits w = BehindWaits w.behind × ForestWaits w.tasks

abbrev pub OutcomeWaits : Outcome → Type 0
OutcomeWaits (value e v u) = WorldWaits u
OutcomeWaits (failed t) = Unit {0}
OutcomeWaits (returned v u) = WorldWaits u
OutcomeWaits (broke u) = WorldWaits u
OutcomeWaits (halted h) = Unit {0}
OutcomeWaits (rests r u) = Waiting r × WorldWaits u

abbrev pub TaskWaits : TaskOutcome → Type 0
TaskWaits (ends v u) = WorldWaits u
TaskWaits (lost t) = Unit {0}
TaskWaits (stops h) = Unit {0}
TaskWaits (sleeps s u) = ScopeWaits s × WorldWaits u

abbrev pub WentWaits : Went → Type 0
WentWaits (went u) = WorldWaits u
WentWaits (quits h) = Unit {0}

-- from a world in which all groups wait
abbrev pub Holds : World → Outcome → Type 0
Holds w o = WorldWaits w → OutcomeWaits o

abbrev pub HoldsTask : World → TaskOutcome → Type 0
HoldsTask w o = WorldWaits w → TaskWaits o

abbrev pub HoldsWent : World → Went → Type 0
HoldsWent w x = WorldWaits w → WentWaits x

abbrev pub Wraps : (Residual → Residual) → Type 0
Wraps wrap = (r : Residual) → Waiting r → Waiting (wrap r)

then_waits : (bs : Scopes) (s : Scope) → BehindWaits bs → ScopeWaits s → BehindWaits (and_then bs s)
then_waits none s a b = (b, tt)
then_waits (also x bs) s a b = (a.0, then_waits bs s a.1 b)

forked_waits : (fs : List (Option Scope)) (s : Scope) → ForestWaits fs → ScopeWaits s → ForestWaits (fs ++ Some s ∷ [])
forked_waits [] s a b = (b, tt)
forked_waits (None ∷ fs) s a b = forked_waits fs s a b
forked_waits (Some x ∷ fs) s a b = (a.0, forked_waits fs s a.1 b)

pub left_waits : (gs : Arms) (w : World) → WorldWaits w → ArmsWait gs → WorldWaits (leave_all gs w)
left_waits no_arms w a b = a
left_waits (gave v gs) w a b = left_waits gs w a b
left_waits (runs s gs) w a b = left_waits gs (leave w s) (then_waits w.behind s a.0 b.0, a.1) b.1

pub gave_waits : (gs : Arms) (v : Val) → ArmsWait gs → ArmsWait (with_arm gs (gave v no_arms))
gave_waits no_arms v a = tt
gave_waits (gave x gs) v a = gave_waits gs v a
gave_waits (runs s gs) v a = (a.0, gave_waits gs v a.1)

pub runs_waits : (gs : Arms) (s : Scope) → ArmsWait gs → ScopeWaits s → ArmsWait (with_arm gs (runs s no_arms))
runs_waits no_arms s a b = (b, tt)
runs_waits (gave x gs) s a b = runs_waits gs s a b
runs_waits (runs y gs) s a b = (a.0, runs_waits gs s a.1 b)

valued_out : (o : Outcome) (wrap : Residual → Residual) (go : Val → World → Outcome) → Wraps wrap → OutcomeWaits o →
    ((v : Val) (u : World) → Holds u (go v u)) → OutcomeWaits (valued o wrap go)
unfolding valued
valued_out (value e v u) wrap go b a f = f v u a
valued_out (failed t) wrap go b a f = tt
valued_out (returned v u) wrap go b a f = a
valued_out (broke u) wrap go b a f = a
valued_out (halted h) wrap go b a f = tt
valued_out (rests r u) wrap go b a f = (b r a.0, a.1)

pub valued_holds : (w : World) (o : Outcome) (wrap : Residual → Residual) (go : Val → World → Outcome) → Wraps wrap → Holds w o →
    ((v : Val) (u : World) → Holds u (go v u)) → Holds w (valued o wrap go)
valued_holds w o wrap go b a f h = valued_out o wrap go b (a h) f

attempted_out : (w : World) (o : Outcome) (yes_do : Env → Val → World → Outcome) (no_do : World → Outcome) → WorldWaits w →
    OutcomeWaits o → ((e : Env) (v : Val) (u : World) → Holds u (yes_do e v u)) → ((u : World) → Holds u (no_do u)) →
    OutcomeWaits (attempted o w yes_do no_do)
unfolding attempted
attempted_out w (value e v u) yes_do no_do h a f g = f e v u a
attempted_out w (failed t) yes_do no_do h a f g = g (with_state w (restored w.state.memory t)) h
attempted_out w (returned v u) yes_do no_do h a f g = tt
attempted_out w (broke u) yes_do no_do h a f g = tt
attempted_out w (halted x) yes_do no_do h a f g = tt
attempted_out w (rests r u) yes_do no_do h a f g = tt

pub attempted_holds : (w : World) (o : Outcome) (yes_do : Env → Val → World → Outcome) (no_do : World → Outcome) → Holds w o →
    ((e : Env) (v : Val) (u : World) → Holds u (yes_do e v u)) → ((u : World) → Holds u (no_do u)) →
    Holds w (attempted o w yes_do no_do)
attempted_holds w o yes_do no_do a f g h = attempted_out w o yes_do no_do h (a h) f g

-- a `not`
pub denied_holds : (w : World) (e : Env) (o : Outcome) → Holds w o →
    Holds w (attempted o w (λ e1 v u. failed (restored w.state.memory u.state)) (λ u. value e unit u))
denied_holds w e o a = attempted_holds w o _ _ a (λ e1 v u h. tt) (λ u h. h)

turned_out : (o : Outcome) (wrap : Residual → Residual) (e : Env) (go : World → Outcome) → Wraps wrap → OutcomeWaits o →
    ((u : World) → Holds u (go u)) → OutcomeWaits (turned o wrap e go)
unfolding turned
turned_out (value e1 v u) wrap e go b a f = f u a
turned_out (failed t) wrap e go b a f = tt
turned_out (returned v u) wrap e go b a f = a
turned_out (broke u) wrap e go b a f = a
turned_out (halted h) wrap e go b a f = tt
turned_out (rests r u) wrap e go b a f = (b r a.0, a.1)

pub turned_holds : (w : World) (o : Outcome) (wrap : Residual → Residual) (e : Env) (go : World → Outcome) → Wraps wrap → Holds w o →
    ((u : World) → Holds u (go u)) → Holds w (turned o wrap e go)
turned_holds w o wrap e go b a f h = turned_out o wrap e go b (a h) f

spends_from : (left : ℕ) (w : World) (go : World → Outcome) → ((u : World) → Holds u (go u)) → Holds w (spends left w go)
unfolding spends
spends_from zero w go f h = tt
spends_from (suc l) w go f h = f (with_state w (stepped l w.state)) h

pub spends_holds : (w : World) (go : World → Outcome) → ((u : World) → Holds u (go u)) → Holds w (spends w.state.clock.left w go)
spends_holds w go f = spends_from w.state.clock.left w go f

pub there_holds : {A : Type 0} (w : World) (x : Option A) (go : A → Outcome) → ((x : A) → Holds w (go x)) → Holds w (if_there x w go)
unfolding if_there
there_holds w None go f h = tt
there_holds w (Some x) go f h = f x h

pub known_holds : {A : Type 0} (w : World) (x : Option A) (go : A → Outcome) → ((x : A) → Holds w (go x)) → Holds w (if_known x w go)
unfolding if_known
known_holds w None go f h = tt
known_holds w (Some x) go f h = f x h

pub told_holds : (w : World) (x : Effect) (p : Place) (e : Env) → Holds w (told x p e w)
unfolding told
told_holds w (gives x) p e h = h
told_holds w fails p e h = tt
told_holds w (error k) p e h = tt
told_holds w stuck p e h = tt

pub plain_holds : (w : World) (x : Effect) (e : Env) → Holds w (told_plain x e w)
unfolding told_plain
plain_holds w (gives x) e h = h
plain_holds w fails e h = tt
plain_holds w (error k) e h = tt
plain_holds w stuck e h = tt

pub outside_holds : (m : Bool) (w : World) (go : World → Outcome) → Holds w (go w) → Holds w (outside m w go)
unfolding outside
outside_holds true w go f h = f h
outside_holds false w go f h = tt

pub suspended_holds : (x : Cause) (e : Env) (w : World) → Holds w (suspended x e w)
unfolding suspended
suspended_holds x e w h = (tt, h)

dropped_out : (o : Outcome) → OutcomeWaits o → WentWaits (dropped o)
unfolding dropped
dropped_out (value e v u) a = a
dropped_out (failed t) a = tt
dropped_out (returned v u) a = tt
dropped_out (broke u) a = tt
dropped_out (halted h) a = tt
dropped_out (rests r u) a = tt

pub dropped_holds : (w : World) (o : Outcome) → Holds w o → HoldsWent w (dropped o)
dropped_holds w o a h = dropped_out o (a h)

went_on_out : (x : Went) (go : World → Went) → WentWaits x → ((u : World) → HoldsWent u (go u)) → WentWaits (went_on x go)
unfolding went_on
went_on_out (went u) go a f = f u a
went_on_out (quits h) go a f = tt

pub went_on_holds : (w : World) (x : Went) (go : World → Went) → HoldsWent w x → ((u : World) → HoldsWent u (go u)) →
    HoldsWent w (went_on x go)
went_on_holds w x go a f h = went_on_out x go (a h) f

on_went_out : (x : Went) (go : World → Outcome) → WentWaits x → ((u : World) → Holds u (go u)) → OutcomeWaits (on_went x go)
unfolding on_went
on_went_out (went u) go a f = f u a
on_went_out (quits h) go a f = tt

pub on_went_holds : (w : World) (x : Went) (go : World → Outcome) → HoldsWent w x → ((u : World) → Holds u (go u)) →
    Holds w (on_went x go)
on_went_holds w x go a f h = on_went_out x go (a h) f

pub on_went_task_out : (x : Went) (go : World → TaskOutcome) → WentWaits x → ((u : World) → HoldsTask u (go u)) →
    TaskWaits (on_went_task x go)
unfolding on_went_task
on_went_task_out (went u) go a f = f u a
on_went_task_out (quits h) go a f = tt

ran_out : (o : Outcome) (go : World → Outcome) → OutcomeWaits o → ((u : World) → Holds u (go u)) → OutcomeWaits (ran o go)
unfolding ran
ran_out (value e v u) go a f = f u a
ran_out (failed t) go a f = tt
ran_out (returned v u) go a f = tt
ran_out (broke u) go a f = tt
ran_out (halted h) go a f = tt
ran_out (rests r u) go a f = tt

closing_out : (o : Outcome) (run : World → Outcome) (wrap : Residual → Residual) (e : Env) → Wraps wrap → OutcomeWaits o →
    ((u : World) → Holds u (run u)) → OutcomeWaits (closing o run wrap e)
unfolding closing
closing_out (value e1 v u) run wrap e b a f = ran_out (run u) _ (f u a) (λ x h. h)
closing_out (failed t) run wrap e b a f = tt
closing_out (returned v u) run wrap e b a f = ran_out (run u) _ (f u a) (λ x h. h)
closing_out (broke u) run wrap e b a f = ran_out (run u) _ (f u a) (λ x h. h)
closing_out (halted h) run wrap e b a f = tt
closing_out (rests r u) run wrap e b a f = (b r a.0, a.1)

pub closing_holds : (w : World) (o : Outcome) (run : World → Outcome) (wrap : Residual → Residual) (e : Env) → Wraps wrap → Holds w o →
    ((u : World) → Holds u (run u)) → Holds w (closing o run wrap e)
closing_holds w o run wrap e b a f h = closing_out o run wrap e b (a h) f

call_end_out : (e : Env) (o : TaskOutcome) → TaskWaits o → OutcomeWaits (call_end e o)
unfolding call_end
call_end_out e (ends v u) a = a
call_end_out e (lost t) a = tt
call_end_out e (stops h) a = tt
call_end_out e (sleeps x u) a = a

pub call_end_holds : (w : World) (e : Env) (o : TaskOutcome) → HoldsTask w o → Holds w (call_end e o)
call_end_holds w e o a h = call_end_out e o (a h)

branch_out : (e : Env) (o : TaskOutcome) → TaskWaits o → OutcomeWaits (branch_started e o)
unfolding branch_started
branch_out e (ends v u) a = a
branch_out e (lost t) a = tt
branch_out e (stops h) a = tt
branch_out e (sleeps x u) a = (then_waits u.behind x a.1.0 a.0, a.1.1)

pub branch_holds : (w : World) (e : Env) (o : TaskOutcome) → HoldsTask w o → Holds w (branch_started e o)
branch_holds w e o a h = branch_out e o (a h)

task_out : (e : Env) (v : Val) (o : TaskOutcome) → TaskWaits o → OutcomeWaits (task_started e v o)
unfolding task_started
task_out e v (ends x u) a = a
task_out e v (lost t) a = tt
task_out e v (stops h) a = tt
task_out e v (sleeps x u) a = (a.1.0, forked_waits u.tasks x a.1.1 a.0)

pub task_holds : (w : World) (e : Env) (v : Val) (o : TaskOutcome) → HoldsTask w o → Holds w (task_started e v o)
task_holds w e v o a h = task_out e v o (a h)

armed_out : (o : TaskOutcome) (gave_do : Val → World → Outcome) (runs_do : Scope → World → Outcome) → TaskWaits o →
    ((v : Val) (u : World) → Holds u (gave_do v u)) → ((x : Scope) (u : World) → ScopeWaits x → Holds u (runs_do x u)) →
    OutcomeWaits (armed o gave_do runs_do)
unfolding armed
armed_out (ends v u) gave_do runs_do a f g = f v u a
armed_out (lost t) gave_do runs_do a f g = tt
armed_out (stops h) gave_do runs_do a f g = tt
armed_out (sleeps x u) gave_do runs_do a f g = g x u a.0 a.1

pub armed_holds : (w : World) (o : TaskOutcome) (gave_do : Val → World → Outcome) (runs_do : Scope → World → Outcome) → HoldsTask w o →
    ((v : Val) (u : World) → Holds u (gave_do v u)) → ((x : Scope) (u : World) → ScopeWaits x → Holds u (runs_do x u)) →
    Holds w (armed o gave_do runs_do)
armed_holds w o gave_do runs_do a f g h = armed_out o gave_do runs_do (a h) f g
