-- With a failure context open, and with none, through the combinators.
use Rattle.std.proofs.Common.{ℕ, zero, suc, Option, Some, None, true, false}
use Rattle.verse_value.specs.Val.{Val}
use Rattle.verse_meaning_state.specs.State.{stepped}
use Rattle.verse_meaning.specs.Programs.{Program}
use Rattle.verse_meaning.specs.Residuals.{Env, Values, Residual, Role, Scopes}
use Rattle.verse_meaning.specs.Outcomes.{World, with_state, Outcome, value, failed, returned, broke, halted, rests}
use Rattle.verse_meaning.specs.Outcomes.{valued, attempted}
use Rattle.verse_meaning.specs.Outcomes.{turned, closing, call_end, if_there, if_known, outside, spends}
use Rattle.verse_meaning.specs.Forms.{Deeper}
use Rattle.verse_meaning.specs.Evaluating.{scope_end}
use Rattle.verse_meaning.specs.Runs.{on_next}
use Rattle.verse_sound_effects.specs.Opening.{SameOrStuck, same, is_stuck}

valued_each : (x : Outcome) (wrap : Residual → Residual) (go go' : Val → World → Outcome) →
    ((v : Val) (u : World) → SameOrStuck (go v u) (go' v u)) → SameOrStuck (valued x wrap go) (valued x wrap go')
unfolding valued
valued_each (value e v u) wrap go go' f = f v u
valued_each (failed t) wrap go go' f = same
valued_each (returned v u) wrap go go' f = same
valued_each (broke u) wrap go go' f = same
valued_each (halted h) wrap go go' f = same
valued_each (rests r u) wrap go go' f = same

pub valued_opens : {x y : Outcome} (wrap : Residual → Residual) (go go' : Val → World → Outcome) → SameOrStuck x y →
    ((v : Val) (u : World) → SameOrStuck (go v u) (go' v u)) → SameOrStuck (valued x wrap go) (valued y wrap go')
unfolding valued
valued_opens wrap go go' (same {x}) f = valued_each x wrap go go' f
valued_opens wrap go go' is_stuck f = is_stuck

-- the conditions stand in a failure context of their own
pub attempted_opens : (x : Outcome) (w : World) (y y' : Env → Val → World → Outcome) (n n' : World → Outcome) →
    ((e : Env) (v : Val) (u : World) → SameOrStuck (y e v u) (y' e v u)) → ((u : World) → SameOrStuck (n u) (n' u)) →
    SameOrStuck (attempted x w y n) (attempted x w y' n')
unfolding attempted
attempted_opens (value e v u) w y y' n n' f g = f e v u
attempted_opens (failed t) w y y' n n' f g = g _
attempted_opens (returned v u) w y y' n n' f g = same
attempted_opens (broke u) w y y' n n' f g = same
attempted_opens (halted h) w y y' n n' f g = same
attempted_opens (rests r u) w y y' n n' f g = same

turned_each : (x : Outcome) (wrap : Residual → Residual) (e : Env) (go go' : World → Outcome) →
    ((u : World) → SameOrStuck (go u) (go' u)) → SameOrStuck (turned x wrap e go) (turned x wrap e go')
unfolding turned
turned_each (value e1 v u) wrap e go go' f = f u
turned_each (failed t) wrap e go go' f = same
turned_each (returned v u) wrap e go go' f = same
turned_each (broke u) wrap e go go' f = same
turned_each (halted h) wrap e go go' f = same
turned_each (rests r u) wrap e go go' f = same

pub turned_opens : {x y : Outcome} (wrap : Residual → Residual) (e : Env) (go go' : World → Outcome) → SameOrStuck x y →
    ((u : World) → SameOrStuck (go u) (go' u)) → SameOrStuck (turned x wrap e go) (turned y wrap e go')
unfolding turned
turned_opens wrap e go go' (same {x}) f = turned_each x wrap e go go' f
turned_opens wrap e go go' is_stuck f = is_stuck

pub closing_opens : {x y : Outcome} (run : World → Outcome) (wrap : Residual → Residual) (e : Env) → SameOrStuck x y →
    SameOrStuck (closing x run wrap e) (closing y run wrap e)
unfolding closing
closing_opens run wrap e same = same
closing_opens run wrap e is_stuck = is_stuck

-- the end of a call
pub called_opens : {x y : Outcome} (p : Program) (k : Deeper) (q : Role) (outer : Scopes) (e : Env) → SameOrStuck x y →
    SameOrStuck (call_end e (scope_end p k q outer x)) (call_end e (scope_end p k q outer y))
unfolding call_end scope_end
called_opens p k q outer e same = same
called_opens p k q outer e is_stuck = is_stuck

pub there_opens : {A : Type 0} (x : Option A) (w : World) (go go' : A → Outcome) → ((x : A) →
    SameOrStuck (go x) (go' x)) →
    SameOrStuck (if_there x w go) (if_there x w go')
unfolding if_there
there_opens None w go go' f = same
there_opens (Some x) w go go' f = f x

pub known_opens : {A : Type 0} (x : Option A) (w : World) (go go' : A → Outcome) → ((x : A) →
    SameOrStuck (go x) (go' x)) →
    SameOrStuck (if_known x w go) (if_known x w go')
unfolding if_known
known_opens None w go go' f = same
known_opens (Some x) w go go' f = f x

-- what is left out where a failure context is open
pub outside_opens : (w : World) (go : World → Outcome) → SameOrStuck (outside false w go) (outside true w go)
unfolding outside
outside_opens w go = is_stuck

pub spends_opens : (left : ℕ) (w : World) (go go' : World → Outcome) → ((u : World) → SameOrStuck (go u) (go' u)) →
    SameOrStuck (spends left w go) (spends left w go')
unfolding spends
spends_opens zero w go go' f = same
spends_opens (suc n) w go go' f = f (with_state w (stepped n w.state))

pub next_opens : (x : Option ((Val × Val) × Values)) (ended : Outcome) (go go' : Val × Val → Values → Outcome) →
    ((x : Val × Val) (left : Values) → SameOrStuck (go x left) (go' x left)) →
    SameOrStuck (on_next x ended go) (on_next x ended go')
unfolding on_next
next_opens None ended go go' f = same
next_opens (Some x) ended go go' f = f x.0 x.1
