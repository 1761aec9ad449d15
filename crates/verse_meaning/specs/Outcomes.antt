-- What an evaluation comes to, and how a form goes on from what its parts come to.
use Rattle.std.specs.Prelude.{ℕ, List, [], ◌∷◌, ◌++◌, Option, Some, None, Bool, true, false}
use Rattle.verse_base.specs.declared.places.Place.{Place}
use Rattle.verse_base.specs.declared.refusals.Kind.{Kind as Error}
use Rattle.verse_value.specs.Val.{Val, unit}
use Rattle.verse_value.specs.Answer.{gives, fails, error, stuck}
use Rattle.verse_meaning_state.specs.State.{State, spending, restored, with_result, drawn}
use Rattle.verse_meaning_state.specs.Waits.{Cause, waiting}
use Rattle.verse_meaning_state.specs.Effects.{Effect}
use Rattle.verse_meaning.specs.Residuals.{Env, Role, part, body, root, Residual, leaf, called}
use Rattle.verse_meaning.specs.Residuals.{Scope, scope, Scopes, also, Arms, no_arms}
use Rattle.verse_meaning.specs.Residuals.{gave, runs, and_then}

-- the state, with what is in the background of the innermost task scope, and the tasks of the
-- forest that are behind this one
pub record World : Type 0 where
  pub state : State
  pub behind : Scopes
  pub tasks : List (Option Scope)

abbrev pub world : State → Scopes → List (Option Scope) → World
world s b f = record { state = s; behind = b; tasks = f }

abbrev pub with_state : World → State → World
with_state w s = record w { state = s }

abbrev pub set_behind : World → Scopes → World
set_behind w b = record w { behind = b }

-- goes to the background of the innermost task scope
abbrev pub leave : World → Scope → World
leave w s = record w { behind = and_then w.behind s }

-- a spawned task that is suspended stands behind all others of the forest
abbrev pub fork : World → Scope → World
fork w s = record w { tasks = w.tasks ++ Some s ∷ [] }

-- what ends the run
pub data Halt : Type 0 where
  fault : Error → Place → State → Halt
  -- no step was left
  out : State → Halt
  -- an operand is of the wrong kind; the machine is Stuck there too
  jammed : State → Halt
  -- what no sound program comes to
  wrong : State → Halt

pub data Outcome : Type 0 where
  -- with the names that are visible behind it
  value : Env → Val → World → Outcome
  failed : State → Outcome
  returned : Val → World → Outcome
  broke : World → Outcome
  halted : Halt → Outcome
  rests : Residual → World → Outcome

-- what a task scope comes to
pub data TaskOutcome : Type 0 where
  ends : Val → World → TaskOutcome
  lost : State → TaskOutcome
  stops : Halt → TaskOutcome
  sleeps : Scope → World → TaskOutcome

-- what the background of a scope comes to
pub data BehindOutcome : Type 0 where
  stays : Scopes → World → BehindOutcome
  stops_behind : Halt → BehindOutcome

-- what the arms of a group come to
pub data ArmsOutcome : Type 0 where
  stand : Arms → World → ArmsOutcome
  stops_arms : Halt → ArmsOutcome

-- what cancelling comes to
pub data Went : Type 0 where
  went : World → Went
  quits : Halt → Went

-- a part is evaluated: at a value the form goes on, a residual gets the form's
unfoldable pub valued : Outcome → (Residual → Residual) → (Val → World → Outcome) → Outcome
valued (value e v w) wrap go = go v w
valued (failed s) wrap go = failed s
valued (returned v w) wrap go = returned v w
valued (broke w) wrap go = broke w
valued (halted h) wrap go = halted h
valued (rests r w) wrap go = rests (wrap r) w

-- Attempt: at a failure the memory is that of the world in which it began. An attempt is not
-- suspended.
unfoldable pub attempted : Outcome → World → (Env → Val → World → Outcome) → (World → Outcome) →
    Outcome
attempted (value e v w) entry yes_do no_do = yes_do e v w
attempted (failed s) entry yes_do no_do = no_do (with_state entry (restored entry.state.memory s))
attempted (returned v w) entry yes_do no_do = halted (wrong w.state)
attempted (broke w) entry yes_do no_do = halted (wrong w.state)
attempted (halted h) entry yes_do no_do = halted h
attempted (rests r w) entry yes_do no_do = halted (wrong w.state)

-- a turn of a `loop`
unfoldable pub turned : Outcome → (Residual → Residual) → Env → (World → Outcome) → Outcome
turned (value e1 v w) wrap e go = go w
turned (failed s) wrap e go = failed s
turned (returned v w) wrap e go = returned v w
turned (broke w) wrap e go = value e unit w
turned (halted h) wrap e go = halted h
turned (rests r w) wrap e go = rests (wrap r) w

-- a deferred block has run; its value is dropped
unfoldable pub dropped : Outcome → Went
dropped (value e v w) = went w
dropped (failed s) = quits (wrong s)
dropped (returned v w) = quits (wrong w.state)
dropped (broke w) = quits (wrong w.state)
dropped (halted h) = quits h
dropped (rests r w) = quits (wrong w.state)

unfoldable pub on_went : Went → (World → Outcome) → Outcome
on_went (went w) go = go w
on_went (quits h) go = halted h

unfoldable pub went_on : Went → (World → Went) → Went
went_on (went w) go = go w
went_on (quits h) go = quits h

unfoldable pub on_went_task : Went → (World → TaskOutcome) → TaskOutcome
on_went_task (went w) go = go w
on_went_task (quits h) go = stops h

-- a deferred block has run as control leaves its block: its value is dropped, and where it fails,
-- so does the block
unfoldable pub ran : Outcome → (World → Outcome) → Outcome
ran (value e v w) go = go w
ran (failed s) go = failed s
ran (returned v w) go = halted (wrong w.state)
ran (broke w) go = halted (wrong w.state)
ran (halted h) go = halted h
ran (rests r w) go = halted (wrong w.state)

-- control leaves a block that has reached a `defer`: at Value, Return and Break the deferred block
-- runs, then that outcome
unfoldable pub closing : Outcome → (World → Outcome) → (Residual → Residual) → Env → Outcome
closing (value e1 v w) run wrap e = ran (run w) (λ w. value e v w)
closing (failed s) run wrap e = failed s
closing (returned v w) run wrap e = ran (run w) (λ w. returned v w)
closing (broke w) run wrap e = ran (run w) (λ w. broke w)
closing (halted h) run wrap e = halted h
closing (rests r w) run wrap e = rests (wrap r) w

unfoldable pub call_end : Env → TaskOutcome → Outcome
call_end e (ends v w) = value e v w
call_end e (lost s) = failed s
call_end e (stops h) = halted h
call_end e (sleeps s w) = rests (called e s) w

unfoldable pub branch_started : Env → TaskOutcome → Outcome
branch_started e (ends v w) = value e unit w
branch_started e (lost s) = halted (jammed s)
branch_started e (stops h) = halted h
branch_started e (sleeps s w) = value e unit (leave w s)

unfoldable pub task_started : Env → Val → TaskOutcome → Outcome
task_started e v (ends x w) = value e v w
task_started e v (lost s) = halted (jammed s)
task_started e v (stops h) = halted h
task_started e v (sleeps s w) = value e v (fork w s)

-- an arm has come to an outcome: what it is now goes on, in its group
unfoldable pub armed : TaskOutcome → (Val → World → Outcome) → (Scope → World → Outcome) → Outcome
armed (ends v w) gave_do runs_do = gave_do v w
armed (lost s) gave_do runs_do = halted (jammed s)
armed (stops h) gave_do runs_do = halted h
armed (sleeps s w) gave_do runs_do = runs_do s w

-- an arm that was woken, before the others
unfoldable pub arm_came : TaskOutcome → Arms → ArmsOutcome
arm_came (ends v w) gs = stand (gave v gs) w
arm_came (lost s) gs = stops_arms (jammed s)
arm_came (stops h) gs = stops_arms h
arm_came (sleeps s w) gs = stand (runs s gs) w

unfoldable pub arm_before : (Arms → Arms) → ArmsOutcome → ArmsOutcome
arm_before front (stand gs w) = stand (front gs) w
arm_before front (stops_arms h) = stops_arms h

unfoldable pub arms_came : ArmsOutcome → (Arms → World → Outcome) → Outcome
arms_came (stand gs w) go = go gs w
arms_came (stops_arms h) go = halted h

-- an element of what is behind was woken: it is replaced, or dropped at its value
unfoldable pub element_came : TaskOutcome → Scopes → BehindOutcome
element_came (ends v w) bs = stays bs w
element_came (lost s) bs = stops_behind (jammed s)
element_came (stops h) bs = stops_behind h
element_came (sleeps s w) bs = stays (also s bs) w

unfoldable pub element_before : Scope → BehindOutcome → BehindOutcome
element_before s (stays bs w) = stays (also s bs) w
element_before s (stops_behind h) = stops_behind h

unfoldable pub behind_came : Role → Residual → BehindOutcome → TaskOutcome
behind_came q r (stays bs w) = sleeps (scope q r bs) w
behind_came q r (stops_behind h) = stops h

-- the form's operation has come to an answer
unfoldable pub told : Effect → Place → Env → World → Outcome
told (gives x) p e w = value e x.0 (with_state w x.1)
told fails p e w = failed w.state
told (error k) p e w = halted (fault k p w.state)
told stuck p e w = halted (jammed w.state)

-- of an operation that has no errors
unfoldable pub told_plain : Effect → Env → World → Outcome
told_plain (gives x) e w = value e x.0 (with_state w x.1)
told_plain fails e w = failed w.state
told_plain (error k) e w = halted (wrong w.state)
told_plain stuck e w = halted (jammed w.state)

unfoldable pub if_there : {A : Type 0} → Option A → World → (A → Outcome) → Outcome
if_there None w go = halted (jammed w.state)
if_there (Some x) w go = go x

unfoldable pub if_known : {A : Type 0} → Option A → World → (A → Outcome) → Outcome
if_known None w go = halted (wrong w.state)
if_known (Some x) w go = go x

-- what is left out where a failure context is open: nothing is suspended or started in one
unfoldable pub outside : Bool → World → (World → Outcome) → Outcome
outside true w go = go w
outside false w go = halted (jammed w.state)

-- a step is spent, or none is left
unfoldable pub spends : ℕ → World → (World → Outcome) → Outcome
spends left w go = spending left w.state (halted (out w.state)) (λ s. go (with_state w s))

-- the evaluation is suspended under the next number
unfoldable pub suspended : Cause → Env → World → Outcome
suspended cause e w = rests (leaf (waiting cause w.state) e) (with_state w (drawn w.state))

abbrev pub finished : Role → Val → World → World
finished part v w = w
finished body v w = w
finished (root entry) v w = with_state w (with_result entry v w.state)

abbrev pub not_given : Role → State → TaskOutcome
not_given part s = stops (jammed s)
not_given body s = lost s
not_given (root entry) s = stops (jammed s)

-- the values of all arms, where each has one
abbrev pub one_more : Val → Option (List Val) → Option (List Val)
one_more v None = None
one_more v (Some vs) = Some (v ∷ vs)

abbrev pub all_gave : Arms → Option (List Val)
all_gave no_arms = Some []
all_gave (gave v gs) = one_more v (all_gave gs)
all_gave (runs s gs) = None

-- the first value in written order
abbrev pub first_gave : Arms → Option Val
first_gave no_arms = None
first_gave (gave v gs) = Some v
first_gave (runs s gs) = first_gave gs

-- the unfinished arms go behind, in written order
abbrev pub leave_all : Arms → World → World
leave_all no_arms w = w
leave_all (gave v gs) w = leave_all gs w
leave_all (runs s gs) w = leave_all gs (leave w s)

abbrev pub with_arm : Arms → Arms → Arms
with_arm no_arms g = g
with_arm (gave v gs) g = gave v (with_arm gs g)
with_arm (runs s gs) g = runs s (with_arm gs g)
