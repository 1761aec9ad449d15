-- What evaluation leaves as it was.
use Rattle.std.specs.Prelude.{◌++◌, suc, ◌≡◌, ◌⊎◌, ℕ, Bool, true, false, List, [], ◌∷◌, Option}
use Rattle.std.specs.Prelude.{Some, None}
use Rattle.verse_base.specs.declared.places.Place.{Place}
use Rattle.verse_tree.specs.Tree.{Tree, Trees, more_trees, no_trees}
use Rattle.verse_tree.specs.Tree as t
use Rattle.verse_tree.specs.declared.exprs.Operator.TheVariants as op
use Rattle.verse_value.specs.Val.{array, Val, unit, falsity, no_vals}
use Rattle.verse_value.specs.Operations.{tuple_of}
use Rattle.verse_meaning_state.specs.State.{State, Clock, restored, stepped}
use Rattle.verse_meaning_state.specs.Waits.{has, Wait}
use Rattle.verse_meaning_state.specs.Turns.{Stage, going, closed, broken, amiss, race, Kind, sync}
use Rattle.verse_meaning_state.specs.Turns.{rush}
use Rattle.verse_meaning_state.specs.Effects.{still}
use Rattle.verse_meaning.specs.Programs.{Program}
use Rattle.verse_meaning.specs.Residuals.{Env, Role, Residual, arms, Arms, Scope, scope, Scopes}
use Rattle.verse_meaning.specs.Residuals.{none, also, scope_leaves, is_behind}
use Rattle.verse_meaning.specs.Residuals.{Generator, Values, args, arms_leaves, behind_leaves, body}
use Rattle.verse_meaning.specs.Residuals.{called, deferred, filling, gave}
use Rattle.verse_meaning.specs.Residuals.{generated, leaf, looped, no_arms, part, root, runs, seq}
use Rattle.verse_meaning.specs.Outcomes.{World, with_state, Outcome, value, failed, returned, broke}
use Rattle.verse_meaning.specs.Outcomes.{halted, rests, TaskOutcome, ends}
use Rattle.verse_meaning.specs.Outcomes.{lost, stops, sleeps, attempted, first_gave, ArmsOutcome}
use Rattle.verse_meaning.specs.Outcomes.{Went, all_gave, behind_came, dropped}
use Rattle.verse_meaning.specs.Outcomes.{element_before, element_came, finished, leave_all, on_went}
use Rattle.verse_meaning.specs.Outcomes.{on_went_task, quits, set_behind}
use Rattle.verse_meaning.specs.Outcomes.{stand, stops_arms, told, went, went_on, with_arm}
use Rattle.verse_meaning.specs.Forms.{Deeper, values_of, with_taken}
use Rattle.verse_meaning.specs.Evaluating.{ev, statements, cancel_arms, cancel_behind, clauses}
use Rattle.verse_meaning.specs.Evaluating.{ev_shape, generates, level, scope_end}
use Rattle.verse_meaning.specs.Evaluating.{settled, started, statement_of}
use Rattle.verse_meaning.specs.Resuming.{resume, resume_scope, resume_arms, resume_behind, taken}
use Rattle.verse_meaning.specs.Runs.{deeper, Forest, woken}

-- the clocks differ in steps alone
pub record Calm (c d : Clock) : Type 0 where
  pub now : d.now ≡ c.now
  pub next : d.next ≡ c.next
  pub results : d.results ≡ c.results
  pub signals : d.signals ≡ c.signals

-- each task of the first list stands in the second at its place
abbrev pub Grown : List (Option Scope) → List (Option Scope) → Type 0
Grown [] ys = Unit {0}
Grown (x ∷ xs) [] = ⊥
Grown (x ∷ xs) (y ∷ ys) = (x ≡ y) × Grown xs ys

abbrev pub Extends : Scopes → Scopes → Type 0
Extends none cs = Unit {0}
Extends (also s bs) none = ⊥
Extends (also s bs) (also t cs) = (s ≡ t) × Extends bs cs

-- Between two worlds. Where a failure context is open, tasks, waits, signals and background are as
-- they were; otherwise what is in the background and in the forest stays there, and more may come.
abbrev pub Leaves : (m : Bool) → World → World → Type 0
Leaves true w u = Extends w.behind u.behind × Grown w.tasks u.tasks
Leaves false w u = (u.behind ≡ w.behind) × ((u.tasks ≡ w.tasks) × Calm w.state.clock u.state.clock)

abbrev pub LeavesClock : (m : Bool) → World → State → Type 0
LeavesClock true w s = Unit {0}
LeavesClock false w s = Calm w.state.clock s.clock

-- an outcome; nothing is suspended where a failure context is open
abbrev pub Keeps : (m : Bool) → World → Outcome → Type 0
Keeps m w (value e v u) = Leaves m w u
Keeps m w (failed s) = LeavesClock m w s
Keeps m w (returned v u) = Leaves m w u
Keeps m w (broke u) = Leaves m w u
Keeps m w (halted h) = Unit {0}
Keeps m w (rests r u) = (m ≡ true) × Leaves m w u

-- a scope leaves nothing in the background of the scope round it
abbrev pub Apart : (m : Bool) → World → World → Type 0
Apart true w u = (u.behind ≡ w.behind) × Grown w.tasks u.tasks
Apart false w u = Leaves false w u

abbrev pub KeepsTask : (m : Bool) → World → TaskOutcome → Type 0
KeepsTask m w (ends v u) = Apart m w u
KeepsTask m w (lost s) = LeavesClock m w s
KeepsTask m w (stops h) = Unit {0}
KeepsTask m w (sleeps s u) = (m ≡ true) × Apart m w u

-- the first where the test holds
abbrev pub by_test : Bool → Type 0 → Type 0 → Type 0
by_test true a b = a
by_test false a b = b

-- an element of a background was woken: it has given its value and is gone, or another residual of
-- it stands in its place
abbrev pub Replaced : Scopes → Scopes → Type 0
Replaced bs cs = (cs ≡ bs) ⊎ ((s : Scope) × (cs ≡ also s bs))

abbrev pub Behind : Scope → (Scopes → Type 0) → Scopes → Type 0
Behind s rest none = ⊥
Behind s rest (also t cs) = (s ≡ t) × rest cs

-- all of a background stand but the first element that has the wait n
abbrev pub StandsBut : ℕ → Scopes → Scopes → Type 0
StandsBut n none cs = Unit {0}
StandsBut n (also s bs) cs = by_test (has n (scope_leaves s)) (Replaced bs cs)
    (Behind s (StandsBut n bs) cs)

-- A scope that goes on in its own residual keeps its background, and may have more in it; one that
-- goes on in its background keeps its own residual.
abbrev pub SameScope : ℕ → Residual → Scopes → Scope → Type 0
SameScope n r bs (scope q s cs) =
    by_test (is_behind n bs) ((s ≡ r) × StandsBut n bs cs) (Extends bs cs)

-- what a scope comes to where its wait n is woken in a world: the background of the scope round it
-- is as it was, so nothing of its own is left where it has ended
abbrev pub ScopeKeeps : ℕ → Residual → Scopes → World → TaskOutcome → Type 0
ScopeKeeps n r bs w (ends v u) = u.behind ≡ w.behind
ScopeKeeps n r bs w (lost s) = Unit {0}
ScopeKeeps n r bs w (stops h) = Unit {0}
ScopeKeeps n r bs w (sleeps s u) = (u.behind ≡ w.behind) × SameScope n r bs s

abbrev pub BackgroundStays : Type 0
BackgroundStays = (p : Program) (fuel : ℕ) (q : Role) (r : Residual) (bs : Scopes) (n : ℕ) (v : Val)
    (w : World) → ScopeKeeps n r bs w (resume_scope p (deeper p fuel) (scope q r bs) n v w)

-- all of a forest stand but the first tree that has the wait n, and more may stand behind them
abbrev pub AllBut : ℕ → List (Option Scope) → List (Option Scope) → Type 0
AllBut n [] ys = Unit {0}
AllBut n (x ∷ xs) [] = ⊥
AllBut n (None ∷ xs) (y ∷ ys) = (None ≡ y) × AllBut n xs ys
AllBut n (Some s ∷ xs) (y ∷ ys) =
    by_test (has n (scope_leaves s)) (Grown xs ys) ((Some s ≡ y) × AllBut n xs ys)

abbrev pub KeepsForest : ℕ → Forest → Stage Forest → Type 0
KeepsForest n fs (going s ys) = AllBut n fs ys
KeepsForest n fs (closed e s ys) = Unit {0}
KeepsForest n fs (broken e s) = Unit {0}
KeepsForest n fs (amiss s) = Unit {0}

-- a wait is woken: every other task of the forest is as it was
abbrev pub ForestStays : Type 0
ForestStays = (p : Program) (n : ℕ) (v : Val) (fs : Forest) (s : State) →
    KeepsForest n fs (woken p n v [] fs s)

-- an arm of a race was woken: with its value the others are gone, and nothing of them is in a
-- background; otherwise no arm has given a value
abbrev pub RaceKeeps : Place → World → Outcome → Type 0
RaceKeeps pl w (value e v u) = u.behind ≡ w.behind
RaceKeeps pl w (failed s) = ⊥
RaceKeeps pl w (returned v u) = ⊥
RaceKeeps pl w (broke u) = ⊥
RaceKeeps pl w (halted h) = Unit {0}
RaceKeeps pl w (rests r u) = (e : Env) ×
    ((gs : Arms) × ((r ≡ arms race pl e gs) × (first_gave gs ≡ None)))

abbrev pub RaceCancels : Type 0
RaceCancels = (p : Program) (fuel : ℕ) (pl : Place) (e : Env) (gs : Arms) (n : ℕ) (v : Val)
    (w : World) → RaceKeeps pl w (resume p (deeper p fuel) (arms race pl e gs) n v w)

-- What is evaluated while a failure context is open leaves tasks, waits, signals and backgrounds as
-- they were. Where it fails, memory becomes that of the entry, and only steps are gone.
pub record ContextLeaves (p : Program) (fuel : ℕ) : Type 0 where
  pub form : (a : Tree) (e : Env) (w : World) → Keeps false w (ev p (deeper p fuel) a false e w)
  pub conditions : (cs : Trees) (e : Env) (w : World) →
      Keeps false w (statements p (deeper p fuel) cs false e unit w)
  pub restored : (s : State) (w : World) (yes_do : Env → Val → World → Outcome)
      (no_do : World → Outcome) → attempted (failed s) w yes_do no_do ≡
      no_do (with_state w (record { memory = w.state.memory; clock = s.clock }))

abbrev pub FailedContextLeaves : Type 0
FailedContextLeaves = (p : Program) (fuel : ℕ) → ContextLeaves p fuel

-- evaluation takes nothing out of the background of its scope or out of the forest
abbrev pub EvaluationKeeps : Type 0
EvaluationKeeps = (p : Program) (fuel : ℕ) (a : Tree) (e : Env) (w : World) →
    Keeps true w (ev p (deeper p fuel) a true e w)

-- the world of the entry of a failure context, with the clock of its failure
abbrev pub undone : World → State → World
undone w s = with_state w (restored w.state.memory s)

-- where the conditions of a form fail in a state, the form goes on in the world of its entry, and
-- only steps are gone
abbrev pub FailsTo : World → State → (conditions form : Outcome) → (World → Outcome) → Type 0
FailsTo w s conditions form on = conditions ≡ failed s → Calm w.state.clock s.clock ×
    (form ≡ on (undone w s))

module _ (p : Program) (k : Deeper) where
  -- a value that a generator gives: the clauses behind it, and what is behind them
  abbrev pub value_met : Generator → Trees → Tree → (Env → World → Outcome) → Place → Env → Val ×
      Val → Val → World → Outcome
  value_met g cs a run pl e x so_far w =
      attempted (clauses p k cs false (with_taken g x e) unit w) w
      (λ e1 y w. level p k cs a run pl e1 y so_far w) (λ w. value e so_far w)

-- each failure context, from its entry to how it goes on
pub record ContextUndoes (p : Program) (k : Deeper) : Type 0 where
  pub if_else : (cs : Trees) (a b : Tree) (n : ℕ) (pl : Place) (m : Bool) (e : Env) (w : World)
      (s : State) → FailsTo w s (statements p k cs false e unit w)
      (ev_shape p k (t.Shape.if_else cs a b) n pl m e w) (λ u. ev p k b m e u)
  pub if_alone : (cs : Trees) (a : Tree) (n : ℕ) (pl : Place) (m : Bool) (e : Env) (w : World)
      (s : State) → FailsTo w s (statements p k cs false e unit w)
      (ev_shape p k (t.Shape.if_alone cs a) n pl m e w) (λ u. value e unit u)
  pub option : (cs : Trees) (n : ℕ) (pl : Place) (m : Bool) (e : Env) (w : World) (s : State) →
      FailsTo w s (statements p k cs false e unit w) (ev_shape p k (t.Shape.option cs) n pl m e w)
      (λ u. value e falsity u)
  pub logic : (cs : Trees) (n : ℕ) (pl : Place) (m : Bool) (e : Env) (w : World) (s : State) →
      FailsTo w s (statements p k cs false e unit w) (ev_shape p k (t.Shape.logic cs) n pl m e w)
      (λ u. value e falsity u)
  pub or_right : (a b : Tree) (n : ℕ) (pl : Place) (m : Bool) (e : Env) (w : World) (s : State) →
      FailsTo w s (ev p k a false e w) (ev_shape p k (t.Shape.chained op.Or a b) n pl m e w)
      (λ u. ev p k b m e u)
  pub negation : (a : Tree) (n : ℕ) (pl : Place) (m : Bool) (e : Env) (w : World) (s : State) →
      FailsTo w s (ev p k a false e w) (ev_shape p k (t.Shape.negation a) n pl m e w)
      (λ u. value e unit u)
  -- a `not` whose operand holds fails with the memory of its entry
  pub negation_fails : (a : Tree) (n : ℕ) (pl : Place) (m : Bool) (e e1 : Env) (v : Val)
      (w u : World) → ev p k a false e w ≡ value e1 v u → Calm w.state.clock u.state.clock ×
      (ev_shape p k (t.Shape.negation a) n pl m e w ≡ failed (restored w.state.memory u.state))
  -- a `for` whose first domain fails has no values
  pub first_domain : (cs : Trees) (a : Tree) (n : ℕ) (pl : Place) (m : Bool) (e : Env) (w : World)
      (s : State) → FailsTo w s (clauses p k cs false e unit w)
      (ev_shape p k (t.Shape.for_form cs a) n pl m e w) (λ u. value e (array no_vals) u)
  -- each value of a generator is met in turn, and is not taken where the clauses behind it fail
  pub values_met : (c : Tree) (cs : Trees) (a : Tree) (run : Env → World → Outcome) (pl : Place)
      (e : Env) (v so_far : Val) (w : World) (g : Generator) (vs : Values) →
      statement_of c ≡ generates g → values_of g v ≡ Some vs →
      level p k (more_trees c cs) a run pl e v so_far w ≡
      k.takes (value_met p k g cs a run pl e) (λ vs r. generated e g cs a pl vs r) e vs so_far w
  pub value_clauses : (g : Generator) (cs : Trees) (a : Tree) (run : Env → World → Outcome)
      (pl : Place) (e : Env) (x : Val × Val) (so_far : Val) (w : World) (s : State) →
      FailsTo w s (clauses p k cs false (with_taken g x e) unit w)
      (value_met p k g cs a run pl e x so_far w) (λ u. value e so_far u)
  pub woken_values : (g : Generator) (cs : Trees) (a : Tree) (pl : Place) (e : Env) (x : Val × Val)
      (so_far : Val) (w : World) → taken p k g cs a pl e x so_far w ≡
      value_met p k g cs a (λ e u. ev p k a true e u) pl e x so_far w

abbrev pub ContextsUndo : Type 0
ContextsUndo = (p : Program) (fuel : ℕ) → ContextUndoes p (deeper p fuel)

-- to go on takes nothing out of the background of the scope or out of the forest
abbrev pub GoingKeeps : Type 0
GoingKeeps = (p : Program) (fuel : ℕ) (r : Residual) (n : ℕ) (v : Val) (w : World) →
    Keeps true w (resume p (deeper p fuel) r n v w)

-- a deferred block that was reached, in the environment of its `defer`
pub record Deferred : Type 0 where
  pub env : Env
  pub block : Tree

-- The deferred blocks of a residual. Those of its own task stand in the order in which they were
-- reached. Of the tasks that it encloses the one that began first stands first, each before what it
-- encloses itself.
abbrev mutual
  pub own_deferred : Residual → List Deferred
  own_deferred (leaf x e) = []
  own_deferred (args e f vs r left) = own_deferred r
  own_deferred (seq e b r left) = own_deferred r
  own_deferred (deferred e d r) = record { env = e; block = d } ∷ own_deferred r
  own_deferred (looped e a r) = own_deferred r
  own_deferred (filling e c pl fs xs vs ss r) = own_deferred r
  own_deferred (generated e g cs a pl vs r) = own_deferred r
  own_deferred (called e s) = scope_own_deferred s
  own_deferred (arms kd pl e gs) = []

  pub scope_own_deferred : Scope → List Deferred
  scope_own_deferred (scope q r bs) = own_deferred r

  pub inner_deferred : Residual → List Deferred
  inner_deferred (leaf x e) = []
  inner_deferred (args e f vs r left) = inner_deferred r
  inner_deferred (seq e b r left) = inner_deferred r
  inner_deferred (deferred e d r) = inner_deferred r
  inner_deferred (looped e a r) = inner_deferred r
  inner_deferred (filling e c pl fs xs vs ss r) = inner_deferred r
  inner_deferred (generated e g cs a pl vs r) = inner_deferred r
  inner_deferred (called e s) = scope_inner_deferred s
  inner_deferred (arms kd pl e gs) = arms_deferred gs

  pub scope_inner_deferred : Scope → List Deferred
  scope_inner_deferred (scope q r bs) = behind_deferred bs ++ inner_deferred r

  pub behind_deferred : Scopes → List Deferred
  behind_deferred none = []
  behind_deferred (also s bs) = (scope_own_deferred s ++ scope_inner_deferred s) ++
      behind_deferred bs

  pub arms_deferred : Arms → List Deferred
  arms_deferred no_arms = []
  arms_deferred (gave v gs) = arms_deferred gs
  arms_deferred (runs s gs) = (scope_own_deferred s ++ scope_inner_deferred s) ++ arms_deferred gs

-- deferred blocks run from the last to the first, each as a part of its own that spends a step
abbrev pub run_back : Deeper → List Deferred → World → Went
run_back k [] w = went w
run_back k (d ∷ ds) w = went_on (run_back k ds w) (λ w. dropped (k.parts d.block d.env w))

-- What is cancelled has run all its deferred blocks from the last to the first: later tasks before
-- earlier ones, each after what it encloses.
pub record Cancels (p : Program) (k : Deeper) : Type 0 where
  pub arms : (gs : Arms) (w : World) → cancel_arms p k gs w ≡ run_back k (arms_deferred gs) w
  pub background : (bs : Scopes) (w : World) →
      cancel_behind p k bs w ≡ run_back k (behind_deferred bs) w

abbrev pub CancelsBackwards : Type 0
CancelsBackwards = (p : Program) (fuel : ℕ) → Cancels p (deeper p fuel)

-- cancelling draws no wait, sends no signal and ends no spawned task, and leaves background and
-- forest
abbrev pub KeepsWent : World → Went → Type 0
KeepsWent w (went u) = Leaves false w u
KeepsWent w (quits h) = Unit {0}

pub record CancelLeaves (p : Program) (k : Deeper) : Type 0 where
  pub arms : (gs : Arms) (w : World) → KeepsWent w (cancel_arms p k gs w)
  pub background : (bs : Scopes) (w : World) → KeepsWent w (cancel_behind p k bs w)

abbrev pub CancellingLeaves : Type 0
CancellingLeaves = (p : Program) (fuel : ℕ) → CancelLeaves p (deeper p fuel)

-- a group whose arm was woken: it has given a value, or another residual of it stands in its place
abbrev pub ArmCame : Arms → Arms → Type 0
ArmCame gs hs = ((x : Val) × (hs ≡ gave x gs)) ⊎ ((s : Scope) × (hs ≡ runs s gs))

abbrev pub AfterGave : Val → (Arms → Type 0) → Arms → Type 0
AfterGave v rest no_arms = ⊥
AfterGave v rest (gave u hs) = (v ≡ u) × rest hs
AfterGave v rest (runs s hs) = ⊥

abbrev pub AfterRuns : Scope → (Arms → Type 0) → Arms → Type 0
AfterRuns s rest no_arms = ⊥
AfterRuns s rest (gave u hs) = ⊥
AfterRuns s rest (runs r hs) = (s ≡ r) × rest hs

-- all arms stand but the first that has the wait n
abbrev pub ArmsBut : ℕ → Arms → Arms → Type 0
ArmsBut n no_arms hs = hs ≡ no_arms
ArmsBut n (gave v gs) hs = AfterGave v (ArmsBut n gs) hs
ArmsBut n (runs s gs) hs = by_test (has n (scope_leaves s)) (ArmCame gs hs)
    (AfterRuns s (ArmsBut n gs) hs)

abbrev pub OthersStand : ℕ → Arms → ArmsOutcome → Type 0
OthersStand n gs (stand hs u) = ArmsBut n gs hs
OthersStand n gs (stops_arms h) = Unit {0}

abbrev pub ArmsStand : Type 0
ArmsStand = (p : Program) (fuel : ℕ) (gs : Arms) (n : ℕ) (v : Val) (w : World) →
    OthersStand n gs (resume_arms p (deeper p fuel) gs n v w)

-- a race as it begins: with its value nothing of its arms is in the background; otherwise no arm
-- has given a value
abbrev pub RaceBegins : Type 0
RaceBegins = (p : Program) (fuel : ℕ) (pl : Place) (ts : Trees) (e : Env) (w : World) →
    RaceKeeps pl w (started p (deeper p fuel) race pl ts e no_arms w)

-- an arm or the body of a `branch`, begun in a world in which a step is spent
abbrev pub begun_part : Program → Deeper → Tree → Env → World → TaskOutcome
begun_part p k a e w = scope_end p k part w.behind (ev p k a true e (set_behind w none))

-- what a group comes to
pub record GroupSettles (p : Program) (k : Deeper) : Type 0 where
  -- a `sync` gives the tuple of the values of all arms
  pub sync_waits : (pl : Place) (e : Env) (gs : Arms) (w : World) → all_gave gs ≡ None →
      settled p k sync pl e gs w ≡ rests (arms sync pl e gs) w
  pub sync_ends : (pl : Place) (e : Env) (gs : Arms) (vs : List Val) (w : World) →
      all_gave gs ≡ Some vs → settled p k sync pl e gs w ≡ told (still (tuple_of vs) w.state) pl e w
  -- with the first value of its arms a race has cancelled those that run, and goes on in the world
  -- that is then left
  pub race_waits : (pl : Place) (e : Env) (gs : Arms) (w : World) → first_gave gs ≡ None →
      settled p k race pl e gs w ≡ rests (arms race pl e gs) w
  pub race_ends : (pl : Place) (e : Env) (gs : Arms) (v : Val) (w : World) →
      first_gave gs ≡ Some v → settled p k race pl e gs w ≡
      on_went (run_back k (arms_deferred gs) w) (λ u. value e v u)
  -- with the first value of its arms a rush goes on, and those that run stand in the background
  pub rush_waits : (pl : Place) (e : Env) (gs : Arms) (w : World) → first_gave gs ≡ None →
      settled p k rush pl e gs w ≡ rests (arms rush pl e gs) w
  pub rush_ends : (pl : Place) (e : Env) (gs : Arms) (v : Val) (w : World) →
      first_gave gs ≡ Some v → settled p k rush pl e gs w ≡ value e v (leave_all gs w)
  -- where an arm is woken, the group comes to what its arms then are
  pub woken : (kd : Kind) (pl : Place) (e : Env) (gs hs : Arms) (n : ℕ) (v : Val) (w u : World) →
      resume_arms p k gs n v w ≡ stand hs u →
      resume p k (arms kd pl e gs) n v w ≡ settled p k kd pl e hs u
  -- arms begin in written order, each with a step; a race starts no other arm once one has given a
  -- value
  pub begun : (kd : Kind) (pl : Place) (e : Env) (gs : Arms) (w : World) →
      started p k kd pl no_trees e gs w ≡ settled p k kd pl e gs w
  pub arm_rests : (kd : Kind) (pl : Place) (a : Tree) (ts : Trees) (e : Env) (gs : Arms) (l : ℕ)
      (s : Scope) (w u : World) → w.state.clock.left ≡ suc l →
      begun_part p k a e (with_state w (stepped l w.state)) ≡ sleeps s u →
      started p k kd pl (more_trees a ts) e gs w ≡
      started p k kd pl ts e (with_arm gs (runs s no_arms)) u
  pub arm_ends : (pl : Place) (a : Tree) (ts : Trees) (e : Env) (gs : Arms) (l : ℕ) (v : Val)
      (w u : World) → w.state.clock.left ≡ suc l →
      begun_part p k a e (with_state w (stepped l w.state)) ≡ ends v u →
      (started p k sync pl (more_trees a ts) e gs w ≡
      started p k sync pl ts e (with_arm gs (gave v no_arms)) u) ×
      ((started p k race pl (more_trees a ts) e gs w ≡
      settled p k race pl e (with_arm gs (gave v no_arms)) u) ×
      (started p k rush pl (more_trees a ts) e gs w ≡
      started p k rush pl ts e (with_arm gs (gave v no_arms)) u))

abbrev pub GroupsSettle : Type 0
GroupsSettle = (p : Program) (fuel : ℕ) → GroupSettles p (deeper p fuel)

abbrev pub listed_scopes : Scopes → List Scope
listed_scopes none = []
listed_scopes (also s bs) = s ∷ listed_scopes bs

-- the arms that have given no value
abbrev pub running : Arms → List Scope
running no_arms = []
running (gave v gs) = running gs
running (runs s gs) = s ∷ running gs

-- the second world is the first with these scopes behind all that is in its background, and their
-- waits behind all waits of it
pub record LeavesBehind (xs : List Scope) (ws : List Wait) (w u : World) : Type 0 where
  pub scopes : listed_scopes u.behind ≡ listed_scopes w.behind ++ xs
  pub waits : behind_leaves u.behind [] ≡ behind_leaves w.behind [] ++ ws
  pub state : u.state ≡ w.state
  pub tasks : u.tasks ≡ w.tasks

-- what `rush` and `branch` leave unfinished stands in the background of the scope
pub record LeftBehind (p : Program) (k : Deeper) : Type 0 where
  pub rush : (gs : Arms) (w : World) → LeavesBehind (running gs) (arms_leaves gs) w (leave_all gs w)
  pub branch : (a : Tree) (n : ℕ) (pl : Place) (e : Env) (l : ℕ) (s : Scope) (w u : World) →
      w.state.clock.left ≡ suc l → begun_part p k a e (with_state w (stepped l w.state)) ≡
      sleeps s u → (x : World) × ((ev_shape p k (t.Shape.branch a) n pl true e w ≡ value e unit x) ×
      LeavesBehind (s ∷ []) (scope_leaves s) u x)
  pub branch_ends : (a : Tree) (n : ℕ) (pl : Place) (e : Env) (l : ℕ) (v : Val) (w u : World) →
      w.state.clock.left ≡ suc l → begun_part p k a e (with_state w (stepped l w.state)) ≡
      ends v u → ev_shape p k (t.Shape.branch a) n pl true e w ≡ value e unit u

abbrev pub UnfinishedGoesOn : Type 0
UnfinishedGoesOn = (p : Program) (fuel : ℕ) → LeftBehind p (deeper p fuel)

-- the end of a scope with a value
abbrev pub ended_scope : Deeper → Role → Scopes → Val → World → TaskOutcome
ended_scope k q outer v w =
    on_went_task (run_back k (behind_deferred w.behind) w)
    (λ u. ends v (finished q v (set_behind u outer)))

-- A scope that ends with a value or a `return` has cancelled what is in its background; one that is
-- suspended has its background with it; what is in the background goes on where it is woken.
pub record ScopeEnds (p : Program) (k : Deeper) : Type 0 where
  pub with_value : (q : Role) (outer : Scopes) (e : Env) (v : Val) (w : World) →
      scope_end p k q outer (value e v w) ≡ ended_scope k q outer v w
  pub with_return : (outer : Scopes) (v : Val) (w : World) →
      scope_end p k body outer (returned v w) ≡ ended_scope k body outer v w
  pub root_return : (entry : Option ℕ) (outer : Scopes) (v : Val) (w : World) →
      scope_end p k (root entry) outer (returned v w) ≡ ended_scope k (root entry) outer v w
  pub suspended_scope : (q : Role) (outer : Scopes) (r : Residual) (w : World) →
      scope_end p k q outer (rests r w) ≡ sleeps (scope q r w.behind) (set_behind w outer)
  pub woken_behind : (q : Role) (r : Residual) (bs : Scopes) (n : ℕ) (v : Val) (w : World) →
      is_behind n bs ≡ true → resume_scope p k (scope q r bs) n v w ≡
      behind_came q r (resume_behind p k bs n v w)
  pub woken_element : (s : Scope) (bs : Scopes) (n : ℕ) (v : Val) (w : World) →
      has n (scope_leaves s) ≡ true →
      resume_behind p k (also s bs) n v w ≡ element_came (resume_scope p k s n v w) bs
  pub woken_further : (s : Scope) (bs : Scopes) (n : ℕ) (v : Val) (w : World) →
      has n (scope_leaves s) ≡ false →
      resume_behind p k (also s bs) n v w ≡ element_before s (resume_behind p k bs n v w)

abbrev pub ScopesEnd : Type 0
ScopesEnd = (p : Program) (fuel : ℕ) → ScopeEnds p (deeper p fuel)
