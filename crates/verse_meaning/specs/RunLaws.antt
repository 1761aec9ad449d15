-- What holds of each evaluation, of turns and of whole runs: steps, lines, depths, groups, numbers
-- of waits.
use Rattle.std.specs.Prelude.{◌++◌, true, cond, Option, Some, None, ◌≡◌, ℕ, suc, ◌+◌, ◌≤◌, ℤ, List}
use Rattle.std.specs.Prelude.{[], ◌∷◌, Bool}
use Rattle.verse_tree.specs.Tree.{Tree}
use Rattle.verse_value.specs.Runs.{Line}
use Rattle.verse_value.specs.Val.{Val}
use Rattle.verse_meaning_state.specs.Turns.{Stage, amiss, broken, closed, going, Kind, sync, race}
use Rattle.verse_meaning_state.specs.Turns.{rush}
use Rattle.verse_meaning_state.specs.State.{State, begun}
use Rattle.verse_meaning_state.specs.Waits.{Wait, eqn, ltn, has}
use Rattle.verse_meaning.specs.Programs.{Program}
use Rattle.verse_meaning.specs.Residuals.{Env, Residual, Scope, Arms, Scopes, also, args, arms}
use Rattle.verse_meaning.specs.Residuals.{called, deferred, filling, gave}
use Rattle.verse_meaning.specs.Residuals.{generated, leaf, looped, no_arms, none, runs, scope, seq}
use Rattle.verse_meaning.specs.Residuals.{arms_leaves, behind_leaves, is_behind}
use Rattle.verse_meaning.specs.Residuals.{leaves, scope_leaves}
use Rattle.verse_meaning.specs.Outcomes.{Halt, Outcome, World, broke, failed, fault, halted, jammed}
use Rattle.verse_meaning.specs.Outcomes.{out, rests, returned, value, wrong}
use Rattle.verse_meaning.specs.Outcomes.{all_gave, first_gave}
use Rattle.verse_meaning.specs.Evaluating.{ev}
use Rattle.verse_meaning.specs.Resuming.{resume, resume_scope}
use Rattle.verse_meaning.specs.Runs.{Forest, after, deeper, turn_taken, forest_leaves, woken}

abbrev pub halted_state : Halt → State
halted_state (fault k pl s) = s
halted_state (out s) = s
halted_state (jammed s) = s
halted_state (wrong s) = s

-- between a state and the state that an outcome has, however it ends
abbrev pub Reaches : (State → State → Type 0) → State → Outcome → Type 0
Reaches R s (value e v u) = R s u.state
Reaches R s (failed t) = R s t
Reaches R s (returned v u) = R s u.state
Reaches R s (broke u) = R s u.state
Reaches R s (halted h) = R s (halted_state h)
Reaches R s (rests r u) = R s u.state

abbrev pub stage_state : Stage Forest → State
stage_state (going s fs) = s
stage_state (closed e s fs) = s
stage_state (broken e s) = s
stage_state (amiss s) = s

-- the steps left and those spent are as many together, and no more are left
pub record StepsStand (s u : State) : Type 0 where
  pub sum : u.clock.left + u.clock.spent ≡ s.clock.left + s.clock.spent
  pub falls : u.clock.left ≤ s.clock.left

pub record StepsCount (p : Program) : Type 0 where
  pub evaluation : (fuel : ℕ) (a : Tree) (m : Bool) (e : Env) (w : World) →
      Reaches StepsStand w.state (ev p (deeper p fuel) a m e w)
  pub going : (fuel : ℕ) (r : Residual) (n : ℕ) (v : Val) (w : World) →
      Reaches StepsStand w.state (resume p (deeper p fuel) r n v w)
  pub turn : (until : ℕ) (s : State) (fs : Forest) →
      StepsStand s (stage_state (turn_taken p until s fs))
  -- of a run's steps those that are not left are spent
  pub run : (ns : List ℤ) (steps until k : ℕ) →
      StepsStand (begun steps) (stage_state (after p ns steps until k))

abbrev pub StepsCounted : Type 0
StepsCounted = (p : Program) → StepsCount p

-- the second list begins with the first
abbrev pub Begins : List Line → List Line → Type 0
Begins [] ys = Unit {0}
Begins (x ∷ xs) [] = ⊥
Begins (x ∷ xs) (y ∷ ys) = (x ≡ y) × Begins xs ys

-- lines are only added from turn to turn
pub record LinesStand (p : Program) : Type 0 where
  pub turn : (until : ℕ) (s : State) (fs : Forest) →
      Begins s.memory.trace (stage_state (turn_taken p until s fs)).memory.trace
  pub run : (ns : List ℤ) (steps until k : ℕ) →
      Begins (stage_state (after p ns steps until k)).memory.trace
      (stage_state (after p ns steps until (suc k))).memory.trace

abbrev pub LinesStay : Type 0
LinesStay = (p : Program) → LinesStand p

-- Every depth that is no less than the steps left comes to the same, so none is ever seen to end.
pub record DepthsAgree (p : Program) : Type 0 where
  pub evaluation : (n n' : ℕ) (a : Tree) (m : Bool) (e : Env) (w : World) → w.state.clock.left ≤ n →
      w.state.clock.left ≤ n' → ev p (deeper p n) a m e w ≡ ev p (deeper p n') a m e w
  pub going : (n n' : ℕ) (s : Scope) (i : ℕ) (v : Val) (w : World) → w.state.clock.left ≤ n →
      w.state.clock.left ≤ n' → resume_scope p (deeper p n) s i v w ≡
      resume_scope p (deeper p n') s i v w

abbrev pub DepthEnough : Type 0
DepthEnough = (p : Program) → DepthsAgree p

-- what a group waits for has not come: all arms of a `sync`, the first of a `race` or a `rush`
abbrev pub StillWaits : Kind → Arms → Type 0
StillWaits sync gs = all_gave gs ≡ None
StillWaits race gs = first_gave gs ≡ None
StillWaits rush gs = first_gave gs ≡ None

-- every group of a residual, in its scopes and their backgrounds too
abbrev mutual
  pub Waiting : Residual → Type 0
  Waiting (leaf x e) = Unit {0}
  Waiting (args e f vs r left) = Waiting r
  Waiting (seq e b r left) = Waiting r
  Waiting (deferred e d r) = Waiting r
  Waiting (looped e a r) = Waiting r
  Waiting (filling e c pl fs xs vs ss r) = Waiting r
  Waiting (generated e g cs a pl vs r) = Waiting r
  Waiting (called e s) = ScopeWaits s
  Waiting (arms kd pl e gs) = StillWaits kd gs × ArmsWait gs

  pub ScopeWaits : Scope → Type 0
  ScopeWaits (scope q r bs) = Waiting r × BehindWaits bs

  pub BehindWaits : Scopes → Type 0
  BehindWaits none = Unit {0}
  BehindWaits (also s bs) = ScopeWaits s × BehindWaits bs

  pub ArmsWait : Arms → Type 0
  ArmsWait no_arms = Unit {0}
  ArmsWait (gave v gs) = ArmsWait gs
  ArmsWait (runs s gs) = ScopeWaits s × ArmsWait gs

abbrev pub ForestWaits : List (Option Scope) → Type 0
ForestWaits [] = Unit {0}
ForestWaits (None ∷ fs) = ForestWaits fs
ForestWaits (Some s ∷ fs) = ScopeWaits s × ForestWaits fs

abbrev pub StageWaits : Stage Forest → Type 0
StageWaits (going s fs) = ForestWaits fs
StageWaits (closed e s fs) = ForestWaits fs
StageWaits (broken e s) = Unit {0}
StageWaits (amiss s) = Unit {0}

-- between two turns no race and no rush has an arm with a value, and no sync has all
pub record StatesWait (p : Program) : Type 0 where
  pub turn : (until : ℕ) (s : State) (fs : Forest) → ForestWaits fs →
      StageWaits (turn_taken p until s fs)
  pub run : (ns : List ℤ) (steps until k : ℕ) → StageWaits (after p ns steps until k)

abbrev pub GroupsWait : Type 0
GroupsWait = (p : Program) → StatesWait p

-- how many waits of a list have a number
abbrev pub count : ℕ → List Wait → ℕ
count i [] = 0
count i (w ∷ ws) = cond (eqn i w.number) 1 0 + count i ws

-- 1 where a number is still to be drawn
abbrev pub to_come : ℕ → State → ℕ
to_come i s = cond (ltn i s.clock.next) 0 1

-- how often a number is that of a live wait, or still to be drawn
abbrev pub chances : ℕ → State → List Wait → ℕ
chances i s ws = count i ws + to_come i s

abbrev pub StageChances : ℕ → ℕ → Stage Forest → Type 0
StageChances i b (going s fs) = chances i s (forest_leaves fs) ≤ b
StageChances i b (closed e s fs) = chances i s (forest_leaves fs) ≤ b
StageChances i b (broken e s) = Unit {0}
StageChances i b (amiss s) = Unit {0}

-- A number that is neither live nor still to be drawn never comes back. So the numbers of live
-- waits are distinct and below `next`, and each is woken or cancelled no more than once.
pub record NumberOnce (p : Program) : Type 0 where
  pub turn : (i until : ℕ) (s : State) (fs : Forest) →
      StageChances i (chances i s (forest_leaves fs)) (turn_taken p until s fs)
  -- the number that is woken goes
  pub goes : (n : ℕ) (v : Val) (fs : Forest) (s : State) (b : ℕ) → has n (forest_leaves fs) ≡ true →
      chances n s (forest_leaves fs) ≤ suc b →
      StageChances n b (woken p n v [] fs s)
  pub run : (ns : List ℤ) (i steps until k : ℕ) → StageChances i 1 (after p ns steps until k)

abbrev pub NumbersOnce : Type 0
NumbersOnce = (p : Program) → NumberOnce p

-- The waits that must still be live where the wait n is woken: of a race or a rush those of the
-- woken arm alone, and of a scope whose own residual is woken none of its background, since it may
-- end.
abbrev mutual
  pub standing : ℕ → Residual → List Wait
  standing n (leaf x e) = []
  standing n (args e f vs r left) = standing n r
  standing n (seq e b r left) = standing n r
  standing n (deferred e d r) = standing n r
  standing n (looped e a r) = standing n r
  standing n (filling e c pl fs xs vs ss r) = standing n r
  standing n (generated e g cs a pl vs r) = standing n r
  standing n (called e s) = scope_standing n s
  standing n (arms kd pl e gs) = arms_standing kd n gs

  pub scope_standing : ℕ → Scope → List Wait
  scope_standing n (scope q r bs) =
      cond (is_behind n bs) (behind_standing n bs ++ leaves r) (standing n r)

  pub behind_standing : ℕ → Scopes → List Wait
  behind_standing n none = []
  behind_standing n (also s bs) =
      cond (has n (scope_leaves s)) (scope_standing n s ++ behind_leaves bs [])
      (scope_leaves s ++ behind_standing n bs)

  pub arms_standing : Kind → ℕ → Arms → List Wait
  arms_standing kd n no_arms = []
  arms_standing kd n (gave v gs) = arms_standing kd n gs
  arms_standing sync n (runs s gs) =
      cond (has n (scope_leaves s)) (scope_standing n s ++ arms_leaves gs)
      (scope_leaves s ++ arms_standing sync n gs)
  arms_standing race n (runs s gs) =
      cond (has n (scope_leaves s)) (scope_standing n s) (arms_standing race n gs)
  arms_standing rush n (runs s gs) =
      cond (has n (scope_leaves s)) (scope_standing n s) (arms_standing rush n gs)

abbrev pub forest_standing : ℕ → Forest → List Wait
forest_standing n [] = []
forest_standing n (None ∷ fs) = forest_standing n fs
forest_standing n (Some s ∷ fs) =
    cond (has n (scope_leaves s)) (scope_standing n s ++ forest_leaves fs)
    (scope_leaves s ++ forest_standing n fs)

abbrev pub StageHas : ℕ → ℕ → Stage Forest → Type 0
StageHas i c (going s fs) = c ≤ count i (forest_leaves fs)
StageHas i c (closed e s fs) = c ≤ count i (forest_leaves fs)
StageHas i c (broken e s) = Unit {0}
StageHas i c (amiss s) = Unit {0}

-- a wait that is no longer live was woken, or stood in another arm of a race or a rush, or in the
-- background of a scope, in which the one that was woken is
abbrev pub NothingLost : Type 0
NothingLost = (p : Program) (i n : ℕ) (v : Val) (fs : Forest) (s : State) → ForestWaits fs →
    StageHas i (count i (forest_standing n fs)) (woken p n v [] fs s)
