-- What every state of a run holds between its turns, so that what is kept of it fits the code.
use Rattle.std.specs.Prelude.{◌≡◌, ◌⊎◌, ℕ, suc, ◌+◌, ◌≤◌, ◌<◌, List, [], ◌∷◌, ◌++◌, length, Option}
use Rattle.std.specs.Prelude.{Some, None, Bool, true, false}
use Rattle.verse_base.specs.declared.places.Place.{Place}
use Rattle.verse_code.specs.declared.codes.Code.{Code}
use Rattle.verse_meaning_state.specs.State.{State, Given}
use Rattle.verse_meaning_state.specs.Waits.{Cause, till, never, done, heard, eqn, ltn, nth}
use Rattle.verse_meaning_state.specs.Turns.{Kind}
use Rattle.verse_code_machine.specs.Tasks.{Frame, Role, root, part, Who, Part, Rest, asleep, group}
use Rattle.verse_code_machine.specs.Tasks.{Thread, Task, After, resuming, closing}
use Rattle.verse_code_machine.specs.Tasks.{finishing, Up, begins, branching, spawning, clearing}
use Rattle.verse_code_machine.specs.Tasks.{Trees, World}
use Rattle.verse_code_machine.specs.Runs.{Forest}
use Rattle.verse_code_machine_parents.specs.Parents.{TreesRooted}
use Rattle.run_save_shots.specs.Lists.{Each}
use Rattle.run_save_shots.specs.Fitting.{ValueFits, ValuesFit, IsBlock}
use Rattle.verse_base.specs.declared.limits.TheConstants.{MOST_MOMENT}
use Rattle.run_save_moves.specs.Fine.{Scene, FrameFine, StateFine}
use Rattle.run_save_moves.specs.Moves.{BehindCall, BehindWait, BehindGroup, NotYet, PartFits}

abbrev pub Has : ℕ → List ℕ → Type 0
Has e [] = ⊥
Has e (x ∷ xs) = (e ≡ x) ⊎ Has e xs

-- a task's name: that of a task of its own is its number, and a part's goes on from its parent's
abbrev pub IsSome : List ℕ → Type 0
IsSome [] = ⊥
IsSome (x ∷ xs) = Unit {0}

abbrev pub RoleIs : Role → Who → Type 0
RoleIs (root entry) w = (w.up ≡ []) × (w.path ≡ w.number ∷ [])
RoleIs part w = (w.path ≡ w.up ++ w.number ∷ []) × IsSome w.up

abbrev pub WhoIs : Who → Type 0
WhoIs w = RoleIs w.role w

-- what was given came no later
abbrev pub NoLater : ℕ → Option Given → Type 0
NoLater m None = Unit {0}
NoLater m (Some g) = g.moment ≤ m

module _ (c : Code) where
  -- a frame of a suspended task
  pub record FrameStill (n : ℕ) (f : Frame) : Type 0 where
    pub locals : ValuesFit n f.locals
    pub stack : ValuesFit n f.stack
    pub defers : Each (IsBlock c) f.life.defers
    pub handlers : f.handlers ≡ []

  abbrev pub LowerStill : ℕ → Frame → Type 0
  LowerStill n f = FrameStill n f × BehindCall c f.place

  pub record ThreadStill (n : ℕ) (x : Thread) : Type 0 where
    pub named : WhoIs x.who
    pub frame : FrameStill n x.frame
    pub below : Each (LowerStill n) x.below

  abbrev pub LowerFine : Scene → Frame → Type 0
  LowerFine z f = FrameFine c z f × BehindCall c f.place

  pub record ThreadFine (z : Scene) (x : Thread) : Type 0 where
    pub named : WhoIs x.who
    pub frame : FrameFine c z x.frame
    pub below : Each (LowerFine z) x.below

  abbrev pub CauseFine : Scene → Cause → Type 0
  CauseFine z (till moment) = moment ≤ MOST_MOMENT
  CauseFine z never = Unit {0}
  CauseFine z (done entry) = entry < z.entries
  CauseFine z (heard d) = Has d z.events

  abbrev pub RestFine : Scene → (next place : ℕ) → Rest → Type 0
  RestFine z next place (asleep w) = (w.number < next) × BehindWait c place w.cause ×
      CauseFine z w.cause
  RestFine z next place (group k p gs) = BehindGroup c place k p (length gs) × NotYet k gs ×
      Each (PartFits z.entries) gs × (1 ≤ length gs)

  pub record TaskFine (z : Scene) (next : ℕ) (t : Task) : Type 0 where
    pub still : ThreadStill z.entries t.thread
    pub rest : RestFine z next t.thread.frame.place t.rest

  abbrev pub TasksFine : Scene → ℕ → List Task → Type 0
  TasksFine z next ts = Each (TaskFine z next) ts

  abbrev pub TreesFine : Scene → ℕ → Forest → Type 0
  TreesFine z next tss = Each (TasksFine z next) tss

  abbrev pub AfterFine : Scene → After → Type 0
  AfterFine z (resuming x v) = ThreadFine z x × ValueFits z.entries v
  AfterFine z (closing w v) = ValueFits z.entries v
  AfterFine z (finishing w entry v) = ValueFits z.entries v

  -- a task with its group, with so many arms in all
  pub record GroupFine (z : Scene) (k : Kind) (p : Place) (gs : List Part) (arms : ℕ) (x : Thread)
      : Type 0 where
    pub still : ThreadStill z.entries x
    pub place : BehindGroup c x.frame.place k p arms
    pub some : 1 ≤ arms
    pub parts : Each (PartFits z.entries) gs

  abbrev pub UpFine : Scene → ℕ → Up → Type 0
  UpFine z next (begins x k p gs n ls) = GroupFine z k p gs (suc (length gs + length ls)) x
  UpFine z next (branching x) = ThreadStill z.entries x
  UpFine z next (spawning x e ps qs) = ThreadStill z.entries x × (e < z.entries) ×
      TasksFine z next ps × TasksFine z next qs
  UpFine z next (clearing a ts) = AfterFine z a × TasksFine z next ts

  pub record Others (z : Scene) (next : ℕ) (pre post : List Task) (us : List Up) (trees : Trees) :
      Type 0 where
    pub pre_fine : TasksFine z next pre
    pub post_fine : TasksFine z next post
    pub ups : Each (UpFine z next) us
    pub before_fine : TreesFine z next trees.before
    pub behind_fine : TreesFine z next trees.behind

  abbrev pub WorldFine : Scene → ℕ → World → Type 0
  WorldFine z next o = Others z next o.pre o.post o.ups o.trees

  pub record StateHeld (until : ℕ) (z : Scene) (s : State) : Type 0 where
    pub fine : StateFine c z s
    pub now : s.clock.now ≤ until
    pub results : Each (NoLater until) s.clock.results

-- ---- counts

abbrev pub tasks_sum : (Task → ℕ) → List Task → ℕ
tasks_sum f [] = 0
tasks_sum f (t ∷ ts) = f t + tasks_sum f ts

abbrev pub trees_sum : (Task → ℕ) → Forest → ℕ
trees_sum f [] = 0
trees_sum f (ts ∷ tss) = tasks_sum f ts + trees_sum f tss

abbrev pub one : Bool → ℕ
one true = 1
one false = 0

-- it is the wait of this number
abbrev pub is_wait : ℕ → Rest → ℕ
is_wait n (asleep w) = one (eqn n w.number)
is_wait n (group k p gs) = 0

-- it is the task of this entry, or Main's
abbrev pub is_task_of : ℕ → Role → ℕ
is_task_of e (root None) = 0
is_task_of e (root (Some d)) = one (eqn e d)
is_task_of e part = 0

abbrev pub is_main : Role → ℕ
is_main (root None) = 1
is_main (root (Some d)) = 0
is_main part = 0

abbrev pub unfinished : Option (Option Given) → ℕ
unfinished None = 0
unfinished (Some None) = 1
unfinished (Some (Some g)) = 0

-- Between two turns of a run of so many steps to a horizon. An entry that runs has one task, and
-- one that is finished has none.
pub record Savable (c : Code) (steps until : ℕ) (s : State) (tss : Forest) : Type 0 where
  pub scene : Scene
  pub state : StateHeld c until scene s
  pub trees : TreesFine c scene s.clock.next tss
  pub rooted : TreesRooted s.clock.left tss
  pub sum : s.clock.left + s.clock.spent ≡ steps
  -- of what was printed before, each line has a byte
  pub before : s.clock.before.lines ≤ s.clock.before.bytes
  pub few_tasks : trees_sum (λ t. 1) tss ≤ s.clock.spent
  pub few_frames : trees_sum (λ (t : Task). suc (length t.thread.below)) tss ≤ s.clock.spent
  pub few_waits : s.clock.next ≤ s.clock.spent
  pub few_entries : length s.clock.results ≤ s.clock.spent
  pub waits : (n : ℕ) → trees_sum (λ (t : Task). is_wait n t.rest) tss ≤ one (ltn n s.clock.next)
  pub tasks_of : (e : ℕ) →
      trees_sum (λ (t : Task). is_task_of e t.thread.who.role) tss ≤ unfinished (nth
      s.clock.results e)
  pub runs_of : (e : ℕ) →
      unfinished (nth s.clock.results e) ≤ trees_sum (λ (t : Task). is_task_of e
      t.thread.who.role) tss
  pub main : trees_sum (λ (t : Task). is_main t.thread.who.role) tss ≤ 1
