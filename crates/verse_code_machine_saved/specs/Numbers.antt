-- A run seen from another: its tasks have other numbers, in the same order, and signals and lines
-- stand before its own.
use Rattle.std.specs.Prelude.{◌≡◌, ◌<◌, ◌≤◌, ◌+◌, cond, nat_le, ℕ, List, [], ◌∷◌, ◌++◌, length}
use Rattle.std.specs.Prelude.{Bool}
use Rattle.verse_code.specs.declared.codes.Code.{Code}
use Rattle.verse_value.specs.Runs.{Line}
use Rattle.verse_value.specs.Val.{Val}
use Rattle.verse_meaning_state.specs.State.{State, Memory, Before, Signal}
use Rattle.verse_meaning_state.specs.Effects.{printed}
use Rattle.verse_code_machine.specs.Tasks as m
use Rattle.verse_code_machine.specs.Tasks.{Life, Handler, Frame, Who, Part, did, runs, Rest, asleep}
use Rattle.verse_code_machine.specs.Tasks.{group, Thread, Task, After, resuming}
use Rattle.verse_code_machine.specs.Tasks.{closing, finishing, Up, begins, branching, spawning}
use Rattle.verse_code_machine.specs.Tasks.{clearing, World, since, beneath_arms, Machine}
use Rattle.verse_code_machine.specs.Tasks.{Step, Next, Over, Turn}
use Rattle.verse_code_machine.specs.Cancelling.{cancelled, world_without}
use Rattle.verse_code_machine.specs.Ends.{woken_in}
use Rattle.verse_code_machine.specs.Runs.{Forest, step}
use Rattle.verse_code_machine_saved.specs.Horizons.{run_from}

-- for a task's path and a number beneath it, the number that stands there
abbrev pub Numbering : Type 0
Numbering = List ℕ → ℕ → ℕ

-- numbers beneath one path keep their order
abbrev pub Rises : Numbering → Type 0
Rises r = (a : List ℕ) (n k : ℕ) → n < k → r a n < r a k

-- numbers below the bound are as they were
abbrev pub Fixed : Numbering → ℕ → Type 0
Fixed r bound = (a : List ℕ) (n : ℕ) → n < bound → r a n ≡ n

module _ (r : Numbering) where
  -- a path that goes on from another
  abbrev pub path_from : List ℕ → List ℕ → List ℕ
  path_from a [] = []
  path_from a (n ∷ x) = r a n ∷ path_from (a ++ n ∷ []) x

  abbrev pub path_as : List ℕ → List ℕ
  path_as x = path_from [] x

  abbrev pub life_as : List ℕ → Life → Life
  life_as a g = record { born = r a g.born; defers = g.defers; noted = g.noted }

  -- of a task whose path is its parent's and its number
  abbrev pub who_as : Who → Who
  who_as w = record {
    path = path_as w.path;
    up = path_as w.up;
    number = r w.up w.number;
    role =
        w.role;
  }

  abbrev pub parts_as : List ℕ → List Part → List Part
  parts_as a [] = []
  parts_as a (did v ∷ gs) = did v ∷ parts_as a gs
  parts_as a (runs n ∷ gs) = runs (r a n) ∷ parts_as a gs

  abbrev pub rest_as : List ℕ → Rest → Rest
  rest_as a (asleep w) = asleep w
  rest_as a (group k p gs) = group k p (parts_as a gs)

-- what the other run has beside: the numbers of its tasks, the signals and the lines before those
-- of this run, and what was printed before its trace
pub record Prior : Type 0 where
  pub numbers : Numbering
  pub signals : List Signal
  pub lines : List Line
  pub before : Before

module _ (z : Prior) where
  abbrev pub memory_as : Memory → Memory
  memory_as m = record { store = m.store; trace = z.lines ++ m.trace }

  abbrev pub state_as : State → State
  state_as s = record {
    memory = memory_as s.memory;
    clock = record s.clock { signals = z.signals ++ s.clock.signals; before = z.before };
  }

  abbrev pub handler_as : List ℕ → Handler → Handler
  handler_as a h = record {
    made = h.made;
    label = h.label;
    stack = h.stack;
    memory = memory_as h.memory;
    life = life_as z.numbers a h.life;
  }

  abbrev pub handlers_as : List ℕ → List Handler → List Handler
  handlers_as a [] = []
  handlers_as a (h ∷ hs) = handler_as a h ∷ handlers_as a hs

  abbrev pub frame_as : List ℕ → Frame → Frame
  frame_as a f = record {
    life = life_as z.numbers a f.life;
    locals = f.locals;
    stack = f.stack;
    place = f.place;
    handlers = handlers_as a f.handlers;
  }

  abbrev pub frames_as : List ℕ → List Frame → List Frame
  frames_as a [] = []
  frames_as a (f ∷ fs) = frame_as a f ∷ frames_as a fs

  abbrev pub thread_as : Thread → Thread
  thread_as x = record {
    who = who_as z.numbers x.who;
    frame = frame_as x.who.path x.frame;
    below =
        frames_as x.who.path x.below;
  }

  abbrev pub task_as : Task → Task
  task_as t = record {
    thread = thread_as t.thread;
    rest =
        rest_as z.numbers t.thread.who.path t.rest;
  }

  abbrev pub tasks_as : List Task → List Task
  tasks_as [] = []
  tasks_as (t ∷ ts) = task_as t ∷ tasks_as ts

  abbrev pub trees_as : Forest → Forest
  trees_as [] = []
  trees_as (ts ∷ tss) = tasks_as ts ∷ trees_as tss

  abbrev pub after_as : After → After
  after_as (resuming x v) = resuming (thread_as x) v
  after_as (closing w v) = closing (who_as z.numbers w) v
  after_as (finishing w entry v) = finishing (who_as z.numbers w) entry v

  abbrev pub up_as : Up → Up
  up_as (begins x k p gs n ls) =
      begins (thread_as x) k p (parts_as z.numbers x.who.path gs) (z.numbers x.who.path n) ls
  up_as (branching x) = branching (thread_as x)
  up_as (spawning x entry ps qs) = spawning (thread_as x) entry (tasks_as ps) (tasks_as qs)
  up_as (clearing a ts) = clearing (after_as a) (tasks_as ts)

  abbrev pub ups_as : List Up → List Up
  ups_as [] = []
  ups_as (u ∷ us) = up_as u ∷ ups_as us

  abbrev pub world_as : World → World
  world_as o = m.world (tasks_as o.pre) (tasks_as o.post) (ups_as o.ups) (record {
    before = trees_as o.trees.before;
    behind = trees_as o.trees.behind;
  })

  abbrev pub machine_as : Machine → Machine
  machine_as x = record {
    who = who_as z.numbers x.who;
    world = world_as x.world;
    state = state_as x.state;
    frame = frame_as x.who.path x.frame;
    below = frames_as x.who.path x.below;
  }

  abbrev pub step_as : Step → Step
  step_as (Next x) = Next (machine_as x)
  step_as (Over e s) = Over e (state_as s)
  step_as (Turn s tss) = Turn (state_as s) (trees_as tss)

  -- the lines before are those that this run counts
  abbrev pub Counts : State → Type 0
  Counts s = s.clock.before.bytes ≡ z.before.bytes + length (printed z.lines)

-- a test of paths is the same under other numbers
abbrev pub SameTest : Numbering → (f g : List ℕ → Bool) → Type 0
SameTest r f g = (x : List ℕ) → g (path_as r x) ≡ f x

-- what is cancelled is so under other numbers, in the same order
abbrev pub CancelledRenumbered : Type 0
CancelledRenumbered = (z : Prior) (f g : List ℕ → Bool) (o : World) → Rises z.numbers →
    SameTest z.numbers f g → (cancelled g (world_as z o) ≡ tasks_as z (cancelled f o)) ×
    (world_without g (world_as z o) ≡ world_as z (world_without f o))

-- what a frame has begun, and the arms of a group
abbrev pub SinceRenumbered : Type 0
SinceRenumbered = (r : Numbering) (a : List ℕ) (n : ℕ) → Rises r →
    SameTest r (since a n) (since (path_as r a) (r a n))

abbrev pub ArmsRenumbered : Type 0
ArmsRenumbered = (r : Numbering) (a : List ℕ) (gs : List Part) → Rises r →
    SameTest r (beneath_arms a gs) (beneath_arms (path_as r a) (parts_as r a gs))

-- an operation does in the other run what it does in this one, where the numbers to come are as
-- they were
abbrev pub OperationRenumbered : Type 0
OperationRenumbered = (z : Prior) (c : Code) (x : Machine) → Rises z.numbers →
    Fixed z.numbers x.state.clock.left → Counts z x.state →
    step c (machine_as z x) ≡ step_as z (step c x)

-- and so does a waking
abbrev pub WakingRenumbered : Type 0
WakingRenumbered = (z : Prior) (n : ℕ) (v : Val) (s : State) (tss : Forest) → Rises z.numbers →
    Fixed z.numbers s.clock.left → Counts z s →
    woken_in n v [] (trees_as z tss) (state_as z s) ≡ step_as z (woken_in n v [] tss s)

-- other numbers alone
abbrev pub renumbered : Numbering → State → Prior
renumbered r s = record { numbers = r; signals = []; lines = []; before = s.clock.before }

-- a run from trees of tasks is the same from trees with other numbers in the same order
abbrev pub RunRenumbered : Type 0
RunRenumbered = (c : Code) (steps until : ℕ) (s : State) (tss uss : Forest) (r q : Numbering) →
    Rises r → Rises q → Fixed r s.clock.left → Fixed q s.clock.left →
    trees_as (renumbered r s) tss ≡ trees_as (renumbered q s) uss →
    run_from c steps until s tss ≡ run_from c steps until s uss

-- beneath each path pairs of numbers, in both of which they rise, none below the bound
abbrev pub Pairs : Type 0
Pairs = List (ℕ × ℕ)

abbrev pub AllAbove : ℕ × ℕ → Pairs → Type 0
AllAbove p [] = Unit {0}
AllAbove p (k ∷ ps) = (p.0 < k.0) × (p.1 < k.1) × AllAbove p ps

abbrev pub Rising : Pairs → Type 0
Rising [] = Unit {0}
Rising (p ∷ ps) = AllAbove p ps × Rising ps

abbrev pub NoneBelow : ℕ → Pairs → Type 0
NoneBelow bound [] = Unit {0}
NoneBelow bound (p ∷ ps) = (bound ≤ p.0) × (bound ≤ p.1) × NoneBelow bound ps

-- the sum of what stands beside, in the last pair whose number is not above
abbrev pub beside : ℕ → Pairs → ℕ → ℕ
beside n [] k = k
beside n (p ∷ ps) k = cond (nat_le p.0 n) (beside n ps p.1) k

abbrev pub turned : Pairs → Pairs
turned [] = []
turned (p ∷ ps) = (p.1, p.0) ∷ turned ps

abbrev pub spread : (List ℕ → Pairs) → Numbering
spread f a n = n + beside n (f a) 0

-- both numbers of a pair come to the same one
abbrev pub Meeting : Pairs → Type 0
Meeting ps = (p : ℕ × ℕ) (front back : Pairs) → ps ≡ front ++ p ∷ back →
    p.0 + beside p.0 ps 0 ≡ p.1 + beside p.1 (turned ps) 0

-- two numberings in the same order have a common one
abbrev pub NumberingsMeet : Type 0
NumberingsMeet = (f : List ℕ → Pairs) (bound : ℕ) → ((a : List ℕ) → Rising (f a)) →
    ((a : List ℕ) → NoneBelow bound (f a)) → (Rises (spread f) × Fixed (spread f) bound) ×
    (Rises (spread (λ a. turned (f a))) × Fixed (spread (λ a. turned (f a))) bound) ×
    ((a : List ℕ) → Meeting (f a))
