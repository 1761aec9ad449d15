-- The state and the trees of tasks that what is kept of a run spells.
use Rattle.std.specs.Prelude.{ℕ, zero, suc, ◌+◌, cond, List, [], ◌∷◌, ◌++◌, length, map, reverse}
use Rattle.std.specs.Prelude.{Option, Some, None}
use Rattle.verse_base.specs.declared.places.Place.{Place}
use Rattle.verse_code.specs.declared.codes.Code.{Code}
use Rattle.verse_value.specs.Val.{Val}
use Rattle.verse_meaning_state.specs.State.{State}
use Rattle.verse_meaning_state.specs.Turns.{sync}
use Rattle.verse_code_machine.specs.Tasks.{Frame, root, part, Role, Who, Part, did, runs, Rest}
use Rattle.verse_code_machine.specs.Tasks.{asleep, group, Task, thread, same_path}
use Rattle.verse_code_machine.specs.Acts.{kind_of, place_at}
use Rattle.verse_code_machine.specs.Runs.{Forest}
use Rattle.run_save_shots.specs.Kept as k
use Rattle.run_save_shots.specs.Kept.{KeptFrame, KeptRest, KeptTask, Kept}
use Rattle.run_save_shots.specs.Fitting.{Stand, gathers, task_stand, arms_of}
use Rattle.run_save_shots.specs.Naming.{number_at, born_at, arm_at, named, parent_in}

-- the state: no signal, no line, and of what was printed how much
abbrev pub state : Kept → State
state s = record {
  memory = record { store = s.cells; trace = [] };
  clock = record {
    left = s.left;
    spent = s.spent;
    now = s.now;
    next = s.next;
    results = s.spawned;
    signals = [];
    before = record { bytes = s.bytes; lines = s.lines };
  };
}

-- ---- one task

-- a frame goes on behind its operation and so many arms
abbrev pub frame : (born arms : ℕ) → KeptFrame → Frame
frame born arms f = record {
  life = record { born = born; defers = reverse f.defers; noted = [] };
  locals = f.locals;
  stack = reverse f.stack;
  place = suc f.place + arms;
  handlers = [];
}

-- the arms behind the operation at which the top frame stands
abbrev pub arms_behind : List KeptFrame → List (Option Val) → ℕ
arms_behind [] arms = length arms
arms_behind (f ∷ fs) arms = 0

-- the number of a frame: of the lowest the task's own
abbrev pub born : Kept → (at depth : ℕ) → List KeptTask → (frames : ℕ) → List KeptTask → ℕ
born s at zero own frames ts = number_at s own
born s at (suc depth) own frames ts = born_at s at (suc depth) frames ts

-- what stands in the source where there is no group
abbrev pub nowhere : Place
nowhere = record { file = 0; line = 0; col = 0 }

abbrev pub or_nowhere : Option Place → Place
or_nowhere None = nowhere
or_nowhere (Some p) = p

abbrev pub gathered : Code → Stand → List Part → Rest
gathered c (gathers k m p) gs = group (kind_of k) (or_nowhere (place_at c p)) gs
gathered c stand gs = group sync nowhere gs

module _ (c : Code) (s : Kept) where
  -- The task at a place. Those that stand behind it in the list are the last argument.
  module _ (at : ℕ) (t : KeptTask) (ts : List KeptTask) where
    -- the frames from a depth on, and those below; the top one is the first
    abbrev pub frames_from : ℕ → List KeptFrame → List Frame → List Frame
    frames_from depth [] below = below
    frames_from depth (f ∷ fs) below =
        frames_from (suc depth) fs (frame (born s at depth (t ∷ ts) (suc (length fs)) ts)
        (arms_behind fs (arms_of t.rest)) f ∷ below)

    -- the arms from a place on
    abbrev pub parts_from : ℕ → List (Option Val) → List Part
    parts_from place [] = []
    parts_from place (Some v ∷ vs) = did v ∷ parts_from (suc place) vs
    parts_from place (None ∷ vs) = runs (arm_at s at place ts) ∷ parts_from (suc place) vs

    abbrev pub rest : KeptRest → Rest
    rest (k.leaf number cause) = asleep (record { number = number; cause = cause })
    rest (k.group arms) = gathered c (task_stand c t) (parts_from 0 arms)

    -- with its name; a task without a frame is none
    abbrev pub with_frames : Who → List Frame → List Task
    with_frames w [] = []
    with_frames w (f ∷ below) = record { thread = thread w f below; rest = rest t.rest } ∷ []

    abbrev pub who : List Who → Who
    who ws = named (parent_in ws t.parent) t.root (number_at s (t ∷ ts))

    abbrev pub task : List Who → List Task
    task ws = with_frames (who ws) (frames_from 0 t.frames [])

  -- the tasks of a rest of the list, where those before it have these names
  abbrev pub tasks_from : List Who → List KeptTask → List Task
  tasks_from ws [] = []
  tasks_from ws (t ∷ ts) = task (length ws) t ts ws ++
      tasks_from (ws ++ who (length ws) t ts ws ∷ []) ts

-- ---- their trees

-- a task stands behind all that it encloses, so its next child stands before it
abbrev pub before_parent : Task → List Task → List Task
before_parent y [] = []
before_parent y (x ∷ xs) = cond (same_path y.thread.who.up x.thread.who.path) (y ∷ x ∷ xs)
    (x ∷ before_parent y xs)

abbrev pub planted : Role → Task → Forest → Forest
planted (root entry) y tss = tss ++ (y ∷ []) ∷ []
planted part y tss = map (before_parent y) tss

abbrev pub grown : Forest → List Task → Forest
grown tss [] = tss
grown tss (y ∷ ys) = grown (planted y.thread.who.role y tss) ys

-- the trees of tasks
abbrev pub trees : Code → Kept → Forest
trees c s = grown [] (tasks_from c s [] s.tasks)
