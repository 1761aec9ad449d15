-- What is kept of a state and of the trees of tasks.
use Rattle.std.specs.Prelude.{◌≡◌, ℕ, suc, pred, ◌+◌, ◌-◌, cond, List, [], ◌∷◌, ◌++◌, length, map}
use Rattle.std.specs.Prelude.{reverse, Option, Some, None, option_map}
use Rattle.task_tree.specs.declared.tasks.Role as r
use Rattle.task_tree.specs.declared.tasks.Role.TheVariants.{Root, Arm, Behind}
use Rattle.verse_value.specs.Val.{Val}
use Rattle.verse_meaning_state.specs.State.{State}
use Rattle.verse_meaning_state.specs.Waits.{eqn, ltn}
use Rattle.verse_meaning_state.specs.Effects.{printed_by}
use Rattle.verse_code_machine.specs.Tasks.{Frame, Role, root, part, Part, did, runs, Rest, asleep}
use Rattle.verse_code_machine.specs.Tasks.{group, Task, same_path}
use Rattle.verse_code_machine.specs.Runs.{Forest}
use Rattle.run_save_shots.specs.Kept as k
use Rattle.run_save_shots.specs.Kept.{KeptFrame, KeptRest, KeptTask, Kept}
use Rattle.run_save_shots.specs.Lists.{count, Reordered}

-- ---- the order

-- A tree has each task behind all that it encloses. Here it stands before them, and so before the
-- later children of its parent.
abbrev pub behind_parent : Task → List Task → List Task
behind_parent y [] = y ∷ []
behind_parent y (x ∷ xs) = cond (same_path y.thread.who.up x.thread.who.path) (x ∷ y ∷ xs) (x ∷ behind_parent y xs)

abbrev pub walked : List Task → List Task
walked [] = []
walked (y ∷ ys) = behind_parent y (walked ys)

-- all tasks, each before those that it encloses, and children in the order in which they began
abbrev pub walk : Forest → List Task
walk [] = []
walk (ts ∷ tss) = walked ts ++ walk tss

-- ---- one task

-- where the task of a path stands
abbrev pub place_of : List ℕ → List Task → Option ℕ
place_of path [] = None
place_of path (y ∷ ys) = cond (same_path path y.thread.who.path) (Some 0)
    (option_map suc (place_of path ys))

abbrev pub task_of : List ℕ → List Task → Option Task
task_of path [] = None
task_of path (y ∷ ys) = cond (same_path path y.thread.who.path) (Some y) (task_of path ys)

-- the place of an arm by its number
abbrev pub arm_of : ℕ → List Part → Option ℕ
arm_of n [] = None
arm_of n (did v ∷ gs) = option_map suc (arm_of n gs)
arm_of n (runs m ∷ gs) = cond (eqn n m) (Some 0) (option_map suc (arm_of n gs))

abbrev pub arm_in : ℕ → Rest → Option ℕ
arm_in n (asleep w) = None
arm_in n (group kind p gs) = arm_of n gs

-- of the task's frames the highest that began before, by how many are below it
abbrev pub depth_of : ℕ → Task → ℕ
depth_of n y = pred (count (λ (f : Frame). ltn n f.life.born) (y.thread.frame ∷ y.thread.below))

abbrev pub arm_or : Option ℕ → ℕ → r.Role
arm_or None depth = Behind depth
arm_or (Some place) depth = Arm place

-- the child of a number, beneath its parent
abbrev pub role_in : Option Task → ℕ → r.Role
role_in None n = Root
role_in (Some y) n = arm_or (arm_in n y.rest) (depth_of n y)

abbrev pub entry_of : Role → Option ℕ
entry_of (root entry) = entry
entry_of part = None

-- a frame stands behind its operation and so many arms
abbrev pub frame : (arms : ℕ) → Frame → KeptFrame
frame arms f = record {
  place = pred (f.place - arms);
  locals = f.locals;
  stack = reverse f.stack;
  defers = reverse f.life.defers;
}

abbrev pub arm : Part → Option Val
arm (did v) = Some v
arm (runs n) = None

abbrev pub arms_behind : Rest → ℕ
arms_behind (asleep w) = 0
arms_behind (group kind p gs) = length gs

abbrev pub rest : Rest → KeptRest
rest (asleep w) = k.leaf w.number w.cause
rest (group kind p gs) = k.group (map arm gs)

-- among all tasks in their order
abbrev pub task : List Task → Task → KeptTask
task ys y = record {
  parent = place_of y.thread.who.up ys;
  role = role_in (task_of y.thread.who.up ys) y.thread.who.number;
  root = entry_of y.thread.who.role;
  frames = map (frame 0) (reverse y.thread.below) ++ frame (arms_behind y.rest) y.thread.frame ∷ [];
  rest = rest y.rest;
}

-- ---- all

abbrev pub tasks : List Task → List KeptTask
tasks ys = map (task ys) ys

-- no signals, and of the lines how much was printed
abbrev pub kept : State → Forest → Kept
kept s tss = record {
  left = s.clock.left;
  spent = s.clock.spent;
  now = s.clock.now;
  next = s.clock.next;
  bytes = printed_by s;
  lines = s.clock.before.lines + length s.memory.trace;
  cells = s.memory.store;
  spawned = s.clock.results;
  tasks = tasks (walk tss);
}

-- this is kept of the state and the trees, which may stand in any order
pub record Spells (x : Kept) (s : State) (tss : Forest) : Type 0 where
  pub ordered : Forest
  pub reordered : Reordered tss ordered
  pub is : x ≡ kept s ordered
