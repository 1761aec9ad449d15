-- What a `Shot` keeps.
use Rattle.std.specs.Prelude.{ℕ, map, option_map}
use Rattle.std.specs.Global.{Vec}
use Rattle.verse_value.specs.declared.runs.CellKind.{CellKind}
use Rattle.verse_value.specs.declared.values.Value.{Value}
use Rattle.verse_value.specs.View.{val_of, vals_of}
use Rattle.verse_value.specs.Store.{Cell}
use Rattle.sim_clock.specs.declared.waits.WaitKind.{WaitKind}
use Rattle.sim_clock.specs.declared.waits.WaitKind.TheVariants as kind
use Rattle.verse_meaning_state.specs.State.{Given}
use Rattle.verse_meaning_state.specs.Waits.{Cause, till, never, done, heard}
use Rattle.run_save_shots.specs.declared.shots.FrameShot.{FrameShot}
use Rattle.run_save_shots.specs.declared.shots.RestShot.{RestShot}
use Rattle.run_save_shots.specs.declared.shots.RestShot.TheVariants as rest
use Rattle.run_save_shots.specs.declared.shots.TaskShot.{TaskShot}
use Rattle.run_save_shots.specs.declared.shots.Shot.{Shot}
use Rattle.run_save_shots.specs.Kept.{KeptFrame, KeptRest, leaf, group, KeptTask, Kept}

abbrev pub cell_of : CellKind × Vec Value → Cell
cell_of c = record { kind = c.0; slots = vals_of c.1.items }

abbrev pub given_of : Value × ℕ → Given
given_of g = record { value = val_of g.0; moment = g.1 }

abbrev pub cause_of : WaitKind → Cause
cause_of (kind.At moment) = till moment
cause_of kind.Never = never
cause_of (kind.Task entry) = done entry
cause_of (kind.Event cell) = heard cell

abbrev pub frame_of : FrameShot → KeptFrame
frame_of f = record {
  place = f.place;
  locals = vals_of f.locals.items;
  stack = vals_of f.stack.items;
  defers = f.defers.items;
}

abbrev pub rest_of : RestShot → KeptRest
rest_of (rest.Leaf number cause) = leaf number (cause_of cause)
rest_of (rest.Group arms) = group (map (option_map val_of) arms.items)

abbrev pub task_of : TaskShot → KeptTask
task_of t = record {
  parent = t.parent;
  role = t.role;
  root = t.root;
  frames = map frame_of t.frames.items;
  rest = rest_of t.rest;
}

abbrev pub shot_of : Shot → Kept
shot_of s = record {
  left = s.left;
  spent = s.spent;
  now = s.now;
  next = s.next;
  bytes = s.bytes;
  lines = s.lines;
  cells = map cell_of s.cells.items;
  spawned = map (option_map given_of) s.spawned.items;
  tasks = map task_of s.tasks.items;
}
