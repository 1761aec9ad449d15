-- What is kept of small runs, computed; and what that spells.
use Rattle.std.proofs.Common.{◌≡◌, ℕ, [], ◌∷◌, None, Some, refl, true, false}
use Rattle.std.specs.Prelude.{List, Option}
use Rattle.task_tree.specs.declared.tasks.Role.TheVariants.{Root, Arm, Behind}
use Rattle.verse_base.specs.declared.places.Place.{Place}
use Rattle.verse_code.specs.declared.operations.Op.{Op}
use Rattle.verse_code.specs.declared.operations.Op.TheVariants as o
use Rattle.verse_code.specs.declared.codes.Func.{Func}
use Rattle.verse_code.specs.declared.codes.Code.{Code}
use Rattle.verse_value.specs.Val.{unit}
use Rattle.verse_meaning_state.specs.State.{State}
use Rattle.verse_meaning_state.specs.Waits.{till, never, done}
use Rattle.verse_meaning_state.specs.Turns.{Stage, going, closed, broken, amiss, race}
use Rattle.verse_code_machine.specs.Tasks.{root, part, runs, group, asleep}
use Rattle.verse_code_machine.specs.Runs.{Forest, mach_after}
use Rattle.run_save_shots.specs.Kept as k
use Rattle.run_save_shots.specs.Kept.{KeptFrame, KeptTask, Kept}
use Rattle.run_save_shots.specs.Spelling.{state, trees}
use Rattle.run_save_shots.specs.Keeping.{kept}

-- what is kept where the run has ended
abbrev kept_in : Stage Forest → Option Kept
kept_in (closed e s tss) = Some (kept s tss)
kept_in (going s tss) = None
kept_in (broken e s) = None
kept_in (amiss s) = None

function : ℕ → Func
function entry = record { params = 0; locals = 0; entry = entry; suspends = true }

code : List Func → List Op → Code
code functions ops = record {
  files = 1;
  texts = [];
  places = record { file = 0; line = 1; col = 1 } ∷ [];
  functions = functions;
  classes = [];
  main = 0;
  ops = ops;
}

at : ℕ → KeptFrame
at place = record { place = place; locals = []; stack = []; defers = [] }

-- with what a task behind has given at once
above_unit : ℕ → KeptFrame
above_unit place = record { place = place; locals = []; stack = unit ∷ []; defers = [] }

-- ---- one task is asleep

sleeper : Code
sleeper = code (function 0 ∷ []) (o.Sleep 10 ∷ o.Return ∷ [])

of_sleeper : Kept
of_sleeper = record {
  left = 4;
  spent = 1;
  now = 0;
  next = 1;
  bytes = 0;
  lines = 0;
  cells = [];
  spawned = [];
  tasks = record { parent = None; role = Root; root = None; frames = at 0 ∷ []; rest = k.leaf 0 (till 10) } ∷ [];
}

sleeper_kept : kept_in (mach_after sleeper [] 5 0 6) ≡ Some of_sleeper
unfolding sleeper of_sleeper code function at
sleeper_kept = refl

sleeper_again : kept (state of_sleeper) (trees sleeper of_sleeper) ≡ of_sleeper
unfolding sleeper of_sleeper code function at
sleeper_again = refl

-- ---- a race with two arms

racer : Code
racer = code (function 0 ∷ [])
    (o.Group 1 2 0 ∷ o.Arm 4 ∷ o.Arm 6 ∷ o.Return ∷ o.Sleep 10 ∷ o.ArmEnd ∷ o.Forever ∷ o.ArmEnd ∷ [])

of_racer : Kept
of_racer = record {
  left = 6;
  spent = 3;
  now = 0;
  next = 2;
  bytes = 0;
  lines = 0;
  cells = [];
  spawned = [];
  tasks =
      record { parent = None; role = Root; root = None; frames = at 0 ∷ []; rest = k.group (None ∷ None ∷ []) } ∷
      record { parent = Some 0; role = Arm 0; root = None; frames = at 4 ∷ []; rest = k.leaf 0 (till 10) } ∷
      record { parent = Some 0; role = Arm 1; root = None; frames = at 6 ∷ []; rest = k.leaf 1 never } ∷ [];
}

racer_kept : kept_in (mach_after racer [] 9 0 10) ≡ Some of_racer
unfolding racer of_racer code function at
racer_kept = refl

racer_again : kept (state of_racer) (trees racer of_racer) ≡ of_racer
unfolding racer of_racer code function at
racer_again = refl

-- ---- a spawned task is awaited

spawner : Code
spawner = code (function 0 ∷ function 3 ∷ []) (o.Spawn 1 ∷ o.AwaitTask ∷ o.Return ∷ o.Sleep 10 ∷ o.Return ∷ [])

of_spawner : Kept
of_spawner = record {
  left = 7;
  spent = 2;
  now = 0;
  next = 2;
  bytes = 0;
  lines = 0;
  cells = [];
  spawned = None ∷ [];
  tasks =
      record { parent = None; role = Root; root = None; frames = at 1 ∷ []; rest = k.leaf 1 (done 0) } ∷
      record { parent = None; role = Root; root = Some 0; frames = at 3 ∷ []; rest = k.leaf 0 (till 10) } ∷ [];
}

spawner_kept : kept_in (mach_after spawner [] 9 0 10) ≡ Some of_spawner
unfolding spawner of_spawner code function at
spawner_kept = refl

spawner_again : kept (state of_spawner) (trees spawner of_spawner) ≡ of_spawner
unfolding spawner of_spawner code function at
spawner_again = refl

-- ---- a task in the background of each of two frames

brancher : Code
brancher = code (function 0 ∷ function 5 ∷ [])
    (o.Branch 3 ∷ o.Forever ∷ o.ArmEnd ∷ o.Call 1 ∷ o.Return ∷ o.Branch 8 ∷ o.Forever ∷ o.ArmEnd ∷ o.Sleep 10 ∷ o.Return ∷ [])

of_brancher : Kept
of_brancher = record {
  left = 5;
  spent = 4;
  now = 0;
  next = 3;
  bytes = 0;
  lines = 0;
  cells = [];
  spawned = [];
  tasks =
      record {
        parent = None;
        role = Root;
        root = None;
        frames = above_unit 3 ∷ above_unit 8 ∷ [];
        rest = k.leaf 2 (till 10);
      } ∷
      record { parent = Some 0; role = Behind 0; root = None; frames = at 1 ∷ []; rest = k.leaf 0 never } ∷
      record { parent = Some 0; role = Behind 1; root = None; frames = at 6 ∷ []; rest = k.leaf 1 never } ∷ [];
}

brancher_kept : kept_in (mach_after brancher [] 9 0 10) ≡ Some of_brancher
unfolding brancher of_brancher code function at above_unit
brancher_kept = refl

brancher_again : kept (state of_brancher) (trees brancher of_brancher) ≡ of_brancher
unfolding brancher of_brancher code function at above_unit
brancher_again = refl
