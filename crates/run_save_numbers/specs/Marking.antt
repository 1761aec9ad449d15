-- What is kept of the children of a task while the list is walked from its end.
use Rattle.std.specs.Prelude.{ℕ, zero, suc, ◌+◌, ◌*◌, nat_lt, max, if◌then◌else◌, List, [], ◌∷◌}
use Rattle.std.specs.Prelude.{length, map, set, get_or, replicate, Option, Some, None}
use Rattle.task_tree.specs.declared.tasks.Role.{Role}
use Rattle.task_tree.specs.declared.tasks.Role.TheVariants.{Root, Arm, Behind}
use Rattle.run_save_shots.specs.Kept.{KeptTask, Kept}
use Rattle.run_save_shots.specs.Fitting.{arms_of}
use Rattle.run_save_shots.specs.Naming.{number_at}
use Rattle.run_save_numbers.specs.Numbers.{Numbers}

-- Of each kind of children the number of the one that was seen last, which is the first of the
-- list: of those in the background of a frame, by its depth; of those in the background of none;
-- and of the arm of a place.
abbrev pub no_marks : (left : ℕ) → KeptTask → Numbers
no_marks left t = record {
  own = left;
  borns = replicate (length t.frames) left;
  above = left;
  arms = replicate (length (arms_of t.rest)) left;
}

abbrev pub nothing : Numbers
nothing = record { own = 0; borns = []; above = 0; arms = [] }

abbrev pub marked : ℕ → Role → Numbers → Numbers
marked n Root m = m
marked n (Arm place) m = record m { above = n; arms = set m.arms place n }
marked n (Behind depth) m =
    if nat_lt depth (length m.borns) then record m { borns = set m.borns depth n } else
    record m { above = n }

-- a child more of the task at a place
abbrev pub with_child : List Numbers → Option ℕ → Role → ℕ → List Numbers
with_child ms None role n = ms
with_child ms (Some parent) role n = set ms parent (marked n role (get_or ms parent nothing))

-- the tasks from a place on, the last one first
abbrev pub with_children : Kept → List Numbers → List KeptTask → List Numbers
with_children s ms [] = ms
with_children s ms (t ∷ ts) =
    with_child (with_children s ms ts) t.parent t.role (number_at s (t ∷ ts))

-- the greatest of these numbers
abbrev pub carry : (above : ℕ) → List ℕ → ℕ
carry above [] = above
carry above (n ∷ ns) = max (carry above ns) n

abbrev pub lifted : (above : ℕ) → List ℕ → List ℕ
lifted above [] = []
lifted above (n ∷ ns) = (carry above (n ∷ ns) + suc (length ns)) ∷ lifted above ns

-- the lowest frame began with the task
abbrev pub with_first : ℕ → List ℕ → List ℕ
with_first own [] = []
with_first own (n ∷ ns) = own ∷ ns

abbrev pub settled : ℕ → Numbers → Numbers
settled own m = record {
  own = own;
  borns = with_first own (lifted m.above m.borns);
  above = m.above;
  arms = m.arms;
}

abbrev pub settled_all : Kept → List Numbers → List Numbers
settled_all s [] = []
settled_all s (m ∷ ms) = settled (s.left + suc s.spent * suc (length ms)) m ∷ settled_all s ms
