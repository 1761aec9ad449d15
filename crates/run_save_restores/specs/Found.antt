-- What is found in the bytes of a saved run.
use Rattle.std.specs.Prelude.{◌≡◌, List, ℕ, length, Ok}
use Rattle.verse_code.specs.declared.codes.Code.{Code}
use Rattle.run_save_shots.specs.Kept.{Kept}
use Rattle.run_save_format.specs.Format.{Saved}
use Rattle.run_save_format.specs.Reading.{Found, parts_found_at}

-- there is a place for each cell, each spawned entry and each task
pub record HasPlaces (s : Kept) (m : Found) : Type 0 where
  pub cells : length m.cell_lefts ≡ length s.cells
  pub entries : length m.entry_lefts ≡ length s.spawned
  pub tasks : length m.task_lefts ≡ length s.tasks

-- in the bytes of a saved run its parts are found
abbrev pub SavedIsFound : Type 0
SavedIsFound =
    (c : Code) (s : Kept) (bytes : List ℕ) → Saved c s bytes →
    (m : Found) × (parts_found_at bytes ≡ Ok m) × (m.code ≡ c) × (m.kept ≡ s) × HasPlaces s m
