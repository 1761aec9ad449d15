-- Small files that have a fault, and what is read of the front before it.
use Rattle.std.proofs.Common.{◌≡◌, ℕ, List, [], ◌∷◌, ◌++◌, Err, refl}
use Rattle.verse_image.specs.Reading.{flaw, digits_at, number_at, within_at, many_at, table_at, function_at, main_at, parts_at, form_at}
use Rattle.verse_image.specs.Reading.{op_at, ops_at, letter_at, version_at, head_at, tables_at, image_at}
use Rattle.run_save_format.specs.Faults.{FrontOf}
use Rattle.run_save_format.specs.Format.{mark, saved_word}
use Rattle.run_save_format.specs.Values.{wide_at, number_in, each_at}
use Rattle.run_save_format.specs.Reading.{code_at, numbers_at, cells_at, maybe_at, entry_at, spawned_at, tasks_at, parts_found_at}
use Rattle.run_save_format.specs.Whole.{start_at, run_at, file_at}

-- what stands behind the line `= saved `
saved : List ℕ → List ℕ
saved bytes = saved_word ++ 10 ∷ bytes

-- another byte where the mark begins, and none there
other_mark : file_at (saved (7 ∷ [])) ≡ Err (flaw 1 1)
unfolding file_at start_at run_at parts_found_at letter_at saved
other_mark = refl

before_mark : file_at (saved []) ≡ Err (flaw 3 0)
unfolding file_at start_at run_at parts_found_at letter_at saved
before_mark = refl

-- an image of no byte is none, whether bytes follow or not
no_image : file_at (saved (mark ++ 0 ∷ 7 ∷ [])) ≡ Err (flaw 2 1)
unfolding file_at start_at run_at parts_found_at letter_at code_at wide_at digits_at image_at head_at saved
no_image = refl

before_no_image : file_at (saved (mark ++ 0 ∷ [])) ≡ Err (flaw 2 0)
unfolding file_at start_at run_at parts_found_at letter_at code_at wide_at digits_at image_at head_at saved
before_no_image = refl

-- a code of one function and one operation
image : List ℕ
image = 86 ∷ 83 ∷ 73 ∷ 77 ∷ 1 ∷ 1 ∷ 1 ∷ 0 ∷ 0 ∷ 1 ∷ 0 ∷ 0 ∷ 0 ∷ 0 ∷ 0 ∷ 0 ∷ 1 ∷ []

-- a run of it that has spent one step and has no cells and no tasks, with these entries
run : List ℕ → List ℕ
run entries = mark ++ 17 ∷ image ++ 0 ∷ 1 ∷ 0 ∷ 0 ∷ 0 ∷ 0 ∷ 0 ∷ entries ++ 0 ∷ []

-- a byte behind a run
byte_behind : run_at (run (0 ∷ []) ++ 7 ∷ []) ≡ Err (flaw 6 1)
unfolding run_at parts_found_at letter_at code_at wide_at digits_at image_at head_at version_at within_at number_at tables_at table_at
    many_at function_at main_at ops_at op_at form_at parts_at numbers_at number_in cells_at each_at spawned_at tasks_at image run
byte_behind = refl

before_byte : FrontOf 6 (run_at (run (0 ∷ [])))
unfolding run_at parts_found_at letter_at code_at wide_at digits_at image_at head_at version_at within_at number_at tables_at table_at
    many_at function_at main_at ops_at op_at form_at parts_at numbers_at number_in cells_at each_at spawned_at tasks_at image run
before_byte = refl

-- and behind one whose entry has no task, which breaks a rule on the whole list
behind_broken : run_at (run (1 ∷ 0 ∷ []) ++ 7 ∷ []) ≡ Err (flaw 6 1)
unfolding run_at parts_found_at letter_at code_at wide_at digits_at image_at head_at version_at within_at number_at tables_at table_at
    many_at function_at main_at ops_at op_at form_at parts_at numbers_at number_in cells_at each_at spawned_at tasks_at image run
    entry_at maybe_at
behind_broken = refl

broken : run_at (run (1 ∷ 0 ∷ [])) ≡ Err (flaw 5 2)
unfolding run_at parts_found_at letter_at code_at wide_at digits_at image_at head_at version_at within_at number_at tables_at table_at
    many_at function_at main_at ops_at op_at form_at parts_at numbers_at number_in cells_at each_at spawned_at tasks_at image run
    entry_at maybe_at
broken = refl
