-- Small files and parts of files, as they are read.
use Rattle.std.proofs.Common.{◌≡◌, true, false, [], ◌∷◌, ◌++◌, None, Some, Ok, Err, refl}
use Rattle.task_tree.specs.declared.tasks.Role.TheVariants.{Behind}
use Rattle.verse_image.specs.Reading.{flaw, digits_at}
use Rattle.verse_value.specs.Val.{task}
use Rattle.run_save_shots.specs.Kept.{KeptTask, group}
use Rattle.run_save_format.specs.declared.weights.Where.TheVariants.{Cell, Among}
use Rattle.run_save_format.specs.Format.{saved_word}
use Rattle.run_save_format.specs.Values.{wide_at, number_in, small_where, choice_at, each_at, part_at, task_at, parts_at, array_at}
use Rattle.run_save_format.specs.Values.{key_at, key_form_at, pair_at, pairs_from, pairs_at, map_at, value_form_at, part_value_at, value_at}
use Rattle.run_save_format.specs.Reading.{form_at}
use Rattle.run_save_format.specs.Whole.{start_at, file_at, is_disordered}

-- a file without a byte has no line
no_line : file_at [] ≡ Err (flaw 1 0)
unfolding file_at start_at
no_line = refl

-- nor has one whose only line has no line feed
no_end : start_at true false saved_word ≡ Err (flaw 1 0)
unfolding start_at
no_end = refl

-- the run is behind the first line that begins with the word, and not behind one that has it later
behind_line : start_at true false (97 ∷ saved_word ++ 10 ∷ saved_word ++ 98 ∷ 10 ∷ 86 ∷ []) ≡ Ok (86 ∷ [])
unfolding start_at
behind_line = refl

-- the greatest number, and one more
greatest : wide_at (255 ∷ 255 ∷ 255 ∷ 255 ∷ 255 ∷ 255 ∷ 255 ∷ 255 ∷ 255 ∷ 1 ∷ []) ≡ Ok (18446744073709551615, [])
unfolding wide_at digits_at
greatest = refl

too_great : wide_at (128 ∷ 128 ∷ 128 ∷ 128 ∷ 128 ∷ 128 ∷ 128 ∷ 128 ∷ 128 ∷ 2 ∷ []) ≡ Err (flaw 4 10)
unfolding wide_at digits_at
too_great = refl

-- outside of cells a task names an entry, and in a cell it may have any number
named : value_at (Among 2) 5 (8 ∷ 1 ∷ []) ≡ Ok ((task 1, 5), [])
unfolding value_at part_value_at part_at choice_at value_form_at task_at small_where number_in wide_at digits_at
named = refl

not_named : value_at (Among 2) 5 (8 ∷ 2 ∷ []) ≡ Err (flaw 5 1)
unfolding value_at part_value_at part_at choice_at value_form_at task_at small_where number_in wide_at digits_at
not_named = refl

later : value_at (Cell 9) 5 (8 ∷ 2 ∷ []) ≡ Ok ((task 2, 6), [])
unfolding value_at part_value_at part_at choice_at value_form_at task_at small_where number_in wide_at digits_at
later = refl

-- past the limit of all cells it fails at the cell
heavy : value_at (Cell 9) 15999999 (10 ∷ 1 ∷ 0 ∷ []) ≡ Err (flaw 5 9)
unfolding value_at part_value_at part_at choice_at value_form_at array_at parts_at each_at number_in wide_at digits_at
heavy = refl

-- distinct keys: the second one that is the same
twice : value_at (Among 0) 0 (11 ∷ 2 ∷ 2 ∷ 7 ∷ 0 ∷ 2 ∷ 7 ∷ 0 ∷ []) ≡ Err (flaw 5 3)
unfolding value_at part_value_at part_at choice_at value_form_at map_at pairs_at pairs_from pair_at key_at key_form_at number_in wide_at digits_at
twice = refl

-- a form that there is not, and one that does not suit
no_form : form_at 4 0 (4 ∷ []) ≡ Err (flaw 4 1)
unfolding form_at number_in wide_at digits_at
no_form = refl

no_suit : form_at 4 0 (3 ∷ []) ≡ Err (flaw 5 1)
unfolding form_at number_in wide_at digits_at
no_suit = refl

-- a sibling behind one that is deeper
child : KeptTask
child = record { parent = Some 0; role = Behind 2; root = None; frames = []; rest = group [] }

deeper_first : is_disordered (Some 0) (Behind 1) child ≡ true
unfolding child
deeper_first = refl

other_parent : is_disordered (Some 1) (Behind 1) child ≡ false
unfolding child
other_parent = refl
