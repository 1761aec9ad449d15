-- The notes of the code of accepted files fulfil the rules.
use Rattle.std.specs.Prelude.{ℕ, ◌≤◌, List, length, map}
use Rattle.verse_tree.specs.ItemView.{item_of}
use Rattle.verse_tree.specs.declared.programs.Program.{Program as Made}
use Rattle.verse_accept.specs.Fronts.{Accepts}
use Rattle.verse_code.specs.declared.codes.Code.{Code}
use Rattle.verse_meaning.specs.Programs.{program_of}
use Rattle.verse_verify_kept.specs.Rules.{Verified}
use Rattle.verse_verify_faults.specs.Spots.{Table}
use Rattle.verse_verify_faults.specs.Spots as spots
use Rattle.lower_code.specs.Programs.{code_of}
use Rattle.lower_lookup.specs.Types.{differ_of}
use Rattle.lower_notes.specs.Programs as notes
use Rattle.note_sorts.specs.Tabled.{found_of}
use Rattle.verse_accept_sound.specs.Laws.{IsTold}

-- the code that `lower` makes of a program, in so many files
abbrev pub code_from : Made → (count : ℕ) → Code
code_from p count = code_of (program_of p) (differ_of p) count

-- and the notes that `note` makes of the program with that code
abbrev pub notes_from : Made → (count : ℕ) → Table
notes_from p count =
    notes.notes_of (program_of p) (found_of p) (differ_of p) (code_from p count)

abbrev pub AcceptedNotesPass : Type 0
AcceptedNotesPass = (files : List (List ℕ)) (made : Made) → 1 ≤ length files →
    length files ≤ 16 → Accepts files (map item_of made.tree.items) → IsTold made → (count : ℕ) →
    Verified (code_from made count) (spots.notes_of (notes_from made count))
