-- The verifier accepts the notes of the code of accepted files.
use Rattle.std.specs.Prelude.{◌≡◌, ℕ, ◌≤◌, List, length, map, None}
use Rattle.verse_tree.specs.ItemView.{item_of}
use Rattle.verse_tree.specs.declared.programs.Program.{Program as Made}
use Rattle.verse_accept.specs.Fronts.{Accepts}
use Rattle.verse_verify_faults.specs.Reading.{verdict}
use Rattle.verse_verify_bytes.specs.Bytes.{bytes_of}
use Rattle.verse_accept_sound.specs.Laws.{IsTold}
use Rattle.note_pass.specs.Laws.{code_from, notes_from}

-- the code of a program in so many files, and the notes that `note` writes of it
abbrev pub bytes_from : Made → (count : ℕ) → List ℕ
bytes_from p count = bytes_of (code_from p count) (notes_from p count)

abbrev pub AcceptedNotesAreVerified : Type 0
AcceptedNotesAreVerified = (files : List (List ℕ)) (made : Made) → 1 ≤ length files →
    length files ≤ 16 → Accepts files (map item_of made.tree.items) → IsTold made →
    verdict (code_from made (length files)) (bytes_from made (length files)) ≡ None
