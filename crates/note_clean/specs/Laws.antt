-- The notes of the code of accepted files break no rule.
use Rattle.std.specs.Prelude.{◌≡◌, ℕ, ◌≤◌, List, length, map, None}
use Rattle.verse_tree.specs.ItemView.{item_of}
use Rattle.verse_tree.specs.declared.programs.Program.{Program as Made}
use Rattle.verse_accept.specs.Fronts.{Accepts}
use Rattle.verse_verify_faults.specs.Faults.{notes_fault}
use Rattle.verse_accept_sound.specs.Laws.{IsTold}
use Rattle.note_pass.specs.Laws.{code_from, notes_from}

abbrev pub AcceptedNotesAreClean : Type 0
AcceptedNotesAreClean = (files : List (List ℕ)) (made : Made) → 1 ≤ length files →
    length files ≤ 16 → Accepts files (map item_of made.tree.items) → IsTold made → (count : ℕ) →
    notes_fault (code_from made count) (notes_from made count) ≡ None
