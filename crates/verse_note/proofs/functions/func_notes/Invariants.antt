-- What is noted and what is left are the notes of all functions.
use Rattle.std.proofs.Common.{◌≡◌, ◌++◌, length, map}
use Rattle.verse_code.specs.declared.codes.Code.{Code}
use Rattle.lower_items.specs.Views.{body_view}
use Rattle.verse_verify_notes.specs.View.{func_of}
use Rattle.verse_note.specs.Making.{notes_from}
use Rattle.verse_note.proofs.Bodies.{left_bodies}
use Rattle.verse_note.proofs.functions.func_notes.Given as goal

abbrev pub invariant-bodies : goal.invariant-bodies
invariant-bodies l =
    (code : Code) →
    map func_of l.notes.items
    ++ notes_from l.program code (length l.classes) l.number (left_bodies l.bodies l.body-index)
    ≡ notes_from l.program code (length l.classes) 0 (map body_view l.bodies)
