use Rattle.std.proofs.Common.{◌≡◌, map, length}
use Rattle.verse_names_tables.specs.Notes.{note_of}
use Rattle.verse_names_declarations.specs.Members.{with_notes, members_of, members_view}
use Rattle.verse_names_declarations.proofs.members.members_of.Given as goal

-- what is left, from here on, ends as all does from the start
abbrev pub invariant-classes : goal.invariant-classes
invariant-classes l =
    (with_notes (map note_of l.known.lineage.notes.items) l.class l.line (members_view l.found) ≡
    members_of (map note_of l.known.lineage.notes.items) l.class l.fn.line) × (l.found.class ≡ l.class)

abbrev pub decreases-classes : goal.decreases-classes
decreases-classes l = length l.line
