use Rattle.std.specs.Prelude.{map}
use Rattle.verse_rules_types.specs.Types.{classes_of}
use Rattle.verse_names_tables.specs.Notes.{note_of}
use Rattle.verse_names_items.proofs.Straight.{no_circle}
use Rattle.verse_names_items.proofs.rules.is_circular.Goals as goal

pub returns-in-Some : goal.returns-in-Some
returns-in-Some c = no_circle (map note_of c.args.known.now.lineage.notes.items) (classes_of c.args.known.now.lineage.outline)
    c.args.number c.in-Some.field-0.now c.in-Some.ensures
