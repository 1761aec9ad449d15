use Rattle.std.proofs.Common.{map}
use Rattle.verse_rules_types.specs.Types.{classes_of}
use Rattle.verse_names_tables.specs.Notes.{note_of}
use Rattle.verse_names_declarations.proofs.Descending.{traced_in}
use Rattle.verse_names_declarations.proofs.lineage.descent_at.Goals as goal

pub returns : goal.returns
returns c = traced_in (map note_of c.args.notes.now) (classes_of c.args.outline.now) c.args.made.now c.args.class c.entry.result c.requires
    c.entry.ensures
