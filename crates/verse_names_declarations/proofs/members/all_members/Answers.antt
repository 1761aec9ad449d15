use Rattle.std.proofs.Common.{map}
use Rattle.verse_rules_types.specs.Types.{classes_of}
use Rattle.verse_names_tables.specs.Notes.{note_of}
use Rattle.verse_names_declarations.proofs.Descending.{all_told_ok}
use Rattle.verse_names_declarations.proofs.members.all_members.Goals as goal

pub returns-in-Some : goal.returns-in-Some
returns-in-Some c =
    let traced = c.args.known.now.lineage in
    all_told_ok (map note_of traced.notes.items) (classes_of traced.outline) c.args.class c.in-Some.descent.now c.copy.result
    c.in-Some.ensures c.copy.ensures.view
