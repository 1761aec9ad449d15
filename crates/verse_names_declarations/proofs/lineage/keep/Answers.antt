use Rattle.std.proofs.Common.{◌<◌, length, map, arith}
use Rattle.verse_rules_types.specs.Types.{classes_of}
use Rattle.verse_names_tables.specs.Notes.{note_of}
use Rattle.verse_names_declarations.proofs.Descending.{set_traced}
use Rattle.verse_names_declarations.proofs.lineage.keep.Goals as goal

pub returns-then-at-len : goal.returns-then-at-len
returns-then-at-len c =
    let within : c.args.class < length c.args.made.now.items = omega arith in
    set_traced (map note_of c.args.notes.now) (classes_of c.args.outline.now) c.args.made.now.items c.args.class c.args.descent
    c.requires.traced c.requires.told within
