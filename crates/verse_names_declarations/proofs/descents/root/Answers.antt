use Rattle.std.proofs.Common.{◌<◌, length, map, arith}
use Rattle.std.proofs.lemmas.List.{length-map}
use Rattle.verse_rules_types.specs.Types.{class_of, classes_of}
use Rattle.verse_names_tables.specs.Notes.{note_of}
use Rattle.verse_names_declarations.proofs.Descending.{root_tells}
use Rattle.verse_names_declarations.proofs.descents.root.Goals as goal

pub returns : goal.returns
returns c =
    let cs = classes_of c.args.outline.now in
    let within : 0 < length cs = omega (arith, length-map c.args.outline.now class_of) in
    root_tells (map note_of c.args.notes.now) cs c.args.class c.in_ok-copy.field-0 c.args.nothing.now c.requires.empty c.requires.root
    within c.in_ok-copy.ensures.view c.in_ok-copy.ensures.class
