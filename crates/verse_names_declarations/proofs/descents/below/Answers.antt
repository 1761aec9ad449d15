use Rattle.std.proofs.Common.{◌≡◌, ◌<◌, ◌+◌, length, map, arith}
use Rattle.std.proofs.lemmas.List.{length-map}
use Rattle.verse_rules_types.specs.Types.{class_of, classes_of}
use Rattle.verse_names_tables.specs.Notes.{note_of}
use Rattle.verse_names_declarations.proofs.Descending.{below_tells}
use Rattle.verse_names_declarations.proofs.descents.below.Goals as goal

pub returns : goal.returns
returns c =
    let cs = classes_of c.args.outline.now in
    let next : c.in-Some.depth ≡ c.args.above.now.depth + 1 = omega arith in
    let within : c.in-Some.depth < length cs = omega (arith, length-map c.args.outline.now class_of) in
    below_tells (map note_of c.args.notes.now) cs c.args.parent c.args.class c.in-Some.depth c.args.above.now c.in_ok-copy.field-0
    c.requires.above c.requires.parent next within c.in_ok-copy.ensures.view c.in_ok-copy.ensures.class
