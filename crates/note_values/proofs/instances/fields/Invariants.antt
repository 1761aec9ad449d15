use Rattle.std.proofs.Common.{◌≡◌, map}
use Rattle.verse_tree.specs.View.{given_of, givens}
use Rattle.verse_meaning.specs.Programs.{program_of, fields_of}
use Rattle.lower_parts.proofs.Facts.{left_fields}
use Rattle.note_stretches.specs.Noted.{noted, walked}
use Rattle.note_values.proofs.Fields.{fields_walk}
use Rattle.note_values.proofs.instances.fields.Given as goal

-- what is left, from here on, ends as all does from the start
abbrev pub invariant-fields : goal.invariant-fields
invariant-fields l =
    let p = l.tables.program.now in
    let gs = givens (map given_of l.parts) in
    walked (fields_walk p (left_fields l.item-items l.item-index) gs l.first) (noted l.noting)
    ≡ walked (fields_walk p (fields_of (program_of p) l.class) gs l.first) (noted l.fn.noting)
