use Rattle.std.proofs.Common.{◌≡◌, map}
use Rattle.verse_tree.specs.View.{given_of, givens}
use Rattle.verse_meaning.specs.Programs.{program_of, fields_of}
use Rattle.lower_code.specs.Lowering.{field_ops}
use Rattle.lower_lookup.specs.Types.{differ_of}
use Rattle.lower_expr.specs.Building.{built, made}
use Rattle.lower_parts.proofs.Facts.{left_fields}
use Rattle.lower_values.proofs.instances.fields.Given as goal

-- what is left, from here on, ends as all does from the start
abbrev pub invariant-fields : goal.invariant-fields
invariant-fields l =
    let p = l.tables.program.now in
    let gs = givens (map given_of l.parts) in
    made (field_ops (program_of p) (differ_of p) (left_fields l.item-items l.item-index) gs l.first) (built l.builder)
    ≡ made (field_ops (program_of p) (differ_of p) (fields_of (program_of p) l.class) gs l.first) (built l.fn.builder)
