use Rattle.std.proofs.Common.{map}
use Rattle.verse_tree.specs.View.{given_of, givens}
use Rattle.note_stretches.specs.Noted.{noted}
use Rattle.note_values.proofs.Fields.{fields_next, fields_done}
use Rattle.note_values.proofs.instances.fields.Goals as goal

pub fields-preserved : goal.fields-preserved
fields-preserved c =
    fields_next c.args.tables.now.program.now c.deref-item-items.result.now c.fields.item-index
    (givens (map given_of c.args.parts.now)) c.args.first
    c.item-item.result (noted c.fields.noting) (noted c.field.new.noting)
    _ c.fields-test.true c.item-item.is c.in_ok-field.ensures c.fields.invariant

pub returns : goal.returns
returns c =
    fields_done c.args.tables.now.program.now c.deref-item-items.result.now c.fields.item-index
    (givens (map given_of c.args.parts.now)) c.args.first
    (noted c.fields.noting) _ c.fields-test.false c.fields.invariant
