use Rattle.std.proofs.Common.{map}
use Rattle.verse_tree.specs.View.{given_of, givens}
use Rattle.lower_expr.specs.Building.{built}
use Rattle.lower_expr.specs.Endings.{ending_code}
use Rattle.lower_values.proofs.Fields.{fields_next, fields_done}
use Rattle.lower_values.proofs.instances.fields.Goals as goal

pub fields-preserved : goal.fields-preserved
fields-preserved c =
    fields_next c.args.tables.now.program.now c.deref-item-items.result.now c.fields.item-index
    (givens (map given_of c.args.parts.now))
    c.args.first
    c.item-item.result (ending_code c.in_ok-ending.ending) (built c.fields.builder) (built c.ending.new.self)
    _ c.fields-test.true
    c.item-item.is
    c.in_ok-ending.ensures c.in_ok-ending-2.ensures c.fields.invariant

pub returns : goal.returns
returns c =
    fields_done c.args.tables.now.program.now c.deref-item-items.result.now c.fields.item-index
    (givens (map given_of c.args.parts.now))
    c.args.first
    (built c.fields.builder) _ c.fields-test.false c.fields.invariant
