use Rattle.std.proofs.Common.{map}
use Rattle.verse_tree.specs.View.{given_of, givens}
use Rattle.lower_expr.specs.Building.{built}
use Rattle.lower_expr.specs.Locals.{scope_of}
use Rattle.lower_values.proofs.Fields.{class_done}
use Rattle.lower_values.proofs.instances.of_class.Goals as goal

pub returns-clause-code : goal.returns-clause-code
returns-clause-code g c =
    class_done c.args.lowering.now.tables.now.program.now c.args.class c.args.place
    (givens (map given_of c.args.parts.now))
    (scope_of c.args.scopes.now) c.args.around c.in_ok-first.first (built c.args.builder.now) (built c.all.new.builder)
    (built c.fields.new.builder)
    (built c.placed.new.self) c.in_ok-first.ensures c.in_ok-all.ensures.code c.in_ok-fields.ensures
    c.in_ok-placed.ensures
