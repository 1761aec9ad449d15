use Rattle.std.proofs.Common.{map}
use Rattle.verse_tree.specs.View.{given_of, givens}
use Rattle.lower_expr.specs.Locals.{scope_of}
use Rattle.note_stretches.specs.Noted.{noted}
use Rattle.note_values.proofs.Fields.{class_done}
use Rattle.note_values.proofs.instances.of_class.Goals as goal

pub returns-clause-states : goal.returns-clause-states
returns-clause-states g c =
    class_done c.args.noter.now.tables.now.program.now c.args.class (givens (map given_of c.args.parts.now))
    (scope_of c.args.scopes.now) c.args.around c.in_ok-first.first (noted c.args.noting.now) (noted c.all.new.noting)
    (noted c.fields.new.noting)
    (noted c.last.new.self) c.in_ok-first.ensures c.in_ok-all.ensures.states c.in_ok-fields.ensures c.in_ok-last.ensures
