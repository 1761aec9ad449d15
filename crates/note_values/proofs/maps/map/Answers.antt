use Rattle.std.proofs.Common.{map}
use Rattle.verse_tree.specs.View.{pair_of, pairs}
use Rattle.lower_expr.specs.Locals.{scope_of}
use Rattle.note_stretches.specs.Noted.{noted}
use Rattle.note_values.proofs.Keys.{map_by}
use Rattle.note_values.proofs.maps.map.Goals as goal

pub returns-clause-states : goal.returns-clause-states
returns-clause-states g c =
    map_by c.args.noter.now.tables.now.program.now c.args.node (pairs (map pair_of c.args.parts.now))
    (scope_of c.args.scopes.now) c.args.around (noted c.args.noting.now) _ _ c.in_ok-all.ensures.states c.in_ok-last.ensures
