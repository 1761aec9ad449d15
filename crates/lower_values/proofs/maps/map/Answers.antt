use Rattle.lower_expr.specs.Building.{built}
use Rattle.lower_expr.specs.Locals.{scope_of}
use Rattle.lower_values.proofs.Keys.{map_done}
use Rattle.lower_values.proofs.maps.map.Goals as goal

pub returns-clause-code : goal.returns-clause-code
returns-clause-code g c =
    map_done c.args.lowering.now.tables.now.program.now c.args.parts.now c.args.place
    (scope_of c.args.scopes.now) c.args.around
    c.in_ok-count.count
    (built c.args.builder.now) (built c.all.new.builder) (built c.placed.new.self) (search (c.in_ok-count.ensures))
    c.in_ok-all.ensures.code
    c.in_ok-placed.ensures
