use Rattle.std.proofs.Common.{◌≡◌, ap, ◌∙◌}
use Rattle.verse_tree.specs.View.{hole_of, holes}
use Rattle.std.proofs.Common.{map}
use Rattle.lower_expr.specs.Building.{built}
use Rattle.lower_expr.specs.Locals.{scope_of}
use Rattle.lower_values.proofs.Holes.{text_done}
use Rattle.lower_values.proofs.texts.text.Goals as goal

pub returns-clause-code : goal.returns-clause-code
returns-clause-code g c =
    text_done c.args.lowering.now.tables.now.program.now c.args.first.now
    (holes (map hole_of c.args.parts.now)) c.args.place
    (scope_of c.args.scopes.now) c.args.around c.in_ok-here.here c.in_ok-count-2.count (built c.args.builder.now)
    (built c.text_if.new.self)
    (built c.all.new.builder) (built c.placed.new.self) c.in_ok-text_if.ensures
    (search (c.in_ok-here.ensures, c.is_text-begins.ensures)) c.in_ok-count.ensures.code
    (search (c.in_ok-count-2.ensures, c.is_text-begins.ensures, c.in_ok-count.ensures.count)) c.in_ok-placed.ensures
