use Rattle.std.proofs.Common.{map, ap, ◌∙◌}
use Rattle.verse_tree.specs.View.{hole_of, holes}
use Rattle.lower_expr.specs.Locals.{scope_of}
use Rattle.note_stretches.specs.Noted.{noted}
use Rattle.note_values.proofs.Holes.{text_done}
use Rattle.note_values.proofs.texts.text.Goals as goal

pub returns-clause-states : goal.returns-clause-states
returns-clause-states g c =
    text_done c.args.noter.now.tables.now.program.now c.args.first.now (holes (map hole_of c.args.parts.now))
    (scope_of c.args.scopes.now) c.args.around c.in_ok-here.here (noted c.args.noting.now) (noted c.text_if.new.self)
    (noted c.all.new.noting) (noted c.last.new.self) c.in_ok-text_if.ensures
    (search (c.in_ok-here.ensures, c.is_text-begins.ensures)) c.in_ok-all.ensures.states c.in_ok-last.ensures
