use Rattle.lower_expr.specs.Locals.{scope_of}
use Rattle.lower_items.specs.Views.{body_view}
use Rattle.note_states.specs.View.{standing_of, state_of}
use Rattle.note_stretches.specs.Noted.{noted}
use Rattle.verse_note.proofs.Bodies.{body_done}
use Rattle.verse_note.proofs.functions.add_body.Goals as goal

pub returns : goal.returns
returns c =
    body_done c.args.tables.now.program.now c.args.code.now c.args.number (body_view c.args.body)
    (scope_of c.in_ok-scopes.scopes) c.fresh.result (standing_of c.at.result) (state_of c.in_ok-entry.entry)
    (noted c.args.noting.now) (noted c.resume-stood.new.self) (noted c.note_tree.new.noting) (noted c.ends.new.self)
    c.resume-stood.ensures.stands c.at.ensures c.in_ok-entry.ensures c.in_ok-scopes.ensures c.fresh.ensures
    c.in_ok-note_tree.ensures.states c.in_ok-ends.ensures
