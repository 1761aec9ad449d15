use Rattle.std.proofs.Common.{true, refl}
use Rattle.verse_tree.specs.View.{tree_of}
use Rattle.lower_lookup.specs.Actions.{form_of}
use Rattle.lower_expr.specs.Locals.{scope_of}
use Rattle.lower_notes.specs.Applied.{finish}
use Rattle.note_stretches.specs.Noted.{noted}
use Rattle.note_parts.specs.Parts.{tree_walk}
use Rattle.note_members.proofs.Steps.{two_steps}
use Rattle.note_calls.proofs.actions.of_value.Goals as goal

pub returns-clause-states : goal.returns-clause-states
returns-clause-states g c =
    let p = c.args.noter.now.tables.now.program.now in
    let sc = scope_of c.args.scopes.now in
    two_steps (tree_walk p (tree_of c.args.callee.now) sc c.args.around) (finish (form_of c.args.action) 0 true) _
    (noted c.args.noting.now) _ _
    c.in_ok-part.ensures.states c.in_ok-applied.ensures refl
