use Rattle.std.proofs.Common.{ap, map}
use Rattle.verse_tree.specs.View.{tree_of, trees}
use Rattle.lower_lookup.specs.Actions.{form_of}
use Rattle.lower_expr.specs.Locals.{scope_of}
use Rattle.lower_calls.specs.Views.{object_of}
use Rattle.note_stretches.specs.Noted.{noted}
use Rattle.note_calls.specs.Calls.{object_walk, behind_walk}
use Rattle.note_members.proofs.Steps.{two_steps}
use Rattle.note_calls.proofs.actions.of_object.Goals as goal

pub returns-clause-states : goal.returns-clause-states
returns-clause-states g c =
    let p = c.args.noter.now.tables.now.program.now in
    let sc = scope_of c.args.scopes.now in
    let ts = trees (map tree_of c.args.args.now) in
    let f = form_of c.args.action in
    two_steps (object_walk p (object_of (tree_of c.args.callee.now)) sc c.args.around)
    (behind_walk p ts sc c.args.around f) _
    (noted c.args.noting.now) _ _ c.in_ok-object.ensures.states c.in_ok-behind.ensures.states
    (ap (λ s. behind_walk p ts s c.args.around f) c.in_ok-object.ensures.scopes)
