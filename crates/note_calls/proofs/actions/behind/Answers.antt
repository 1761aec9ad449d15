use Rattle.std.proofs.Common.{ap, ◌∙◌, map, true}
use Rattle.verse_tree.specs.View.{tree_of, trees}
use Rattle.lower_code.specs.Arounds.{up}
use Rattle.lower_code.specs.Lowering.{how_many}
use Rattle.lower_lookup.specs.Actions.{form_of}
use Rattle.lower_expr.specs.Locals.{scope_of}
use Rattle.lower_notes.specs.Applied.{finish}
use Rattle.note_stretches.specs.Noted.{noted}
use Rattle.note_parts.specs.Parts.{operands_walk}
use Rattle.note_members.proofs.Steps.{two_steps, same_walked}
use Rattle.note_calls.proofs.actions.behind.Goals as goal

pub returns-clause-states : goal.returns-clause-states
returns-clause-states g c =
    let p = c.args.noter.now.tables.now.program.now in
    let sc = scope_of c.args.scopes.now in
    let ts = trees (map tree_of c.args.args.now) in
    let f = form_of c.args.action in
    let b = noted c.args.noting.now in
    two_steps (operands_walk p ts sc (up c.args.around)) (finish f (how_many ts) true) _ b _ _
    (same_walked _ (operands_walk p ts sc (up c.args.around)) b _ c.in_ok-operands.ensures.states
    (ap (operands_walk p ts sc) c.in_ok-up.ensures))
    c.in_ok-applied.ensures
    (ap (λ n. finish f n true) (c.in_ok-count.ensures ∙ c.how_many.ensures))
