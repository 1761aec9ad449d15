use Rattle.std.proofs.Common.{refl, sym, map, true}
use Rattle.verse_tree.specs.View.{tree_of, trees}
use Rattle.lower_lookup.specs.Actions.{form_of}
use Rattle.lower_expr.specs.Locals.{scope_of}
use Rattle.lower_calls.specs.Calls.{divided_in}
use Rattle.lower_notes.specs.Applied.{finish}
use Rattle.note_stretches.specs.Noted.{noted}
use Rattle.note_parts.specs.Parts.{no_place}
use Rattle.note_calls.specs.Calls.{divided_walk}
use Rattle.note_calls.proofs.Seen.{divided_is}
use Rattle.note_members.proofs.Steps.{two_steps, same_walked}
use Rattle.note_calls.proofs.actions.of_quotient.Goals as goal

pub returns-clause-states : goal.returns-clause-states
returns-clause-states g c =
    let p = c.args.noter.now.tables.now.program.now in
    let sc = scope_of c.args.scopes.now in
    let ts = trees (map tree_of c.args.args.now) in
    let f = form_of c.args.action in
    two_steps _ (finish f 2 true) _ (noted c.args.noting.now) _ _
    (same_walked (divided_walk p (divided_in ts) sc c.args.around) _ _ _ c.in_ok-divided.ensures.states
    (sym (divided_is p sc c.args.around ts f no_place)))
    c.in_ok-applied.ensures refl
