use Rattle.std.proofs.Common.{ap, sym, ◌∙◌, None, Some}
use Rattle.std.specs.Option.{option_map}
use Rattle.verse_tree.specs.View.{tree_of}
use Rattle.verse_meaning.specs.Residuals as form
use Rattle.lower_expr.specs.Locals.{scope_of}
use Rattle.note_stretches.specs.Noted.{noted}
use Rattle.lower_calls.specs.Views.{applied_now, called_of, place_of}
use Rattle.note_calls.specs.Calls.{spawned_walk}
use Rattle.verse_tree.proofs.Shapes.{tree_is}
use Rattle.note_calls.proofs.Seen.{spawned_is}
use Rattle.note_members.proofs.Steps.{same_walked}
use Rattle.note_calls.proofs.calls.spawn.Goals as goal

pub returns-in_ok-spawned-in-Some-clause-states : goal.returns-in_ok-spawned-in-Some-clause-states
returns-in_ok-spawned-in-Some-clause-states g c =
    let p = c.args.noter.now.tables.now.program.now in
    let sc = scope_of c.args.scopes.now in
    let b = tree_of c.args.part.now in
    let x = noted c.args.noting.now in
    same_walked (spawned_walk p (Some (applied_now c.in-Some.parts)) c.args.part.now.place sc c.args.around) _ x _
    c.in_ok-spawned-in-Some.ensures.states
    (ap (λ o. spawned_walk p o c.args.part.now.place sc c.args.around)
    (sym (ap (option_map applied_now) c.in-Some.is) ∙ c.called_of.ensures)
    ∙ ap (λ pl. spawned_walk p (called_of b) pl sc c.args.around) (sym (ap place_of (tree_is c.args.part.now)))
    ∙ sym (spawned_is p sc c.args.around b form.indexing))

pub returns-in_ok-ends-in-None-clause-states : goal.returns-in_ok-ends-in-None-clause-states
returns-in_ok-ends-in-None-clause-states g c =
    let p = c.args.noter.now.tables.now.program.now in
    let sc = scope_of c.args.scopes.now in
    let b = tree_of c.args.part.now in
    let x = noted c.args.noting.now in
    same_walked (spawned_walk p None (place_of b) sc c.args.around) _ x _ c.in_ok-ends-in-None.ensures
    (ap (λ o. spawned_walk p o (place_of b) sc c.args.around)
    (sym (ap (option_map applied_now) c.in-None.is) ∙ c.called_of.ensures)
    ∙ sym (spawned_is p sc c.args.around b form.indexing))
