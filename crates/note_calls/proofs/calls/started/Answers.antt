use Rattle.std.proofs.Common.{refl, ap, sym, ◌∙◌, map, None}
use Rattle.verse_tree.specs.View.{tree_of, trees}
use Rattle.verse_meaning.specs.Programs.{program_of}
use Rattle.verse_meaning.specs.Residuals as form
use Rattle.verse_meaning.specs.Evaluating.{callee_of, spawned_callee}
use Rattle.lower_notes.specs.Stretches.{ends}
use Rattle.lower_lookup.specs.Actions.{form_of}
use Rattle.lower_lookup.specs.Callees.{called}
use Rattle.lower_expr.specs.Locals.{scope_of}
use Rattle.note_stretches.specs.Noted.{noted}
use Rattle.note_calls.specs.Calls.{alone_walk, member_walk}
use Rattle.note_calls.proofs.Objects.{spawned_with}
use Rattle.note_calls.proofs.Steps.{by_alone, by_object, by_neither}
use Rattle.note_calls.proofs.calls.started.Goals as goal

pub returns-in_ok-alone-in-Alone-clause-states : goal.returns-in_ok-alone-in-Alone-clause-states
returns-in_ok-alone-in-Alone-clause-states g c =
    let p = c.args.noter.now.tables.now.program.now in
    let sc = scope_of c.args.scopes.now in
    let t = tree_of c.args.callee.now in
    let ts = trees (map tree_of c.args.args.now) in
    let x = noted c.args.noting.now in
    let known = c.spawned_callee-found.ensures ∙ ap spawned_callee c.callee_of.ensures in
    by_alone (alone_walk p ts sc c.args.around) (member_walk p t ts sc c.args.around)
    (λ f. ends) (λ f. ends) x _
    (spawned_callee (callee_of (program_of p) t (form.picking None) c.args.place)) (form_of c.in-Alone.action)
    (sym (ap called c.in-Alone.is) ∙ known) c.in_ok-alone-in-Alone.ensures.states

pub returns-in_ok-of_object-in-OfObject-clause-states : goal.returns-in_ok-of_object-in-OfObject-clause-states
returns-in_ok-of_object-in-OfObject-clause-states g c =
    let p = c.args.noter.now.tables.now.program.now in
    let sc = scope_of c.args.scopes.now in
    let t = tree_of c.args.callee.now in
    let ts = trees (map tree_of c.args.args.now) in
    let x = noted c.args.noting.now in
    let known = c.spawned_callee-found.ensures ∙ ap spawned_callee c.callee_of.ensures in
    by_object (alone_walk p ts sc c.args.around) (member_walk p t ts sc c.args.around)
    (λ f. ends) (λ f. ends) x _
    (spawned_callee (callee_of (program_of p) t (form.picking None) c.args.place)) (form_of c.in-OfObject.action)
    (sym (ap called c.in-OfObject.is) ∙ known)
    (spawned_with p t ts sc c.args.around (form_of c.in-OfObject.action) (form.picking None) c.args.place x _
    (sym (ap called c.in-OfObject.is) ∙ known) c.in_ok-of_object-in-OfObject.ensures.states)

pub returns-in_ok-ends-in_default : goal.returns-in_ok-ends-in_default
returns-in_ok-ends-in_default g c =
    let p = c.args.noter.now.tables.now.program.now in
    let sc = scope_of c.args.scopes.now in
    let t = tree_of c.args.callee.now in
    let ts = trees (map tree_of c.args.args.now) in
    record {
      states = by_neither (alone_walk p ts sc c.args.around) (member_walk p t ts sc c.args.around)
          (noted c.args.noting.now) _
          (spawned_callee (callee_of (program_of p) t (form.picking None) c.args.place)) c.spawned_callee-found.result
          (c.spawned_callee-found.ensures
          ∙ ap spawned_callee c.callee_of.ensures) c.in_default.not-Alone c.in_default.not-OfObject
          c.in_ok-ends-in_default.ensures;
      scopes = refl;
    }
