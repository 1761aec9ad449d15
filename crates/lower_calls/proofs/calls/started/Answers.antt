use Rattle.std.proofs.Common.{refl, ap, sym, ◌∙◌, map, None}
use Rattle.verse_tree.specs.View.{tree_of, trees}
use Rattle.verse_meaning.specs.Programs.{program_of}
use Rattle.verse_meaning.specs.Residuals as form
use Rattle.verse_meaning.specs.Evaluating.{callee_of, spawned_callee}
use Rattle.lower_code.specs.Pieces.{stuck}
use Rattle.lower_lookup.specs.Actions.{form_of}
use Rattle.lower_lookup.specs.Callees.{called}
use Rattle.lower_expr.specs.Building.{built}
use Rattle.lower_expr.specs.Locals.{scope_of}
use Rattle.lower_calls.specs.Calls.{alone_code, member_code}
use Rattle.lower_calls.proofs.Objects.{spawned_with}
use Rattle.lower_calls.proofs.Steps.{by_alone, by_object, by_neither}
use Rattle.lower_calls.proofs.calls.started.Goals as goal

pub returns-in_ok-alone-in-Alone-clause-code : goal.returns-in_ok-alone-in-Alone-clause-code
returns-in_ok-alone-in-Alone-clause-code g c =
    let p = c.args.lowering.now.tables.now.program.now in
    let sc = scope_of c.args.scopes.now in
    let t = tree_of c.args.callee.now in
    let ts = trees (map tree_of c.args.args.now) in
    let x = built c.args.builder.now in
    let known = c.spawned_callee-found.ensures ∙ ap spawned_callee c.callee_of.ensures in
    by_alone (alone_code p ts sc c.args.around) (member_code p t ts sc c.args.around)
    (λ f. stuck) (λ f. stuck) x _
    (spawned_callee (callee_of (program_of p) t (form.picking None) c.args.place)) (form_of c.in-Alone.action)
    (sym (ap called c.in-Alone.is) ∙ known) c.in_ok-alone-in-Alone.ensures.code

pub returns-in_ok-of_object-in-OfObject-clause-code : goal.returns-in_ok-of_object-in-OfObject-clause-code
returns-in_ok-of_object-in-OfObject-clause-code g c =
    let p = c.args.lowering.now.tables.now.program.now in
    let sc = scope_of c.args.scopes.now in
    let t = tree_of c.args.callee.now in
    let ts = trees (map tree_of c.args.args.now) in
    let x = built c.args.builder.now in
    let known = c.spawned_callee-found.ensures ∙ ap spawned_callee c.callee_of.ensures in
    by_object (alone_code p ts sc c.args.around) (member_code p t ts sc c.args.around)
    (λ f. stuck) (λ f. stuck) x _
    (spawned_callee (callee_of (program_of p) t (form.picking None) c.args.place)) (form_of c.in-OfObject.action)
    (sym (ap called c.in-OfObject.is) ∙ known)
    (spawned_with p t ts sc c.args.around (form_of c.in-OfObject.action) (form.picking None) c.args.place x _
    (sym (ap called c.in-OfObject.is) ∙ known) c.in_ok-of_object-in-OfObject.ensures.code)

pub returns-in_ok-stuck-in_default : goal.returns-in_ok-stuck-in_default
returns-in_ok-stuck-in_default g c =
    let p = c.args.lowering.now.tables.now.program.now in
    let sc = scope_of c.args.scopes.now in
    let t = tree_of c.args.callee.now in
    let ts = trees (map tree_of c.args.args.now) in
    record {
      code = by_neither (alone_code p ts sc c.args.around) (member_code p t ts sc c.args.around)
          (built c.args.builder.now) _
          (spawned_callee (callee_of (program_of p) t (form.picking None) c.args.place)) c.spawned_callee-found.result
          (c.spawned_callee-found.ensures
          ∙ ap spawned_callee c.callee_of.ensures) c.in_default.not-Alone c.in_default.not-OfObject
          c.in_ok-stuck-in_default.ensures;
      scopes = refl;
    }
