use Rattle.std.proofs.Common.{ap, sym, ◌∙◌, None, Some}
use Rattle.std.specs.Option.{option_map}
use Rattle.verse_tree.specs.View.{tree_of}
use Rattle.verse_meaning.specs.Residuals as form
use Rattle.lower_expr.specs.Building.{built}
use Rattle.lower_expr.specs.Locals.{scope_of}
use Rattle.lower_calls.specs.Views.{applied_now, called_of, place_of}
use Rattle.lower_calls.specs.Calls.{spawned_code}
use Rattle.verse_tree.proofs.Shapes.{tree_is}
use Rattle.lower_calls.proofs.Seen.{spawned_is}
use Rattle.lower_calls.proofs.Steps.{same_made}
use Rattle.lower_calls.proofs.calls.spawn.Goals as goal

pub returns-in_ok-spawned-in-Some-clause-code : goal.returns-in_ok-spawned-in-Some-clause-code
returns-in_ok-spawned-in-Some-clause-code g c =
    let p = c.args.lowering.now.tables.now.program.now in
    let sc = scope_of c.args.scopes.now in
    let b = tree_of c.args.part.now in
    let x = built c.args.builder.now in
    same_made (spawned_code p (Some (applied_now c.in-Some.parts)) c.args.part.now.place sc c.args.around) _ x _
    c.in_ok-spawned-in-Some.ensures.code
    (ap (λ o. spawned_code p o c.args.part.now.place sc c.args.around)
    (sym (ap (option_map applied_now) c.in-Some.is) ∙ c.called_of.ensures)
    ∙ ap (λ pl. spawned_code p (called_of b) pl sc c.args.around) (sym (ap place_of (tree_is c.args.part.now)))
    ∙ sym (spawned_is p sc c.args.around b form.indexing))

pub returns-in_ok-stuck-in-None-clause-code : goal.returns-in_ok-stuck-in-None-clause-code
returns-in_ok-stuck-in-None-clause-code g c =
    let p = c.args.lowering.now.tables.now.program.now in
    let sc = scope_of c.args.scopes.now in
    let b = tree_of c.args.part.now in
    let x = built c.args.builder.now in
    same_made (spawned_code p None (place_of b) sc c.args.around) _ x _ c.in_ok-stuck-in-None.ensures
    (ap (λ o. spawned_code p o (place_of b) sc c.args.around)
    (sym (ap (option_map applied_now) c.in-None.is) ∙ c.called_of.ensures)
    ∙ sym (spawned_is p sc c.args.around b form.indexing))
