use Rattle.std.proofs.Common.{ap, ◌∙◌}
use Rattle.verse_tree.specs.View.{tree_of, two_of}
use Rattle.lower_code.specs.Arounds.{up}
use Rattle.lower_expr.specs.Building.{built}
use Rattle.lower_expr.specs.Locals.{scope_of}
use Rattle.lower_parts.specs.Parts.{tree_code}
use Rattle.lower_calls.proofs.Halves.{left_is, right_is}
use Rattle.lower_calls.proofs.Steps.{two_steps, same_made}
use Rattle.lower_calls.proofs.actions.both.Goals as goal

pub returns-clause-code : goal.returns-clause-code
returns-clause-code g c =
    let p = c.args.lowering.now.tables.now.program.now in
    let sc = scope_of c.args.scopes.now in
    let q = two_of c.args.parts.now in
    two_steps (tree_code p q.0 sc c.args.around) (tree_code p q.1 sc (up c.args.around)) _
    (built c.args.builder.now) _ _
    (same_made _ (tree_code p q.0 sc c.args.around) _ _ c.in_ok-part.ensures.code
    (ap (λ t. tree_code p t sc c.args.around) (ap tree_of c.get.ensures ∙ left_is c.args.parts.now)))
    c.in_ok-part-2.ensures.code
    (ap (λ s. tree_code p (tree_of c.get-2.result.now) s c.in_ok-up.field-0) c.in_ok-part.ensures.scopes
    ∙ ap (tree_code p (tree_of c.get-2.result.now) sc) c.in_ok-up.ensures
    ∙ ap (λ t. tree_code p t sc (up c.args.around)) (ap tree_of c.get-2.ensures ∙ right_is c.args.parts.now))
