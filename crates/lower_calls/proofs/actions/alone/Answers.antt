use Rattle.std.proofs.Common.{ap, ◌∙◌, map}
use Rattle.verse_tree.specs.View.{tree_of, trees}
use Rattle.verse_meaning.specs.Programs.{program_of}
use Rattle.lower_code.specs.Applied.{finish, start, started}
use Rattle.lower_code.specs.Lowering.{how_many, form_fits}
use Rattle.lower_lookup.specs.Actions.{form_of}
use Rattle.lower_lookup.specs.Types.{differ_of}
use Rattle.lower_expr.specs.Building.{built}
use Rattle.lower_expr.specs.Locals.{scope_of}
use Rattle.lower_parts.specs.Parts.{operands_code}
use Rattle.lower_calls.proofs.Steps.{three_steps, same_made}
use Rattle.lower_calls.proofs.actions.alone.Goals as goal

pub returns-clause-code : goal.returns-clause-code
returns-clause-code g c =
    let p = c.args.lowering.now.tables.now.program.now in
    let sc = scope_of c.args.scopes.now in
    let ts = trees (map tree_of c.args.args.now) in
    let f = form_of c.args.action in
    let n = how_many ts in
    let fits = form_fits (program_of p) (differ_of p) f n sc in
    let b = built c.args.builder.now in
    three_steps (start f sc) (operands_code p ts sc (started f c.args.around)) (finish f n fits) b _ _ _
    (same_made _ (start f sc) b _ c.in_ok-ending.ensures c.in_ok-start.ensures)
    (same_made _ (operands_code p ts sc (started f c.args.around)) _ _ c.in_ok-operands.ensures.code
    (ap (operands_code p ts sc) c.in_ok-above.ensures))
    (same_made _ (finish f n fits) _ _ c.in_ok-ending-2.ensures
    (c.in_ok-applied.ensures
    ∙ ap (λ n. finish f n c.in_ok-fits.fits) (c.in_ok-number_of.ensures ∙ c.how_many-count.ensures)
    ∙ ap (finish f n)
    (c.in_ok-fits.ensures ∙ ap (λ n. form_fits (program_of p) (differ_of p) f n sc) c.how_many-count.ensures)))
