use Rattle.std.proofs.Common.{ap, ◌∙◌, map}
use Rattle.verse_tree.specs.View.{tree_of, trees}
use Rattle.verse_meaning.specs.Programs.{program_of}
use Rattle.lower_code.specs.Applied.{started}
use Rattle.lower_code.specs.Lowering.{how_many, form_fits}
use Rattle.lower_lookup.specs.Actions.{form_of}
use Rattle.lower_lookup.specs.Types.{differ_of}
use Rattle.lower_expr.specs.Locals.{scope_of}
use Rattle.lower_notes.specs.Applied.{finish, start}
use Rattle.note_stretches.specs.Noted.{noted, walked}
use Rattle.note_applied.proofs.Steps.{three_steps}
use Rattle.note_parts.specs.Parts.{operands_walk}
use Rattle.note_members.proofs.Steps.{same_walked}
use Rattle.note_calls.proofs.actions.alone.Goals as goal

pub returns-clause-states : goal.returns-clause-states
returns-clause-states g c =
    let p = c.args.noter.now.tables.now.program.now in
    let sc = scope_of c.args.scopes.now in
    let ts = trees (map tree_of c.args.args.now) in
    let f = form_of c.args.action in
    let n = how_many ts in
    let fits = form_fits (program_of p) (differ_of p) f n sc in
    three_steps (start f sc) (operands_walk p ts sc (started f c.args.around)) (finish f n fits) (noted c.args.noting.now) _ _ _
    c.in_ok-start.ensures
    (same_walked _ (operands_walk p ts sc (started f c.args.around)) _ _ c.in_ok-operands.ensures.states
    (ap (operands_walk p ts sc) c.in_ok-above.ensures))
    (c.in_ok-applied.ensures
    ∙ ap (λ n. walked (finish f n c.in_ok-fits.fits) (noted c.operands.new.noting)) (c.in_ok-number_of.ensures ∙ c.how_many-count.ensures)
    ∙ ap (λ q. walked (finish f n q) (noted c.operands.new.noting))
    (c.in_ok-fits.ensures ∙ ap (λ n. form_fits (program_of p) (differ_of p) f n sc) c.how_many-count.ensures))
