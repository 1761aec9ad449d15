use Rattle.std.proofs.Common.{ap, ◌∙◌, true}
use Rattle.verse_tree.specs.View.{tree_of}
use Rattle.verse_meaning.specs.Programs.{program_of, ref_at}
use Rattle.verse_meaning.specs.Evaluating as e
use Rattle.lower_code.specs.Applied.{finish}
use Rattle.lower_expr.specs.Building.{built}
use Rattle.lower_expr.specs.Locals.{scope_of}
use Rattle.lower_parts.specs.Parts.{tree_code}
use Rattle.lower_calls.proofs.Steps.{two_steps}
use Rattle.lower_calls.proofs.members.read.Goals as goal

pub returns-clause-code : goal.returns-clause-code
returns-clause-code g c =
    let p = c.args.lowering.now.tables.now.program.now in
    let x = c.args.name.now in
    two_steps (tree_code p (tree_of c.args.part.now) (scope_of c.args.scopes.now) c.args.around)
    (finish (e.member_form (ref_at (program_of p) c.args.node) x) 1 true) _ (built c.args.builder.now) _
    _ c.in_ok-part.ensures.code
    c.in_ok-ending.ensures
    (c.in_ok-applied.ensures ∙ ap (λ form. finish form 1 true)
    (c.member_form-action.ensures ∙ ap (λ r. e.member_form r x) c.ref_at.ensures))
