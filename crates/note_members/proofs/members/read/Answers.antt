use Rattle.std.proofs.Common.{ap, ◌∙◌, true}
use Rattle.verse_tree.specs.View.{tree_of}
use Rattle.verse_meaning.specs.Programs.{program_of, ref_at}
use Rattle.verse_meaning.specs.Evaluating as e
use Rattle.lower_notes.specs.Applied.{finish}
use Rattle.lower_expr.specs.Locals.{scope_of}
use Rattle.note_stretches.specs.Noted.{noted}
use Rattle.note_parts.specs.Parts.{tree_walk}
use Rattle.note_members.proofs.Steps.{two_steps}
use Rattle.note_members.proofs.members.read.Goals as goal

pub returns-clause-states : goal.returns-clause-states
returns-clause-states g c =
    let p = c.args.noter.now.tables.now.program.now in
    let x = c.args.name.now in
    two_steps (tree_walk p (tree_of c.args.part.now) (scope_of c.args.scopes.now) c.args.around)
    (finish (e.member_form (ref_at (program_of p) c.args.node) x) 1 true) _ (noted c.args.noting.now) _
    _ c.in_ok-part.ensures.states
    c.in_ok-applied.ensures
    (ap (λ form. finish form 1 true)
    (c.member_form-action.ensures ∙ ap (λ r. e.member_form r x) c.ref_at.ensures))
