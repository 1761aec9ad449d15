use Rattle.std.proofs.Common.{ap, ◌∙◌}
use Rattle.verse_tree.specs.Tree as t
use Rattle.verse_tree.specs.View.{tree_of, two_of}
use Rattle.lower_expr.specs.Locals.{scope_of}
use Rattle.note_stretches.specs.Noted.{noted, walked}
use Rattle.note_parts.specs.Parts.{form_walk, no_place}
use Rattle.note_targets.proofs.targets.set.Goals as goal

pub returns-clause-states : goal.returns-clause-states
returns-clause-states g c =
    let p = c.args.noter.now.tables.now.program.now in
    let sc = scope_of c.args.scopes.now in
    let b = noted c.args.noting.now in
    c.in_ok-assigned.ensures.states
    ∙ ap (λ x. walked (form_walk p (t.Shape.assignment c.args.assign x (tree_of c.right.result.now)) 0 no_place sc c.args.around) b)
    c.left.ensures
    ∙ ap (λ x. walked (form_walk p (t.Shape.assignment c.args.assign (two_of c.args.two.now).0 x) 0 no_place sc c.args.around) b)
    c.right.ensures
