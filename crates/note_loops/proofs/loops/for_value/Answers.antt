use Rattle.std.proofs.Common.{cond, sym, ap, ◌∙◌}
use Rattle.verse_tree.specs.View.{tree_of}
use Rattle.lower_expr.specs.Locals.{scope_of}
use Rattle.note_stretches.specs.Noted.{noted, walked}
use Rattle.note_loops.specs.Walks.{body_walk}
use Rattle.note_loops.proofs.Steps.{body_by}
use Rattle.note_loops.proofs.loops.for_value.Goals as goal

pub returns-in_ok-drop_values-clause-states : goal.returns-in_ok-drop_values-clause-states
returns-in_ok-drop_values-clause-states g c =
    let p = c.args.noter.now.tables.now.program.now in
    let sc = scope_of c.args.scopes.now in
    let b = noted c.args.noting.now in
    body_by p sc c.args.around (tree_of c.args.part.now) b _ _ _ c.in_ok-commit.ensures c.in_ok-part.ensures.states
    c.in_ok-drop_values.ensures
    ∙ ap (λ q. cond q (walked (body_walk p (tree_of c.args.part.now) c.args.around sc) b) b) (sym c.if-goes_on.true)
