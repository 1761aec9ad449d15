use Rattle.std.proofs.Common.{sym, ap, ◌∙◌}
use Rattle.verse_tree.specs.View.{shape_of}
use Rattle.verse_tree.proofs.Shapes.{tree_is}
use Rattle.lower_expr.specs.Locals.{scope_of}
use Rattle.note_sorts.specs.Tabled.{found_of}
use Rattle.note_stretches.specs.Noted.{noted, valued}
use Rattle.note_stretches.proofs.Laws.{walked_giving}
use Rattle.note_parts.specs.Parts.{form_walk}
use Rattle.note_trees.proofs.forms.expression.Goals as goal

pub returns-clause-states : goal.returns-clause-states
returns-clause-states g c =
    let p = c.args.noter.now.tables.now.program.now in
    let e = c.args.expr.now in
    let sort = (found_of p).sort e.node in
    let inside = form_walk p (shape_of e.form) e.node e.place (scope_of c.args.scopes.now) c.args.around in
    rw (tree_is e)
    (c.in_ok-value.ensures
    ∙ ap (λ x. valued sort x (noted c.form.new.noting)) c.in_ok-before.ensures
    ∙ ap (valued sort (noted c.args.noting.now).exit) c.in_ok-form.ensures.states
    ∙ sym (walked_giving sort inside (noted c.args.noting.now)))
