use Rattle.std.proofs.Common.{sym, ap, ◌∙◌}
use Rattle.std.specs.Option.{option_map}
use Rattle.verse_tree.specs.View.{tree_of, trees, if_of}
use Rattle.lower_expr.specs.Locals.{scope_of}
use Rattle.note_stretches.specs.Noted.{noted}
use Rattle.note_failing.proofs.Ifs.{if_alone_by, if_else_by}
use Rattle.note_failing.proofs.failing.if_form.Goals as goal

pub returns-in_ok-other_last-in-None-clause-states : goal.returns-in_ok-other_last-in-None-clause-states
returns-in_ok-other_last-in-None-clause-states g c =
    if_alone_by c.args.noter.now.tables.now.program.now (scope_of c.args.scopes.now) c.args.around
    (trees (if_of c.args.parts.now).conditions)
    (if_of c.args.parts.now).taken (if_of c.args.parts.now).otherwise _ (noted c.args.noting.now) _ _ _
    (sym c.otherwise.ensures
    ∙ ap (option_map (λ e. tree_of e.now)) c.in-None.is) c.in_ok-before.ensures.before c.in_ok-before.ensures.begun
    c.in_ok-if_taken.ensures.states c.in_ok-other_last-in-None.ensures

pub returns-in_ok-if_other-in-Some-clause-states : goal.returns-in_ok-if_other-in-Some-clause-states
returns-in_ok-if_other-in-Some-clause-states g c =
    if_else_by c.args.noter.now.tables.now.program.now (scope_of c.args.scopes.now) c.args.around
    (trees (if_of c.args.parts.now).conditions)
    (if_of c.args.parts.now).taken (if_of c.args.parts.now).otherwise (tree_of c.in-Some.part.now) _ _
    (noted c.args.noting.now) _ _ _
    (sym c.otherwise.ensures ∙ ap (option_map (λ e. tree_of e.now)) c.in-Some.is) c.in_ok-if_taken.ensures.scopes
    c.in_ok-before.ensures.before c.in_ok-before.ensures.begun
    c.in_ok-if_taken.ensures.states c.in_ok-if_other-in-Some.ensures.states
