use Rattle.std.proofs.Common.{sym, ap, ◌∙◌}
use Rattle.std.specs.Option.{option_map}
use Rattle.lower_expr.specs.Locals.{scope_of}
use Rattle.lower_calls.specs.Views.{two_now}
use Rattle.note_stretches.specs.Noted.{noted, walked}
use Rattle.note_calls.specs.Calls.{divided_walk}
use Rattle.note_calls.proofs.actions.divided.Goals as goal

pub returns-in_ok-both-in-Some-clause-states : goal.returns-in_ok-both-in-Some-clause-states
returns-in_ok-both-in-Some-clause-states g c =
    c.in_ok-both-in-Some.ensures.states
    ∙ ap (λ o. walked (divided_walk c.args.noter.now.tables.now.program.now o (scope_of c.args.scopes.now) c.args.around)
    (noted c.args.noting.now)) (sym (ap (option_map two_now) c.in-Some.is) ∙ c.divided_in.ensures)

pub returns-in_ok-ends-in-None-clause-states : goal.returns-in_ok-ends-in-None-clause-states
returns-in_ok-ends-in-None-clause-states g c =
    c.in_ok-ends-in-None.ensures
    ∙ ap (λ o. walked (divided_walk c.args.noter.now.tables.now.program.now o (scope_of c.args.scopes.now) c.args.around)
    (noted c.args.noting.now)) (sym (ap (option_map two_now) c.in-None.is) ∙ c.divided_in.ensures)
