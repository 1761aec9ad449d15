use Rattle.std.proofs.Common.{sym, ap, ◌∙◌}
use Rattle.lower_lookup.specs.Members.{base_view}
use Rattle.lower_expr.specs.Locals.{scope_of}
use Rattle.lower_calls.specs.Aims.{aim_view}
use Rattle.note_stretches.specs.Noted.{noted, walked}
use Rattle.note_targets.specs.Targets.{bottom_walk}
use Rattle.note_targets.proofs.targets.bottom.Goals as goal

pub returns-in_ok-base_cell-in-Name-clause-states : goal.returns-in_ok-base_cell-in-Name-clause-states
returns-in_ok-base_cell-in-Name-clause-states g c =
    let p = c.args.noter.now.tables.now.program.now in
    c.in_ok-base_cell-in-Name.ensures
    ∙ ap (λ m. walked (bottom_walk p m (base_view c.args.base) (scope_of c.args.scopes.now) c.args.around) (noted c.args.noting.now))
    (sym (ap aim_view c.in-Name.is) ∙ c.aim_of.ensures)
