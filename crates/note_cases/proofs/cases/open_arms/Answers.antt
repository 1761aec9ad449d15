use Rattle.std.proofs.Common.{map, ◌∙◌}
use Rattle.lower_expr.specs.Locals.{scope_of}
use Rattle.note_stretches.specs.Noted.{noted}
use Rattle.note_cases.specs.Ends.{end_of}
use Rattle.note_cases.proofs.Arming.{arms_next, arms_cut}
use Rattle.note_cases.proofs.cases.open_arms.Goals as goal

pub returns-then-not-goes_on-clause-states : goal.returns-then-not-goes_on-clause-states
returns-then-not-goes_on-clause-states g c =
    arms_cut c.args.noter.now.tables.now.program.now c.args.local (scope_of c.args.scopes.now)
    c.args.around c.in_ok-goes_on.goes_on
    c.none_left-last.result c.arms.rest.now c.in-Some.behind.now c.in-Some.first.now (scope_of c.arms.scopes)
    (map end_of c.arms.ends.items) _
    (noted c.arms.noting) _ _ c.in-Some.ensures.cases.0 c.none_left-last.ensures
    c.arms.invariant.0 c.if-not-goes_on.true
    c.in_ok-goes_on.ensures.states c.arms.invariant.1

pub arms-preserved : goal.arms-preserved
arms-preserved g c = (
  c.in_ok-goes_on.ensures.scopes ∙ c.arms.invariant.0,
  arms_next c.args.noter.now.tables.now.program.now c.args.local (scope_of c.args.scopes.now)
      c.args.around c.in_ok-goes_on.goes_on
      c.none_left-last.result c.arms.rest.now c.in-Some.behind.now c.in-Some.first.now (scope_of c.arms.scopes)
      (map end_of c.arms.ends.items) _
      (noted c.arms.noting) _ _ c.in-Some.ensures.cases.0 c.none_left-last.ensures
      c.arms.invariant.0 c.if-not-goes_on.false
      c.in_ok-goes_on.ensures.states c.arms.invariant.1,
)
