use Rattle.std.proofs.Common.{map, refl}
use Rattle.verse_tree.specs.View.{tree_of, trees}
use Rattle.lower_expr.specs.Locals.{scope_of}
use Rattle.note_stretches.specs.Noted.{noted}
use Rattle.note_cases.specs.Arms.{arms_walk}
use Rattle.note_cases.proofs.Arming.{arms_ended}
use Rattle.note_cases.proofs.cases.all_arms.Goals as goal

pub returns-clause-states : goal.returns-clause-states
returns-clause-states g c =
    arms_ended
    (arms_walk c.args.noter.now.tables.now.program.now (trees (map tree_of c.args.parts.now)) c.args.local
    (scope_of c.args.scopes.now)
    c.args.around)
    c.new-ends.result.items c.open_arms.new.ends.items c.open_arms.new.ends.items (noted c.args.noting.now)
    (noted c.open_arms.new.noting) (noted c.arms_end.new.noting) c.new-ends.ensures.items c.in_ok-open_arms.ensures.states refl
    c.arms_end.ensures
