use Rattle.verse_expr_primary.proofs.braces.spawn.Goals as goal
use Rattle.verse_expr_primary.proofs.BraceParts.{spawn_made, spawn_eaten}

pub returns-in_ok-spawn-in-Some-clause-spelled : goal.returns-in_ok-spawn-in-Some-clause-spelled
returns-in_ok-spawn-in-Some-clause-spelled g c =
    spawn_made c.requires.start c.in_ok-behind.ensures.found c.in_ok-behind.ensures.kind c.in_ok-operand.ensures.spelled c.in-Some.ensures.0
    c.in-Some.ensures.1 c.in_ok-spawn-in-Some.ensures

pub returns-in_ok-spawn-in-Some-clause-eats : goal.returns-in_ok-spawn-in-Some-clause-eats
returns-in_ok-spawn-in-Some-clause-eats g c =
    spawn_eaten _ _ _ _ _ _ _ c.requires.start c.in_ok-behind.ensures.found c.in_ok-behind.ensures.kind c.in_ok-operand.ensures.eats
    c.in-Some.ensures.0 c.in-Some.ensures.1
