use Rattle.std.proofs.Common.{◌≡◌, ◌++◌, map, drop}
use Rattle.lower_expr.specs.Building.{built, spot, empty}
use Rattle.lower_items.specs.Views.{body_view}
use Rattle.verse_lower.specs.Making.{functions_from, with_bodies}
use Rattle.verse_lower.proofs.functions.add_functions.Given as goal

-- what is left, from here on, ends as all does from the start
abbrev pub invariant-bodies : goal.invariant-bodies
invariant-bodies l =
    let p = l.tables.program.now in
    (with_bodies p (map body_view (drop l.body-index l.bodies)) (built l.builder) ≡
    with_bodies p (map body_view l.bodies) empty)
    × (l.functions ++ functions_from p (map body_view (drop l.body-index l.bodies)) (spot (built l.builder))
    ≡ functions_from p (map body_view l.bodies) (spot empty))
