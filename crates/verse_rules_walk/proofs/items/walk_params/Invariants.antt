use Rattle.std.proofs.Common.{◌≡◌, map, drop}
use Rattle.verse_tree.specs.ItemView.{param_of}
use Rattle.verse_rules_walk.specs.Through.{through_params}
use Rattle.verse_rules_walk.proofs.items.walk_params.Given as goal

abbrev pub invariant-params : goal.invariant-params
invariant-params g l =
    let step = g.P.Pass.step l.pass in
    through_params step (map param_of (drop l.param-index l.params)) (g.P.Pass.sight l.seen) ≡
    through_params step (map param_of l.params) (g.P.Pass.sight l.fn.seen)
