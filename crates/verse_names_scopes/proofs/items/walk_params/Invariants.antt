use Rattle.std.proofs.Common.{◌≡◌, map, drop}
use Rattle.verse_tree.specs.ItemView.{param_of}
use Rattle.verse_names_scopes.specs.Scopes.{through_params}
use Rattle.verse_names_scopes.specs.Naming.{noted, cut_back}
use Rattle.verse_names_scopes.specs.Views.{world_of, naming_of}
use Rattle.verse_names_scopes.proofs.items.walk_params.Given as goal

-- what is left, from here on, ends as all does from the start
abbrev pub invariant-params : goal.invariant-params
invariant-params l =
    let ends = through_params (noted (world_of l.world)) cut_back in
    ends (map param_of (drop l.param-index l.params)) (naming_of l.naming) ≡ ends (map param_of l.params) (naming_of l.fn.naming)
