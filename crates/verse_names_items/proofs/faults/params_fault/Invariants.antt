use Rattle.std.proofs.Common.{◌≡◌, drop, map}
use Rattle.verse_tree.specs.ItemView.{param_of}
use Rattle.verse_names_declarations.specs.Known.{known_of}
use Rattle.verse_names_items.specs.Faults.{params_fault}
use Rattle.verse_names_items.proofs.faults.params_fault.Given as goal

-- what is left decides
abbrev pub invariant-params : goal.invariant-params
invariant-params l = params_fault (known_of l.known) (map param_of (drop l.param-index l.params)) ≡
    params_fault (known_of l.known) (map param_of l.params)
