use Rattle.std.proofs.Common.{◌≡◌, ◌++◌, drop, map}
use Rattle.verse_tree.specs.ItemView.{param_of}
use Rattle.verse_rules_types.specs.Types.{ty_of}
use Rattle.verse_names_tables.specs.Views.{table_of}
use Rattle.verse_names_tables.specs.Functions.{param_type}
use Rattle.verse_names_tables.proofs.functions.param_types.Given as goal

-- what is done and what is left are all
abbrev pub invariant-params : goal.invariant-params
invariant-params l = map ty_of l.found ++ map (param_type (table_of l.types)) (map param_of (drop l.param-index l.params)) ≡
    map (param_type (table_of l.types)) (map param_of l.params)
