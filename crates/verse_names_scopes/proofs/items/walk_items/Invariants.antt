use Rattle.std.proofs.Common.{◌≡◌, map, drop}
use Rattle.verse_names_tables.specs.Counting.{counted_of}
use Rattle.verse_names_declarations.specs.Known.{known_of}
use Rattle.verse_names_scopes.specs.Scopes.{through_items}
use Rattle.verse_names_scopes.specs.Naming.{noted, cut_back}
use Rattle.verse_names_scopes.specs.Views.{naming_of}
use Rattle.verse_names_scopes.proofs.items.walk_items.Given as goal

-- what is left, from here on, ends as all does from the start
abbrev pub invariant-items : goal.invariant-items
invariant-items l =
    let ends = through_items noted cut_back (known_of l.known) in
    ends (map counted_of (drop l.item-index l.items)) (naming_of l.naming) ≡ ends (map counted_of l.items) (naming_of l.fn.naming)
