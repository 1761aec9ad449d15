use Rattle.std.proofs.Common.{◌≡◌, drop, map}
use Rattle.verse_names_declarations.specs.Known.{known_of}
use Rattle.verse_names_tables.specs.Counting.{counted_of}
use Rattle.verse_names_items.specs.Faults.{items_fault}
use Rattle.verse_names_items.proofs.faults.items_fault.Given as goal

-- what is left decides
abbrev pub invariant-items : goal.invariant-items
invariant-items l = items_fault (known_of l.known) (map counted_of (drop l.item-index l.items)) ≡
    items_fault (known_of l.known) (map counted_of l.items)
