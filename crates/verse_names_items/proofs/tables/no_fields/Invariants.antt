use Rattle.verse_names_declarations.specs.Known.{known_of}
use Rattle.verse_names_items.specs.Making.{AreMade}
use Rattle.verse_names_items.proofs.tables.no_fields.Given as goal

abbrev pub invariant-classes : goal.invariant-classes
invariant-classes l = AreMade (known_of l.known) l.made.items
