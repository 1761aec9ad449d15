-- A name of the code, and what it stands for.
use Rattle.verse_tree.specs.Tree.{Bytes}
use Rattle.verse_tree.specs.declared.tables.Ref.{Ref}
use Rattle.verse_names_tables.specs.declared.indexing.Named.{Named}

abbrev pub named_of : Named → Bytes × Ref
named_of n = (n.name.now, n.to)
