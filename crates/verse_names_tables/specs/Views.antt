-- What tables of names in the code stand for.
use Rattle.std.specs.Prelude.{map}
use denote.Ref.{Bor}
use Rattle.verse_tree.specs.Tree.{Bytes}
use Rattle.verse_names_tables.specs.Names.{Table, Roll}
use Rattle.verse_names_tables.specs.declared.dictionaries.Dict.{Dict}
use Rattle.verse_names_tables.specs.declared.dictionaries.Calls.{Calls}

abbrev pub bytes_now : Bor Bytes → Bytes
bytes_now x = x.now

abbrev pub entry_of : {V : Type 0} → Bor Bytes × V → Bytes × V
entry_of e = (e.0.now, e.1)

abbrev pub table_of : Dict → Table
table_of d = map entry_of d.map.entries

abbrev pub roll_of : Calls → Roll
roll_of c = map entry_of c.map.entries
