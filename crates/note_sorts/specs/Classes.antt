-- What notes say of a class of a table.
use Rattle.std.specs.Prelude.{map}
use Rattle.verse_tree.specs.declared.tables.ClassInfo.{ClassInfo}
use Rattle.verse_verify_kept.specs.Notes.{ClassNote}
use Rattle.note_sorts.specs.Tabled.{field_sort}

abbrev pub class_note : ClassInfo → ClassNote
class_note c = record { parent = c.parent; slots = map field_sort c.fields }
