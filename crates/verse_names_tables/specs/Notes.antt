-- The classes as they are written, by their numbers.
use Rattle.std.specs.Prelude.{ℕ, List, [], ◌∷◌, ◌++◌}
use Rattle.verse_tree.specs.ItemTree.{ClassTree, ItemTree, using, enumeration, class, function}
use Rattle.verse_tree.specs.ItemView.{class_of}
use Rattle.verse_names_tables.specs.Counting.{Counted}
use Rattle.verse_names_tables.specs.declared.counting.Counts.{Counts}
use Rattle.verse_names_tables.specs.declared.indexing.Note.{Note as MadeNote}

-- a class as it is written, and the number of its first method
pub record Note : Type 0 where
  pub item : ClassTree
  pub first : ℕ

abbrev pub notes_in : ItemTree → Counts → List Note
notes_in (using u) n = []
notes_in (enumeration e) n = []
notes_in (class c) n = record { item = c; first = n.funs } ∷ []
notes_in (function f) n = []

-- all classes, by their numbers
abbrev pub notes : List Counted → List Note
notes [] = []
notes (i ∷ is) = notes_in i.item i.before ++ notes is

abbrev pub note_of : MadeNote → Note
note_of n = record { item = class_of n.item.now; first = n.first }
