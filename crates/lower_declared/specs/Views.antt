-- What borrowed items stand for.
use Rattle.std.specs.Prelude.{List, [], ◌∷◌, ◌++◌}
use denote.Ref.{Bor}
use Rattle.verse_tree.specs.ItemTree.{EnumTree, FieldTree, ClassTree}
use Rattle.verse_tree.specs.ItemView.{enum_of, field_of, class_of}
use Rattle.verse_tree.specs.declared.items.EnumItem.{EnumItem}
use Rattle.verse_tree.specs.declared.items.ClassItem.{ClassItem}
use Rattle.verse_tree.specs.declared.items.Field.{Field}
use Rattle.verse_meaning.specs.Programs.{own_fields}

abbrev pub enum_now : Bor EnumItem → EnumTree
enum_now e = enum_of e.now

abbrev pub class_now : Bor ClassItem → ClassTree
class_now c = class_of c.now

abbrev pub class_here : Bor ClassItem → ClassItem
class_here c = c.now

abbrev pub field_now : Bor Field → FieldTree
field_now f = field_of f.now

-- the fields of a list of classes, the last class's first
abbrev pub all_taken : List (Bor ClassItem) → List FieldTree
all_taken [] = []
all_taken (c ∷ cs) = all_taken cs ++ own_fields (class_of c.now).members
