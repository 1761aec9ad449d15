-- What one item, or one member, adds to the lists of a program.
use Rattle.std.specs.Prelude.{List, [], ◌∷◌, ◌++◌}
use Rattle.verse_tree.specs.ItemTree.{EnumTree, FieldTree, MemberTree, field, method, ItemTree}
use Rattle.verse_tree.specs.ItemTree.{using, enumeration, class, function}
use Rattle.verse_tree.specs.declared.items.Item.{Item}
use Rattle.verse_tree.specs.declared.items.Item.TheVariants as item
use Rattle.verse_tree.specs.declared.items.ClassItem.{ClassItem}
use Rattle.verse_meaning.specs.Programs.{own_fields}
use Rattle.lower_code.specs.Defaults.{with_default, with_defaults}

abbrev pub enums_at : ItemTree → List EnumTree
enums_at (using u) = []
enums_at (enumeration e) = e ∷ []
enums_at (class c) = []
enums_at (function f) = []

-- classes, as the code has them
abbrev pub made_class : Item → List ClassItem
made_class (item.Using u) = []
made_class (item.Enum e) = []
made_class (item.Class c) = c ∷ []
made_class (item.Fun f) = []

abbrev pub made_classes : List Item → List ClassItem
made_classes [] = []
made_classes (i ∷ is) = made_class i ++ made_classes is

abbrev pub fields_at : MemberTree → List FieldTree
fields_at (field f) = f ∷ []
fields_at (method f) = []

abbrev pub default_at : MemberTree → List FieldTree
default_at (field f) = with_default f f.default
default_at (method f) = []

abbrev pub defaults_at : ItemTree → List FieldTree
defaults_at (using u) = []
defaults_at (enumeration e) = []
defaults_at (class c) = with_defaults (own_fields c.members)
defaults_at (function f) = []
