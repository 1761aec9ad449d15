-- What the names of items stand for, and the classes with their parents.
use Rattle.std.specs.Prelude.{ℕ, List, [], ◌∷◌, Option, Some, None, codes}
use Rattle.verse_tree.specs.Tree.{Bytes}
use Rattle.verse_tree.specs.declared.tables.Ref.{Ref}
use Rattle.verse_tree.specs.declared.tables.Ref.TheVariants as ref
use Rattle.verse_rules_types.specs.Types.{Class}
use Rattle.verse_names_tables.specs.Names.{Table, Roll, look, keep_named, call_named}
use Rattle.verse_names_tables.specs.Views.{table_of, roll_of}
use Rattle.verse_names_tables.specs.Words.{has}
use Rattle.verse_names_tables.specs.Counting.{Counted, named_as, named_type_as, named_class_as}
use Rattle.verse_names_tables.specs.Notes.{Note}
use Rattle.verse_names_tables.specs.declared.indexing.Index.{Index as MadeIndex}

-- what the names of items stand for; of several items of one name the first counts
pub record Index : Type 0 where
  pub items : Table
  pub repeated : Roll
  -- of the classes and enums, and of the classes alone
  pub types : Table
  pub classes : Table

abbrev pub indexed : Counted → Index → Index
indexed i x = record {
  items = keep_named (named_as i.item i.before) x.items;
  repeated = call_named (named_as i.item i.before) x.repeated;
  types = keep_named (named_type_as i.item i.before) x.types;
  classes = keep_named (named_class_as i.item i.before) x.classes;
}

abbrev pub index_all : List Counted → Index → Index
index_all [] x = x
index_all (i ∷ is) x = index_all is (indexed i x)

abbrev pub no_index : Index
no_index = record { items = []; repeated = []; types = []; classes = [] }

abbrev pub class_number : Option Ref → Option ℕ
class_number None = None
class_number (Some (ref.Class c)) = Some c
class_number (Some r) = None

abbrev pub parent_number : Table → Option Bytes → Option ℕ
parent_number cs None = None
parent_number cs (Some x) = class_number (look x cs)

-- a class with its parent, and without its members
abbrev pub outlined : Table → Note → Class
outlined cs n = record {
  parent = parent_number cs n.item.parent;
  is_unique = has (codes "unique") n.item.class_specs;
  fields = [];
  methods = [];
}

abbrev pub index_of : MadeIndex → Index
index_of x = record {
  items = table_of x.items;
  repeated = roll_of x.repeated;
  types = table_of x.types;
  classes = table_of x.classes;
}
