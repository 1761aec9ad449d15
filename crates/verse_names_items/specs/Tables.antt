-- The tables of functions, classes and enums.
use Rattle.std.specs.Prelude.{ℕ, ◌+◌, List, [], ◌∷◌, ◌++◌, length, map, Option, Some, None}
use Rattle.std.specs.Prelude.{option_map, slice_get}
use Rattle.verse_tree.specs.Tree.{Tree, tree}
use Rattle.verse_tree.specs.ItemTree.{EnumTree, FieldTree, MemberTree, field, method, ItemTree}
use Rattle.verse_tree.specs.ItemTree.{using, enumeration, class, function}
use Rattle.verse_tree.specs.declared.tables.EnumInfo.{EnumInfo}
use Rattle.verse_rules_types.specs.Types.{Field, Class, classes_of}
use Rattle.verse_names_tables.specs.Names.{Table, meanings}
use Rattle.verse_names_tables.specs.Functions.{Function, function_of, spelled}
use Rattle.verse_names_tables.specs.Notes.{Note}
use Rattle.verse_names_declarations.specs.Known.{Known, known}
use Rattle.verse_names_declarations.specs.Lines.{line_of, all_members}
pub use Rattle.verse_names_declarations.specs.Lines.{fun_number, fun_numbers}
use Rattle.verse_names_items.specs.declared.tables.Tables.{Tables as Made}

abbrev pub tree_number : Tree → ℕ
tree_number (tree n p s) = n

abbrev pub field_info : Table → FieldTree → Field
field_info ts d = record {
  ty = spelled ts d.written;
  is_var = d.is_var;
  default =
      option_map tree_number d.default;
}

abbrev pub member_fields : Table → MemberTree → List Field
member_fields ts (field d) = field_info ts d ∷ []
member_fields ts (method f) = []

abbrev pub own_fields : Table → List MemberTree → List Field
own_fields ts [] = []
own_fields ts (m ∷ ms) = member_fields ts m ++ own_fields ts ms

abbrev pub note_members : Option Note → List MemberTree
note_members None = []
note_members (Some n) = n.item.members

-- the fields of a list of classes, those of the last class first
abbrev pub fields_of : Table → List Note → List ℕ → List Field
fields_of ts ns [] = []
fields_of ts ns (d ∷ ds) = fields_of ts ns ds ++ own_fields ts (note_members (slice_get ns d))

abbrev pub methods_of : Known → ℕ → List ℕ
methods_of k c = fun_numbers (meanings (all_members k c).methods)

abbrev pub class_fields : Known → ℕ → List Field
class_fields k c = fields_of k.index.types k.notes (line_of k.outline c)

-- a class with all its fields and methods, the root's first
abbrev pub class_table : Known → ℕ → Class → Class
class_table k c o = record {
  parent = o.parent;
  is_unique = o.is_unique;
  fields = class_fields k c;
  methods = methods_of k c;
}

abbrev pub class_tables_from : Known → ℕ → List Class → List Class
class_tables_from k c [] = []
class_tables_from k c (o ∷ os) = class_table k c o ∷ class_tables_from k (c + 1) os

-- all classes, by their numbers
abbrev pub class_tables : Known → List Class
class_tables k = class_tables_from k 0 k.outline

abbrev pub enum_info : EnumTree → EnumInfo
enum_info e = record { count = length e.values }

abbrev pub enum_table : ItemTree → List EnumInfo
enum_table (using u) = []
enum_table (enumeration e) = enum_info e ∷ []
enum_table (class c) = []
enum_table (function f) = []

-- all enums, by their numbers
abbrev pub enum_tables : List ItemTree → List EnumInfo
enum_tables [] = []
enum_tables (i ∷ is) = enum_table i ++ enum_tables is

pub record Tables : Type 0 where
  pub functions : List Function
  pub classes : List Class
  pub enums : List EnumInfo

abbrev pub tables_of : Made → Tables
tables_of t = record {
  functions = map function_of t.functions;
  classes = classes_of t.classes;
  enums = t.enums;
}

abbrev pub tables : List ItemTree → Tables
tables is = record {
  functions = (known is).functions;
  classes = class_tables (known is);
  enums =
      enum_tables is;
}
