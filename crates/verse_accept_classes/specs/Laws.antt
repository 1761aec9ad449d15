-- Laws of the tables of a program against its items.
use Rattle.std.specs.Prelude.{◌≡◌, ℕ, ◌<◌, Bool, List, [], map, length, Some, slice_get}
use Rattle.verse_tree.specs.Tree.{Bytes, Written}
use Rattle.verse_tree.specs.ItemTree.{FieldTree, FunTree, ItemTree}
use Rattle.verse_tree.specs.declared.tables.FieldInfo.{FieldInfo}
use Rattle.verse_tree.specs.Shapes.{ItemsShaped}
use Rattle.verse_rules_types.specs.Fitting.{parent_of}
use Rattle.verse_rules_walk.specs.Around.{Around}
use Rattle.verse_rules_walk.specs.Order.{AreNumbered}
use Rattle.verse_names_tables.specs.Names.{Table}
use Rattle.verse_names_tables.specs.Functions.{fun_function, spelled}
use Rattle.verse_names_declarations.specs.Known.{known}
use Rattle.verse_names_items.specs.Nodes.{ItemsBreak}
use Rattle.verse_names_items.specs.Tables.{field_info, methods_of}
use Rattle.verse_names_scopes.specs.Visible.{World, inside, outside}
use Rattle.verse_check_typing.specs.Spelling.{spelled_by}
use Rattle.verse_check_typing.specs.Members.{fields_of, field_by, method_by}
use Rattle.verse_rules.specs.Naming.{made_function, made_field, named}
use Rattle.verse_rules.specs.Sound.{completed, IsSound}
use Rattle.verse_meaning.specs.Programs.{fun_of_info}
use Rattle.verse_accept_scopes.specs.Holding.{OnWritten, OnFun, OnField}
use Rattle.verse_accept_rows.specs.Found.{final, Found}
use Rattle.verse_accept_classes.specs.Owners.{Owned, owned, world_in}
use Rattle.verse_accept_classes.specs.Inheriting.{Above, Over}
use Rattle.verse_accept_classes.specs.Referring.{IsMethod, Names}
use Rattle.verse_accept_classes.specs.Referring as items

-- no rule of items and members is broken
abbrev pub Quiet : List ItemTree → Type 0
Quiet is = (n c : ℕ) → ItemsBreak is n c → ⊥

-- ---- functions

-- the table has the function of a number, and finds it among the items
pub record FunctionsStand (is : List ItemTree) : Type 0 where
  pub info : (g : ℕ) (o : Owned) → slice_get (owned (known is).items) g ≡ Some o →
      slice_get (completed is).funs g ≡
      Some (made_function (fun_function (known is).index.types o.tree))
  pub found : (g : ℕ) (o : Owned) → slice_get (owned (known is).items) g ≡ Some o →
      fun_of_info is (slice_get (completed is).funs g) ≡ Some o.tree
  pub owner : (g : ℕ) (f : FunTree) → fun_of_info is (slice_get (completed is).funs g) ≡ Some f →
      (o : Owned) × (slice_get (owned (known is).items) g ≡ Some o) × (o.tree ≡ f)

abbrev pub FunctionsFound : Type 0
FunctionsFound = (is : List ItemTree) → AreNumbered is → FunctionsStand is

-- ---- fields

abbrev pub info_of : List ItemTree → FieldTree → FieldInfo
info_of is d = made_field (field_info (known is).index.types d)

-- the fields of a class by its number are those by the names of its ancestors
abbrev pub FieldsAgree : Type 0
FieldsAgree = (is : List ItemTree) → Quiet is → (c : ℕ) →
    fields_of (final is) c ≡ map (info_of is) (items.fields_of is c)

-- and the place of a field's name is that of the field
pub record NamesAgree (is : List ItemTree) (c : ℕ) : Type 0 where
  pub place : (x : Bytes) (i : ℕ) → field_by (final is) c x ≡ Some i →
      (d : FieldTree) × (slice_get (items.fields_of is c) i ≡ Some d) × (d.name ≡ x)
  pub named : (i : ℕ) (d : FieldTree) → slice_get (items.fields_of is c) i ≡ Some d →
      field_by (final is) c d.name ≡ Some i
  pub method : (x : Bytes) (m : ℕ) → method_by (final is) c x ≡ Some m → IsMethod is c m

abbrev pub FieldNamesAgree : Type 0
FieldNamesAgree = (is : List ItemTree) → Quiet is → (c : ℕ) → c < length (known is).outline →
    NamesAgree is c

-- ---- inheritance

-- a class has the fields of its parent at their places, and at each place of its methods one that
-- may stand there
pub record Inherits (is : List ItemTree) (c p : ℕ) : Type 0 where
  pub fields : (i : ℕ) (d : FieldTree) → slice_get (items.fields_of is p) i ≡ Some d →
      slice_get (items.fields_of is c) i ≡ Some d
  pub methods : (m g : ℕ) → slice_get (methods_of (known is) p) m ≡ Some g →
      (n : ℕ) × (slice_get (methods_of (known is) c) m ≡ Some n) × Over (known is) g n

abbrev pub ClassesInherit : Type 0
ClassesInherit = (is : List ItemTree) → Quiet is → (c p : ℕ) →
    parent_of (known is).outline c ≡ Some p → Inherits is c p

-- a method of a class is written in it or in one above it
pub record IsOwned (is : List ItemTree) (c g : ℕ) : Type 0 where
  pub class : ℕ
  pub tree : FunTree
  pub there : slice_get (owned (known is).items) g ≡
      Some (record { class = Some class; tree = tree })
  pub above : Above (known is).outline c class

abbrev pub MethodsOwned : Type 0
MethodsOwned = (is : List ItemTree) → Quiet is → (c m g : ℕ) →
    slice_get (methods_of (known is) c) m ≡ Some g → IsOwned is c g

-- ---- names

abbrev pub NamesStand : Type 0
NamesStand = (is : List ItemTree) → Quiet is → Names is (outside (known is)) ×
    ((c : ℕ) → Names is (inside (known is) c))

-- what is written is the same type by what its names refer to and by the names of classes and enums
abbrev pub WrittenAgrees : Type 0
WrittenAgrees = (is : List ItemTree) (w : World) → w.types ≡ (known is).index.types →
    (a : Around) (b : Bool) (xs : Table) (ty : Written) → OnWritten (Found is) w a b xs ty →
    spelled_by (named is).refs ty ≡ spelled (known is).index.types ty

-- ---- what is found

-- at the nodes of the body of each function and method
abbrev pub BodiesFound : Type 0
BodiesFound = (is : List ItemTree) → ItemsShaped is → AreNumbered is → IsSound is →
    (g : ℕ) (o : Owned) → slice_get (owned (known is).items) g ≡ Some o →
    OnFun (Found is) (world_in (known is) o.class) [] o.tree

-- and of each field of a class, with its default
abbrev pub FieldsFound : Type 0
FieldsFound = (is : List ItemTree) → ItemsShaped is → AreNumbered is → IsSound is →
    (c i : ℕ) (d : FieldTree) → slice_get (items.fields_of is c) i ≡ Some d →
    OnField (Found is) (outside (known is)) [] d
