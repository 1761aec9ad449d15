-- What is known at a node: the tables of a program, and what was found at the nodes before it.
use Rattle.std.specs.Prelude.{ℕ, ◌+◌, Bool, false, List, [], ◌∷◌, ◌++◌, length, Option, Some, None}
use Rattle.std.specs.Prelude.{slice_get}
use Rattle.verse_tree.specs.Tree.{Bytes, Tree, Trees, no_trees, more_trees}
use Rattle.verse_tree.specs.ItemTree.{ItemTree, using, enumeration, class, function}
use Rattle.verse_tree.specs.declared.tables.Names.{Names}
use Rattle.verse_tree.specs.declared.tables.Ref.{Ref}
use Rattle.verse_rules_types.specs.Types.{Ty, never, Class, classes_of}
use Rattle.verse_names_tables.specs.Notes.{Note}
use Rattle.verse_names_declarations.specs.Known.{Known, known}
use Rattle.verse_names_declarations.specs.Lines.{Members, all_members}
use Rattle.verse_check_typing.specs.Refs.{ref_at}
use Rattle.verse_rules_walk.specs.Nodes.{number_of_tree}
use Rattle.verse_check_typing.specs.Sets.{with_names}

-- the tables of a program
pub record World : Type 0 where
  pub names : Names
  -- the names of the members of each class
  pub members : List Members
  -- the names of the values of each enum
  pub values : List (List Bytes)

-- with what was found at the nodes before this one, by their numbers
pub record Facts : Type 0 where
  pub world : World
  pub types : List Ty
  -- what they refer to, members among them
  pub refs : List (Option Ref)
  -- whether they define variables
  pub vars : List Bool
  -- the loops that a `break` among them leaves
  pub left : List ℕ

abbrev pub classes : Facts → List Class
classes f = classes_of f.world.names.classes

-- what the names pass found for the node with this number
abbrev pub named_ref : Facts → ℕ → Option Ref
named_ref f n = ref_at f.world.names.refs n

abbrev pub or_never : Option Ty → Ty
or_never None = never
or_never (Some t) = t

-- the type of the node with this number
abbrev pub type_at : List Ty → ℕ → Ty
type_at ts n = or_never (slice_get ts n)

-- the type of a part
abbrev pub type_of : Facts → Tree → Ty
type_of f e = type_at f.types (number_of_tree e)

abbrev pub or_false : Option Bool → Bool
or_false None = false
or_false (Some b) = b

-- the node with this number defines a variable
abbrev pub var_at : List Bool → ℕ → Bool
var_at vs n = or_false (slice_get vs n)

abbrev pub members_from : Known → ℕ → List Class → List Members
members_from k c [] = []
members_from k c (o ∷ os) = all_members k c ∷ members_from k (c + 1) os

-- the names of the members of all classes
abbrev pub class_members : Known → List Members
class_members k = members_from k 0 k.outline

abbrev pub item_values : ItemTree → List (List Bytes)
item_values (using u) = []
item_values (enumeration e) = with_names e.values [] ∷ []
item_values (class c) = []
item_values (function f) = []

-- the names of the values of all enums
abbrev pub enum_values : List ItemTree → List (List Bytes)
enum_values [] = []
enum_values (i ∷ is) = item_values i ++ enum_values is

-- the tables of a program with these items
abbrev pub world_of : Names → List ItemTree → World
world_of k is = record { names = k; members = class_members (known is); values = enum_values is }
