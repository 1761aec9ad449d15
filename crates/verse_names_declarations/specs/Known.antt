-- What is known of the items of a program before its bodies are looked at.
use Rattle.std.specs.Prelude.{List, [], ◌∷◌, ◌++◌, map}
use Rattle.verse_tree.specs.ItemTree.{MemberTree, field, method, ItemTree, using, enumeration}
use Rattle.verse_tree.specs.ItemTree.{class, function}
use Rattle.verse_rules_types.specs.Types.{Class, classes_of}
use Rattle.verse_names_tables.specs.Names.{Table}
use Rattle.verse_names_tables.specs.Functions.{Function, fun_function, function_of}
use Rattle.verse_names_tables.specs.Counting.{Counted, counted, counted_of, no_counts}
use Rattle.verse_names_tables.specs.Notes.{Note, notes, note_of}
use Rattle.verse_names_tables.specs.Indexing.{Index, index_all, no_index, outlined, index_of}
use Rattle.verse_names_declarations.specs.declared.known.Known.{Known as Made}

abbrev pub member_functions : Table → MemberTree → List Function
member_functions ts (field d) = []
member_functions ts (method f) = fun_function ts f ∷ []

abbrev pub members_functions : Table → List MemberTree → List Function
members_functions ts [] = []
members_functions ts (m ∷ ms) = member_functions ts m ++ members_functions ts ms

abbrev pub item_functions : Table → ItemTree → List Function
item_functions ts (using u) = []
item_functions ts (enumeration e) = []
item_functions ts (class c) = members_functions ts c.members
item_functions ts (function f) = fun_function ts f ∷ []

-- all functions and methods, by their numbers
abbrev pub functions : Table → List Counted → List Function
functions ts [] = []
functions ts (i ∷ is) = item_functions ts i.item ++ functions ts is

pub record Known : Type 0 where
  pub items : List Counted
  pub index : Index
  pub notes : List Note
  pub outline : List Class
  pub functions : List Function

abbrev pub known_by : List Counted → Index → Known
known_by is x = record {
  items = is;
  index = x;
  notes = notes is;
  outline = map (outlined x.classes) (notes is);
  functions = functions x.types is;
}

abbrev pub known : List ItemTree → Known
known is = known_by (counted no_counts is) (index_all (counted no_counts is) no_index)

abbrev pub known_of : Made → Known
known_of k = record {
  items = map counted_of k.items.items;
  index = index_of k.index;
  notes = map note_of k.lineage.notes.items;
  outline = classes_of k.lineage.outline;
  functions = map function_of k.functions;
}
