-- The functions and methods of a program, by their numbers, each with its class.
use Rattle.std.specs.Prelude.{ℕ, List, [], ◌∷◌, ◌++◌, Option, Some, None}
use Rattle.verse_tree.specs.ItemTree.{FunTree, MemberTree, field, method, ItemTree, using}
use Rattle.verse_tree.specs.ItemTree.{enumeration, class, function}
use Rattle.verse_names_tables.specs.Counting.{Counted}
use Rattle.verse_names_tables.specs.declared.counting.Counts.{Counts}
use Rattle.verse_names_declarations.specs.Known.{Known}
use Rattle.verse_names_scopes.specs.Visible.{World, inside, outside}

pub record Owned : Type 0 where
  -- of a method the class in which it stands
  pub class : Option ℕ
  pub tree : FunTree

abbrev pub tree_of : Owned → FunTree
tree_of o = o.tree

abbrev pub methods_owned : ℕ → List MemberTree → List Owned
methods_owned c [] = []
methods_owned c (field d ∷ ms) = methods_owned c ms
methods_owned c (method f ∷ ms) = record { class = Some c; tree = f } ∷ methods_owned c ms

abbrev pub item_owned : ItemTree → Counts → List Owned
item_owned (using u) n = []
item_owned (enumeration e) n = []
item_owned (class c) n = methods_owned n.classes c.members
item_owned (function f) n = record { class = None; tree = f } ∷ []

abbrev pub owned : List Counted → List Owned
owned [] = []
owned (i ∷ is) = item_owned i.item i.before ++ owned is

-- what is visible in its body
abbrev pub world_in : Known → Option ℕ → World
world_in k None = outside k
world_in k (Some c) = inside k c
