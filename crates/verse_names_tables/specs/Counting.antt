-- How functions, classes and enums are numbered: each in the order of the items, and methods in the
-- place of their class.
use Rattle.std.specs.Prelude.{ℕ, ◌+◌, List, [], ◌∷◌, Option, Some, None}
use Rattle.verse_tree.specs.Tree.{Bytes}
use Rattle.verse_tree.specs.ItemTree.{MemberTree, field, method, ItemTree, using, enumeration}
use Rattle.verse_tree.specs.ItemTree.{class, function}
use Rattle.verse_tree.specs.ItemView.{item_of}
use Rattle.verse_tree.specs.declared.tables.Ref.{Ref}
use Rattle.verse_tree.specs.declared.tables.Ref.TheVariants as ref
use Rattle.verse_names_tables.specs.declared.counting.Counts.{Counts}
use Rattle.verse_names_tables.specs.declared.counting.Counted.{Counted as Made}

abbrev pub fun_after : MemberTree → ℕ → ℕ
fun_after (field d) n = n
fun_after (method f) n = n + 1

-- the number behind those of the methods
abbrev pub funs_after : List MemberTree → ℕ → ℕ
funs_after [] n = n
funs_after (m ∷ ms) n = funs_after ms (fun_after m n)

abbrev pub counts_after : ItemTree → Counts → Counts
counts_after (using u) n = n
counts_after (enumeration e) n = record { funs = n.funs; classes = n.classes; enums = n.enums + 1 }
counts_after (class c) n = record {
  funs = funs_after c.members n.funs;
  classes = n.classes + 1;
  enums = n.enums;
}
counts_after (function f) n = record { funs = n.funs + 1; classes = n.classes; enums = n.enums }

-- an item, and how many functions, classes and enums stand before it
pub record Counted : Type 0 where
  pub item : ItemTree
  pub before : Counts

abbrev pub counted_of : Made → Counted
counted_of i = record { item = item_of i.item.now; before = i.before }

abbrev pub counted : Counts → List ItemTree → List Counted
counted n [] = []
counted n (i ∷ is) = record { item = i; before = n } ∷ counted (counts_after i n) is

abbrev pub no_counts : Counts
no_counts = record { funs = 0; classes = 0; enums = 0 }

-- what the name of an item stands for
abbrev pub named_as : ItemTree → Counts → Option (Bytes × Ref)
named_as (using u) n = None
named_as (enumeration e) n = Some (e.name, ref.Enum n.enums)
named_as (class c) n = Some (c.name, ref.Class n.classes)
named_as (function f) n = Some (f.name, ref.Fun n.funs)

abbrev pub named_type_as : ItemTree → Counts → Option (Bytes × Ref)
named_type_as (using u) n = None
named_type_as (enumeration e) n = Some (e.name, ref.Enum n.enums)
named_type_as (class c) n = Some (c.name, ref.Class n.classes)
named_type_as (function f) n = None

abbrev pub named_class_as : ItemTree → Counts → Option (Bytes × Ref)
named_class_as (using u) n = None
named_class_as (enumeration e) n = None
named_class_as (class c) n = Some (c.name, ref.Class n.classes)
named_class_as (function f) n = None
