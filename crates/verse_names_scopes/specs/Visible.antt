-- Which names are visible at a place, and what they stand for there.
use Rattle.std.specs.Prelude.{ℕ, ◌+◌, List, [], ◌∷◌, ◌++◌, Option, Some, None}
use Rattle.verse_tree.specs.Tree.{Bytes}
use Rattle.verse_tree.specs.declared.tables.Ref.{Ref}
use Rattle.verse_tree.specs.declared.tables.Ref.TheVariants as ref
use Rattle.verse_names_tables.specs.Names.{Table, look, keep, names}
use Rattle.verse_names_tables.specs.Words.{builtins}
use Rattle.verse_names_declarations.specs.Known.{Known}
use Rattle.verse_names_declarations.specs.Lines.{Members, all_members}

-- what is visible throughout a body
pub record World : Type 0 where
  pub items : Table
  -- the items that are classes or enums
  pub types : Table
  -- in a method, the members of its class and of its ancestors
  pub members : Table
  -- in a method, the class of `Self`
  pub class : Option ℕ

-- the names of methods, each with its place
abbrev pub with_methods : (class place : ℕ) → List Bytes → Table → Table
with_methods c i [] t = t
with_methods c i (x ∷ xs) t = with_methods c (i + 1) xs (keep x (ref.Method c i) t)

-- the members of a class, which are visible by bare name in its methods
abbrev pub bare_table : ℕ → Members → Table
bare_table c m = with_methods c 0 (names m.methods) m.fields

abbrev pub bare_members : Known → ℕ → Table
bare_members k c = bare_table c (all_members k c)

-- in a method of a class
abbrev pub inside : Known → ℕ → World
inside k c = record {
  items = k.index.items;
  types = k.index.types;
  members = bare_members k c;
  class = Some c;
}

-- in a function that is no method, and in a field's default: neither members nor `Self` are visible
abbrev pub outside : Known → World
outside k = record { items = k.index.items; types = k.index.types; members = []; class = None }

abbrev pub either : Option Ref → Option Ref → Option Ref
either (Some r) o = Some r
either None o = o

abbrev pub visible_throughout : World → Bytes → Option Ref
visible_throughout w x = either (look x w.members) (either (look x w.items) (look x builtins))

-- what a name stands for, by the local names that are visible, the oldest first
abbrev pub visible : World → Table → Bytes → Option Ref
visible w s x = either (look x s) (visible_throughout w x)

abbrev pub with_name : Bytes → Ref → Option Ref → Table → Table
with_name x r None s = s ++ (x, r) ∷ []
with_name x r (Some o) s = s

-- a name is visible from its definition on; one that is visible already keeps its meaning
abbrev pub with_local : World → Bytes → Ref → Table → Table
with_local w x r s = with_name x r (visible w s x) s
