-- What is known of a class whose members are made.
use Rattle.std.specs.Prelude.{◌≡◌, ℕ, suc, ◌<◌, List, Option, Some, None, slice_get}
use Rattle.verse_rules_types.specs.Types.{Class}
use Rattle.verse_rules_types.specs.Fitting.{parent_of}
use Rattle.verse_rules_types.specs.Depths.{height}
use Rattle.verse_names_tables.specs.Notes.{Note}
use Rattle.verse_names_declarations.specs.Members.{members_of, members_view, line, on_class}
use Rattle.verse_names_declarations.specs.declared.members.Members.{Members}
use Rattle.verse_names_declarations.specs.declared.descents.Descent.{Descent}

-- so many classes stand above it
abbrev pub Descends : List Class → ℕ → ℕ → Type 0
Descends cs depth c = height cs c ≡ Some depth

-- the members are those of the class and of all classes above it
pub record Tells (ns : List Note) (cs : List Class) (c : ℕ) (d : Descent) : Type 0 where
  pub descends : Descends cs d.depth c
  pub class : d.members.class ≡ c
  pub told : (n : ℕ) → d.depth < n → members_view d.members ≡ members_of ns c (line cs n c)

-- the members are those of all classes above it
pub record TellsAbove (ns : List Note) (cs : List Class) (c : ℕ) (d : Descent) : Type 0 where
  pub descends : Descends cs d.depth c
  pub class : d.members.class ≡ c
  pub told : (n : ℕ) → d.depth < suc n →
      members_view d.members ≡ members_of ns c (on_class (parent_of cs c) (line cs n))

abbrev pub entry_in : Option (Option Descent) → Option Descent
entry_in None = None
entry_in (Some o) = o

abbrev pub AreTraced : List Note → List Class → List (Option Descent) → Type 0
AreTraced ns cs ds = (c : ℕ) (d : Descent) → slice_get ds c ≡ Some (Some d) → Tells ns cs c d
