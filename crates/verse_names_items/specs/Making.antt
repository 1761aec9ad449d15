-- What is known of the fields of a class that are made.
use Rattle.std.specs.Prelude.{◌≡◌, ℕ, suc, ◌<◌, List, map, Option, Some, slice_get}
use Rattle.verse_tree.specs.declared.tables.FieldInfo.{FieldInfo}
use Rattle.verse_rules_types.specs.Types.{field_of}
use Rattle.verse_rules_types.specs.Fitting.{parent_of}
use Rattle.verse_names_declarations.specs.Known.{Known}
use Rattle.verse_names_declarations.specs.Lines.{line, on_class}
use Rattle.verse_names_declarations.specs.Descents.{Descends}
use Rattle.verse_names_items.specs.Tables.{fields_of}

-- the fields are those of the class and of all classes above it
pub record FieldsTold (k : Known) (c : ℕ) (fs : List FieldInfo) : Type 0 where
  pub depth : ℕ
  pub descends : Descends k.outline depth c
  pub told : (n : ℕ) → depth < n →
      map field_of fs ≡ fields_of k.index.types k.notes (line k.outline n c)

-- the fields are those of all classes above it
pub record FieldsAbove (k : Known) (c : ℕ) (fs : List FieldInfo) : Type 0 where
  pub depth : ℕ
  pub descends : Descends k.outline depth c
  pub told : (n : ℕ) → depth < suc n →
      map field_of fs ≡ fields_of k.index.types k.notes
      (on_class (parent_of k.outline c) (line k.outline n))

abbrev pub AreMade : Known → List (Option (List FieldInfo)) → Type 0
AreMade k ms = (c : ℕ) (fs : List FieldInfo) → slice_get ms c ≡ Some (Some fs) → FieldsTold k c fs
