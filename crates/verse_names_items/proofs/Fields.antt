-- The fields of a list of classes whose last class comes first.
use Rattle.std.proofs.Common.{◌≡◌, ℕ, List, [], ◌∷◌, ◌++◌, refl, ap, sym, ◌∙◌, append_assoc}
use Rattle.std.specs.Prelude.{slice_get}
use Rattle.verse_rules_types.specs.Types.{Field}
use Rattle.verse_names_tables.specs.Names.{Table}
use Rattle.verse_names_tables.specs.Notes.{Note}
use Rattle.verse_names_items.specs.Tables.{fields_of, own_fields, note_members}

field_nil : (fs : List Field) → fs ++ [] ≡ fs
field_nil [] = refl
field_nil (f ∷ fs) = ap (λ l. f ∷ l) (field_nil fs)

pub last_fields : (ts : Table) (ns : List Note) (ds : List ℕ) (d : ℕ) →
    fields_of ts ns (ds ++ d ∷ []) ≡ own_fields ts (note_members (slice_get ns d)) ++ fields_of ts ns ds
last_fields ts ns [] d = sym (field_nil (own_fields ts (note_members (slice_get ns d))))
last_fields ts ns (e ∷ ds) d = ap (λ l. l ++ own_fields ts (note_members (slice_get ns e))) (last_fields ts ns ds d) ∙
    append_assoc (own_fields ts (note_members (slice_get ns d))) (fields_of ts ns ds) (own_fields ts (note_members (slice_get ns e)))
