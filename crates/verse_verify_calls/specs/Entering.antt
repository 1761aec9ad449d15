-- What operations do that call or spawn a function.
use Rattle.std.specs.Prelude.{ℕ, suc, List, [], ◌∷◌, length, Some}
use Rattle.verse_meaning_state.specs.Waits.{eqn}
use Rattle.verse_sorts.specs.Sorts.{Sort}
use Rattle.verse_verify_kept.specs.Notes.{FuncNote}
use Rattle.verse_verify_faults.specs.Fitting.{each_fit}
use Rattle.verse_verify_faults.specs.Stepping as t
use Rattle.verse_verify_faults.specs.Stepping.{Stepped, leads, need, goes_on, to}
use Rattle.verse_verify_parts.specs.declared.heres.Here.{Here}
use Rattle.verse_verify_parts.specs.Heres.{code_in, table_in, spot_in, classes_in}

module _ (h : Here) where
  -- pushes what it made
  abbrev pub pushes : t.Made → List Sort → Stepped
  pushes m st = goes_on (code_in h) (table_in h) (spot_in h) h.index (m ∷ []) st

  -- the same, and calls or spawns a function
  abbrev pub enters : FuncNote → t.Made → List Sort → Stepped
  enters g m st = leads (to (code_in h) (table_in h) (spot_in h) h.index (suc h.index) (m ∷ []) st ∷
      []) [] (Some g)

  -- a method of an object, with so many arguments
  abbrev pub enters_method : FuncNote → (count : ℕ) → t.Made → (object : Sort) →
      (args st : List Sort) → Stepped
  enters_method g k m a xs st =
      need 6 (eqn (length g.params) (suc k))
      (need 5 (each_fit (classes_in h) (a ∷ xs) g.params) (enters g m st))
