-- Sorts, and which fit which. A class inherits by the parents that the notes give.
use Rattle.std.specs.Prelude.{◌≡◌, ℕ, Option, Some}

mutual
  pub data Sort : Type 0 where
    -- asks nothing of a local; of any value; of what gives no value
    none any never : Sort
    unit nil int logic char : Sort
    -- the low end of a range: an int, or unit where the range is over
    span : Sort
    enum obj : ℕ → Sort
    var event task opt list : Sort → Sort
    map : (key value : Sort) → Sort
    tuple : Sorts → Sort

  pub data Sorts : Type 0 where
    no_sorts : Sorts
    more_sorts : Sort → Sorts → Sorts

-- not that of a local of which nothing is known
abbrev pub IsKnown : Sort → Type 0
IsKnown none = ⊥
IsKnown s = Unit {0}

-- each sort fits itself and none; all but none fit any
module _ (up : ℕ → Option ℕ) where
  pub data Inherits : ℕ → ℕ → Type 0 where
    itself : {c : ℕ} → Inherits c c
    above : {c d e : ℕ} → up c ≡ Some d → Inherits d e → Inherits c e

  mutual
    pub data Fits : Sort → Sort → Type 0 where
      to_none : {s : Sort} → Fits s none
      to_any : {s : Sort} → IsKnown s → Fits s any
      from_never : {s : Sort} → Fits never s
      fits_unit : Fits unit unit
      fits_nil : Fits nil nil
      fits_int : Fits int int
      fits_logic : Fits logic logic
      fits_char : Fits char char
      fits_span : Fits span span
      nil_logic : Fits nil logic
      nil_opt : {s : Sort} → Fits nil (opt s)
      int_span : Fits int span
      unit_span : Fits unit span
      fits_enum : {e : ℕ} → Fits (enum e) (enum e)
      fits_obj : {c d : ℕ} → Inherits c d → Fits (obj c) (obj d)
      fits_var : {s : Sort} → Fits (var s) (var s)
      fits_event : {s : Sort} → Fits (event s) (event s)
      fits_task : {s t : Sort} → Fits s t → Fits (task s) (task t)
      fits_opt : {s t : Sort} → Fits s t → Fits (opt s) (opt t)
      fits_list : {s t : Sort} → Fits s t → Fits (list s) (list t)
      fits_map : {k l s t : Sort} → Fits k l → Fits s t → Fits (map k s) (map l t)
      fits_tuple : {ss ts : Sorts} → FitAll ss ts → Fits (tuple ss) (tuple ts)

    pub data FitAll : Sorts → Sorts → Type 0 where
      fit_none : FitAll no_sorts no_sorts
      fit_more : {s t : Sort} {ss ts : Sorts} → Fits s t → FitAll ss ts →
          FitAll (more_sorts s ss) (more_sorts t ts)

-- sorts of keys
pub data IsKey : Sort → Type 0 where
  key_never : IsKey never
  key_nil : IsKey nil
  key_int : IsKey int
  key_logic : IsKey logic
  key_char : IsKey char
  key_enum : {e : ℕ} → IsKey (enum e)
  key_text : IsKey (list char)
