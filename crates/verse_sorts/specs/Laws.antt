-- Which sorts fit themselves, none and any.
use Rattle.std.specs.Prelude.{◌≡◌, ◌≢◌, ℕ, Option}
use Rattle.verse_sorts.specs.Sorts as s
use Rattle.verse_sorts.specs.Sorts.{Sort, Fits}

-- each sort fits itself and none; all but none fit any, and none fits none alone
abbrev pub SortsFit : Type 0
SortsFit = (up : ℕ → Option ℕ) (a : Sort) → Fits up a a × Fits up a s.none ×
    (a ≢ s.none → Fits up a s.any) × (Fits up s.none a → a ≡ s.none)

-- a sort fits what each sort that it fits fits
abbrev pub FitsLead : Type 0
FitsLead = (up : ℕ → Option ℕ) (a b c : Sort) → Fits up a b → Fits up b c → Fits up a c
