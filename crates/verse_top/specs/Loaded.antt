-- What an answer of the loader says.
use Rattle.std.specs.Prelude.{◌⊎◌, ◌<◌, ℕ, List, [], length, map, slice_index_or}
use Rattle.verse_outside.specs.Causes.{Rose}
use Rattle.verse_outside.specs.Held.{Holding}
use Rattle.verse_top.specs.Loading.{AreLoaded, IsAbsent, IsTooLarge}
use Rattle.verse_top.specs.declared.loading.Loading.{Loading}
use Rattle.verse_top.specs.declared.loading.Loading.TheVariants as l

abbrev pub Comes : Holding → (before now : ℕ) → List (List ℕ) → Loading → Type 0
Comes held before now names (l.All files) = AreLoaded held names (map (λ f. f.items) files.items)
Comes held before now names (l.TooLarge file) = IsTooLarge held 0 names file
Comes held before now names (l.Failed file) = (file < length names) ×
    (Rose before now ⊎ IsAbsent held names (slice_index_or names file []))
