-- Writing a field at the end of what was written.
use Rattle.std.specs.Prelude.{◌≡◌, ℕ, List, ◌++◌}
use Rattle.verse_image.specs.Format.{Field}

-- new is old and then the field, whatever follows it
abbrev pub Writes : Field → List ℕ → List ℕ → Type 0
Writes field old new = (piece : List ℕ) × (new ≡ old ++ piece) ×
    ((rest : List ℕ) → field (piece ++ rest) rest)
