-- What stands before a failing place.
use Rattle.std.specs.Prelude.{◌≡◌, ◌⊎◌, ◌≤◌, ℕ, List, ◌++◌, length, take, Result, Ok, Err}
use Rattle.verse_code.specs.declared.codes.Code.{Code}
use Rattle.verse_image.specs.declared.faults.Flaw.{Flaw}
use Rattle.verse_image.specs.declared.faults.ImageFault.{ImageFault}
use Rattle.verse_image.specs.declared.faults.ImageFault.TheVariants as images
use Rattle.verse_image.specs.Reading.{flaw, image_at}

-- The bytes before a failing place are an image, where bytes behind one fail (I7), and have
-- otherwise no fault but that they end (I3).
abbrev pub FrontOf : ℕ → Result Code Flaw → Type 0
FrontOf rule (Ok code) = rule ≡ 7
FrontOf rule (Err g) = g ≡ flaw 3 0

abbrev pub FrontHasNoFault : Type 0
FrontHasNoFault = (bytes : List ℕ) (f : Flaw) → image_at bytes ≡ Err f →
    (f ≡ flaw 3 0) ⊎ ((f.left ≤ length bytes) ×
    ((front behind : List ℕ) → bytes ≡ front ++ behind → length behind ≡ f.left →
    FrontOf f.rule (image_at front)))

-- a fault that is answered: its rule is I3, or what stands before its offset has no fault but that
-- it ends
abbrev pub NoneBefore : List ℕ → Result Code ImageFault → Type 0
NoneBefore bytes (Ok code) = Unit {0}
NoneBefore bytes (Err images.Memory) = Unit {0}
NoneBefore bytes (Err (images.Bad rule at)) = (rule ≡ 3) ⊎ FrontOf rule (image_at (take at bytes))
