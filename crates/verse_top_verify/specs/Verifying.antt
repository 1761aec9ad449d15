-- What is answered to the bytes of an image and of its notes.
use Rattle.std.specs.Prelude.{◌≡◌, ◌≢◌, ℕ, ◌-◌, ℤ, List, length, Err, Some, None}
use Rattle.verse_code.specs.declared.codes.Code.{Code}
use Rattle.verse_value.specs.declared.runs.Ending.TheVariants as ending
use Rattle.verse_code_machine.specs.Runs.{mach}
use Rattle.verse_image.specs.Format.{Image}
use Rattle.verse_image.specs.Reading.{flaw, image_at}
use Rattle.verse_verify_faults.specs.Reading.{verdict}
use Rattle.verse_top_texts.specs.Images.{image_line}
use Rattle.verse_top_texts.specs.Verdicts.{notes_line, ok_line}

-- The bytes are the image of a code, of which the notes break no rule, or this one first; or they
-- are no image, by the first failing place.
pub data Verifies (bytes notes : List ℕ) : ℕ → List ℕ → Type 0 where
  passed : (version : ℕ) (c : Code) → Image version c bytes → verdict c notes ≡ None →
      Verifies bytes notes 0 ok_line
  broken : (version : ℕ) (c : Code) (rule at : ℕ) → Image version c bytes →
      verdict c notes ≡ Some (rule, at) → Verifies bytes notes 1 (notes_line rule at)
  no_image : (rule left : ℕ) → image_at bytes ≡ Err (flaw rule left) →
      Verifies bytes notes 1 (image_line rule (length bytes - left))

abbrev pub VerifiedOnce : Type 0
VerifiedOnce = (bytes notes : List ℕ) (s t : ℕ) (x y : List ℕ) → Verifies bytes notes s x →
    Verifies bytes notes t y → (s ≡ t) × (x ≡ y)

-- an image whose notes pass is the image of a code that is never stuck, for all inputs, bounds of
-- steps and horizons
abbrev pub PassedIsNeverStuck : Type 0
PassedIsNeverStuck = (bytes notes text : List ℕ) (version : ℕ) (c : Code) →
    Image version c bytes → Verifies bytes notes 0 text →
    (ns : List ℤ) (steps until : ℕ) → (mach c ns steps until).ending ≢ ending.Stuck
