-- What is answered to the bytes of a file that is listed, and to those of one that is assembled.
use Rattle.std.specs.Prelude.{◌≡◌, ℕ, ◌-◌, List, length, Err}
use Rattle.verse_code.specs.declared.codes.Code.{Code}
use Rattle.verse_image.specs.Format.{Image, version_of}
use Rattle.verse_image.specs.Reading.{flaw, image_at}
use Rattle.verse_listing_format.specs.Format.{Listing}
use Rattle.verse_listing.specs.Reading.{listing_at}
use Rattle.verse_listing.specs.Reading as line
use Rattle.verse_top_texts.specs.Images.{image_line}
use Rattle.verse_top_texts.specs.Listings.{listing_line}

-- The bytes are the image of a code, whose listing is written; or they are none, by the first
-- failing place from the left.
pub data Lists (bytes : List ℕ) : ℕ → List ℕ → Type 0 where
  listed : (version : ℕ) (c : Code) (text : List ℕ) → Image version c bytes → Listing c text →
      Lists bytes 0 text
  no_image : (rule left : ℕ) → image_at bytes ≡ Err (flaw rule left) →
      Lists bytes 1 (image_line rule (length bytes - left))

-- The bytes are the listing of a code, whose image is written; or they are none, by the first
-- failing line.
pub data Assembles (bytes : List ℕ) : ℕ → List ℕ → Type 0 where
  assembled : (c : Code) (image : List ℕ) → Listing c bytes → Image (version_of c) c image →
      Assembles bytes 0 image
  no_listing : (rule at : ℕ) → listing_at bytes ≡ Err (line.flaw rule at) →
      Assembles bytes 1 (listing_line rule at)

abbrev pub ListedOnce : Type 0
ListedOnce = (bytes : List ℕ) (s t : ℕ) (x y : List ℕ) → Lists bytes s x → Lists bytes t y →
    (s ≡ t) × (x ≡ y)

abbrev pub AssembledOnce : Type 0
AssembledOnce = (bytes : List ℕ) (s t : ℕ) (x y : List ℕ) → Assembles bytes s x →
    Assembles bytes t y → (s ≡ t) × (x ≡ y)

-- what is listed of an image of a code is assembled to the image that is written of the code
abbrev pub ListedIsAssembled : Type 0
ListedIsAssembled = (bytes text image : List ℕ) (status : ℕ) (c : Code) (version : ℕ) →
    Image version c bytes → Lists bytes 0 text → Assembles text status image → (status ≡ 0) ×
    Image (version_of c) c image
