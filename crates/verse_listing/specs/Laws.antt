-- Laws of listings.
use Rattle.std.specs.Prelude.{◌≡◌, ℕ, suc, ◌≤◌, List, [], ◌++◌, length, Result, Ok, Err}
use Rattle.verse_code.specs.declared.codes.Code.{Code}
use Rattle.verse_listing_format.specs.Format.{Listing}
use Rattle.verse_listing_lines.specs.Lines.{pieces}
use Rattle.verse_listing.specs.declared.faults.Flaw.{Flaw}
use Rattle.verse_listing.specs.declared.faults.ListFault.{ListFault}
use Rattle.verse_listing.specs.declared.faults.ListFault.TheVariants as faults
use Rattle.verse_listing.specs.Reading.{flaw, listing_at}

abbrev pub ReadIsListed : Type 0
ReadIsListed = (bytes : List ℕ) (code : Code) → listing_at bytes ≡ Ok code → Listing code bytes

abbrev pub ListedIsRead : Type 0
ListedIsRead = (code : Code) (bytes : List ℕ) → Listing code bytes → listing_at bytes ≡ Ok code

-- how many line feeds there are
abbrev pub line_feeds : List ℕ → ℕ
line_feeds bytes = length (pieces 10 bytes).0

abbrev pub FaultStays : Type 0
FaultStays = (bytes more : List ℕ) (f : Flaw) → listing_at bytes ≡ Err f →
    f.line ≤ line_feeds bytes → listing_at (bytes ++ more) ≡ Err f

-- What the lines before a failing line give: a code, where the failing line follows the last; or
-- that the line is missing.
abbrev pub FrontOf : Flaw → Result Code Flaw → Type 0
FrontOf f (Ok code) = f.rule ≡ 1
FrontOf f (Err g) = g ≡ flaw 1 f.line

-- the bytes are so many whole lines
pub record AreLines (n : ℕ) (bytes : List ℕ) : Type 0 where
  pub many : line_feeds bytes ≡ n
  pub whole : (pieces 10 bytes).1 ≡ []

abbrev pub FrontHasNoFault : Type 0
FrontHasNoFault = (front behind : List ℕ) (f : Flaw) (n : ℕ) →
    listing_at (front ++ behind) ≡ Err f → f.line ≡ suc n → AreLines n front →
    FrontOf f (listing_at front)

-- a fault that is answered: the lines before its line have none
abbrev pub NoneBefore : List ℕ → Result Code ListFault → Type 0
NoneBefore bytes (Ok code) = Unit {0}
NoneBefore bytes (Err faults.Memory) = Unit {0}
NoneBefore bytes (Err (faults.Bad rule line)) = (front behind : List ℕ) (n : ℕ) →
    bytes ≡ front ++ behind → line ≡ suc n → AreLines n front →
    FrontOf (flaw rule line) (listing_at front)
