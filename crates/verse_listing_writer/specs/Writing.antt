-- The text of words and of a line, as it is written piece by piece.
use Rattle.std.specs.Prelude.{ℕ, List, [], ◌∷◌, ◌++◌, All}
use Rattle.verse_code.specs.declared.codes.Code.{Code}
use Rattle.verse_listing_format.specs.Format.{AreBytes, IsNumber, IsSizedPlace, Line, Word, spaced}

-- a space before each word
abbrev pub behind : List Word → List ℕ
behind [] = []
behind (word ∷ words) = 32 ∷ (word ++ behind words)

-- a line and its line feed
abbrev pub line_text : Line → List ℕ
line_text line = spaced line ++ 10 ∷ []

-- the numbers of the tables have the bits of their fields
pub record AreSizedTables (code : Code) : Type 0 where
  pub texts : All AreBytes code.texts
  pub places : All IsSizedPlace code.places
  pub classes : All (λ c. IsNumber c.slots) code.classes
