-- What numbers and their words have in common.
use Rattle.std.specs.Prelude.{◌≡◌, ℕ, ℤ, List, Some}
use Rattle.std.specs.Fmt.{signed_decimal}
use Rattle.verse_listing_format.specs.Numbers.{Fits, number_of}

abbrev pub WrittenIsRead : Type 0
WrittenIsRead = (n : ℤ) → Fits n → number_of (signed_decimal n) ≡ Some (Some n)

abbrev pub ReadIsWritten : Type 0
ReadIsWritten = (word : List ℕ) (n : ℤ) → number_of word ≡ Some (Some n) → Fits n ×
    (word ≡ signed_decimal n)
