-- Classes of bytes, and runs of them.
use Rattle.std.specs.Prelude.{ℕ, Bool, false, not, ◌==◌, ◌&&◌, ◌||◌, List, length, take_while}
use Rattle.std.specs.Prelude.{Option, Some, None, slice_get}
use Rattle.std.specs.Char.{is_ascii_digit, is_ascii_alphabetic, is_ascii_hexdigit}

-- a letter or `_`
abbrev pub is_letter : ℕ → Bool
is_letter b = is_ascii_alphabetic b || (b == 95)

abbrev pub is_digit : ℕ → Bool
is_digit b = is_ascii_digit b

abbrev pub is_hex_digit : ℕ → Bool
is_hex_digit b = is_ascii_hexdigit b

abbrev pub in_name : ℕ → Bool
in_name b = is_letter b || is_digit b

-- a space or a tab
abbrev pub is_blank : ℕ → Bool
is_blank b = (b == 32) || (b == 9)

-- neither a line feed nor a carriage return
abbrev pub in_line : ℕ → Bool
in_line b = not (b == 10) && not (b == 13)

abbrev pub passes : (ℕ → Bool) → Option ℕ → Bool
passes p None = false
passes p (Some b) = p b

abbrev pub letter_at : List ℕ → ℕ → Bool
letter_at bs n = passes is_letter (slice_get bs n)

abbrev pub digit_at : List ℕ → ℕ → Bool
digit_at bs n = passes is_digit (slice_get bs n)

abbrev pub hex_digit_at : List ℕ → ℕ → Bool
hex_digit_at bs n = passes is_hex_digit (slice_get bs n)

abbrev pub is_byte : Option ℕ → ℕ → Bool
is_byte None b = false
is_byte (Some c) b = c == b

-- this byte stands at this index
abbrev pub is_at : List ℕ → ℕ → ℕ → Bool
is_at bs n b = is_byte (slice_get bs n) b

-- how many bytes from the front pass the test
abbrev pub run : (ℕ → Bool) → List ℕ → ℕ
run p bs = length (take_while p bs)
