-- Numbers: what is read is what is spelled, for every bound.
use Rattle.std.specs.Prelude.{◌≡◌, ℕ, zero, suc, ◌*◌, ◌<◌, ◌≤◌, Bool, List, length, get_or, Ok}
use Rattle.verse_image.specs.Format.{below, SignedSpelled}
use Rattle.verse_image.specs.Reading.{digits_at, signed_digits_at}

abbrev pub IsBytes : List ℕ → Type 0
IsBytes bytes = (i : ℕ) → get_or bytes i 0 < 256

-- what one byte and so many more can spell
abbrev pub room : ℕ → ℕ
room zero = 128
room (suc k) = 128 * room k

-- the sizes that one byte and so many more can spell
abbrev pub signed_room : ℕ → ℕ
signed_room zero = 64
signed_room (suc k) = 128 * signed_room k

abbrev pub ReadIsSpelled : Type 0
ReadIsSpelled = (most end : ℕ) (bytes : List ℕ) (x : ℕ × List ℕ) → 128 ≤ end → IsBytes bytes →
    digits_at most end (length bytes) bytes ≡ Ok x → below end x.0 bytes x.1

abbrev pub SpelledIsRead : Type 0
SpelledIsRead = (more end n : ℕ) (bytes rest : List ℕ) → below end n bytes rest → n < room more →
    digits_at (suc more) end (length bytes) bytes ≡ Ok (n, rest)

abbrev pub SignedIsSpelled : Type 0
SignedIsSpelled = (most end : ℕ) (bytes : List ℕ) (x : (Bool × ℕ) × List ℕ) → 64 ≤ end →
    IsBytes bytes → signed_digits_at most end (length bytes) bytes ≡ Ok x → (x.0.1 < end) ×
    SignedSpelled x.0.0 x.0.1 bytes x.1

abbrev pub SignedIsRead : Type 0
SignedIsRead = (more end : ℕ) (negative : Bool) (size : ℕ) (bytes rest : List ℕ) →
    SignedSpelled negative size bytes rest → size < end → size < signed_room more →
    signed_digits_at (suc more) end (length bytes) bytes ≡ Ok ((negative, size), rest)
