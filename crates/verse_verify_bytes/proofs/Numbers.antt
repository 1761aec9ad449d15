-- Numbers that are written are read.
use Rattle.std.proofs.Common.{◌≡◌, ℕ, zero, suc, ◌/◌, ◌<◌, Bool, true, false, ltb, inl, inr, List, ◌∷◌, ◌++◌, Ok, refl, arith}
use Rattle.std.proofs.lemmas.Bool.{cases_lt, lt-ltb, le-ltb}
use Rattle.verse_image.specs.Format as format
use Rattle.verse_image.specs.Format.{Spelled, one_byte, more_bytes, flag}
use Rattle.verse_image.specs.Numbers.{room}
use Rattle.verse_image.specs.Reading.{number_at}
use Rattle.verse_image.proofs.NumberLaws.{number_again, within_again, spelled_once}
use Rattle.verse_verify_faults.specs.Reading.{below}
use Rattle.verse_verify_bytes.specs.Bytes.{digits, number}
use Rattle.verse_verify_bytes.specs.Suits.{IsNumber}

spelled : (k n : ℕ) (rest : List ℕ) → n < room k → Spelled n (digits (suc k) n ++ rest) rest
spelled zero n rest lt =
    let e : ltb n 128 ≡ true = lt-ltb n 128 lt in
    rw e (one_byte lt)
spelled (suc k) n rest lt =
    elim (cases_lt n 128) [
      | inl low ↦ let e : ltb n 128 ≡ true = lt-ltb n 128 low in rw e (one_byte low)
      | inr high ↦
          let e : ltb n 128 ≡ false = le-ltb n 128 high in
          rw e (more_bytes high refl (spelled k (n / 128) rest (omega arith)))
    ]

-- a number of 64 bits is spelled so, and in no other way
pub one_spelling : (n : ℕ) (bytes rest : List ℕ) → n < 18446744073709551616 → Spelled n bytes rest → bytes ≡ number n ++ rest
one_spelling n bytes rest lt h = spelled_once h (spelled 9 n rest (omega (arith, lt)))

field : (n : ℕ) (rest : List ℕ) → IsNumber n → format.number n (number n ++ rest) rest
field n rest h = (h, spelled 9 n rest (omega (arith, h)))

pub number_back : (n : ℕ) (rest : List ℕ) → IsNumber n → number_at (number n ++ rest) ≡ Ok (n, rest)
number_back n rest h = number_again n (number n ++ rest) rest (field n rest h)

pub below_back : (end n : ℕ) (rest : List ℕ) → IsNumber n → n < end → below end (number n ++ rest) ≡ Ok (n, rest)
below_back end n rest h lt = within_again 0 end n (number n ++ rest) rest (field n rest h) (omega arith) lt

-- a number of one byte
pub byte_back : (end n : ℕ) (rest : List ℕ) → n < 128 → n < end → below end (n ∷ rest) ≡ Ok (n, rest)
byte_back end n rest one lt = within_again 0 end n (n ∷ rest) rest (omega (arith, one), one_byte one) (omega arith) lt

pub flag_back : (b : Bool) (rest : List ℕ) → below 2 (flag b ∷ rest) ≡ Ok (flag b, rest)
flag_back true rest = byte_back 2 1 rest (omega arith) (omega arith)
flag_back false rest = byte_back 2 0 rest (omega arith) (omega arith)
