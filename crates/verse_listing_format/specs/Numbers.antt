-- Words that are numbers.
use Rattle.std.specs.Prelude.{ℕ, ◌+◌, ◌-◌, ◌*◌, ◌<◌, ℤ, pos, negsuc, Bool, true, false, not, ◌&&◌}
use Rattle.std.specs.Prelude.{nat_lt, nat_le, ◌==◌, if◌then◌else◌, min}
use Rattle.std.specs.Prelude.{List, [], ◌∷◌, Option, Some, None}

abbrev pub is_digit : ℕ → Bool
is_digit b = nat_le 48 b && nat_le b 57

abbrev pub are_digits : List ℕ → Bool
are_digits [] = true
are_digits (d ∷ ds) = is_digit d && are_digits ds

-- it is not empty, and begins with 0 only where 0 is all
abbrev pub begins_well : List ℕ → Bool
begins_well [] = false
begins_well (d ∷ []) = true
begins_well (d ∷ e ∷ ds) = not (d == 48)

abbrev pub is_natural : List ℕ → Bool
is_natural word = begins_well word && are_digits word

-- the number that goes on with these digits
abbrev pub value_on : ℕ → List ℕ → ℕ
value_on n [] = n
value_on n (d ∷ ds) = value_on (n * 10 + (d - 48)) ds

abbrev pub value : List ℕ → ℕ
value ds = value_on 0 ds

-- A number of a listing, where it has 64 bits. None is a number that is wider, and suits no field.
abbrev pub Number : Type 0
Number = Option ℤ

abbrev pub plain : ℕ → Number
plain n = if nat_lt n 9223372036854775808 then Some (pos n) else None

abbrev pub negated : ℕ → Number
negated n = if nat_le n 9223372036854775808 then Some (negsuc (n - 1)) else None

-- a number has 64 bits
abbrev pub Fits : ℤ → Type 0
Fits (pos n) = n < 9223372036854775808
Fits (negsuc n) = n < 9223372036854775808

-- the number that a word is: digits, or `-` and digits other than 0; None where it is no number
abbrev pub number_of : List ℕ → Option Number
number_of [] = None
number_of (b ∷ bytes) =
    if b == 45 then (if is_natural bytes &&
    nat_lt 0 (value bytes) then Some (negated (value bytes)) else None)
    else (if is_natural (b ∷ bytes) then Some (plain (value (b ∷ bytes))) else None)

-- the greatest number that is counted; a greater one counts as this
abbrev pub MOST : ℕ
MOST = 18446744073709551615

abbrev pub natural_of : List ℕ → Option ℕ
natural_of word = if is_natural word then Some (min (value word) MOST) else None
