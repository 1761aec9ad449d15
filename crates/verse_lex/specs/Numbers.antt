-- The numbers that digits spell.
use Rattle.std.specs.Prelude.{ℕ, ◌+◌, ◌-◌, ◌*◌, ◌^◌, nat_lt, if◌then◌else◌, List, [], ◌∷◌, ◌++◌}
use Rattle.std.specs.Prelude.{length}
use Rattle.verse_lex.specs.Bytes.{is_digit}

-- the decimal number that goes on with these digits
abbrev pub decimal_on : ℕ → List ℕ → ℕ
decimal_on n [] = n
decimal_on n (d ∷ ds) = decimal_on (n * 10 + (d - 48)) ds

abbrev pub decimal : List ℕ → ℕ
decimal ds = decimal_on 0 ds

-- what a hexadecimal digit is worth
abbrev pub hex_value : ℕ → ℕ
hex_value d = if is_digit d then d - 48 else (if nat_lt d 97 then d - 55 else d - 87)

abbrev pub hexadecimal_on : ℕ → List ℕ → ℕ
hexadecimal_on n [] = n
hexadecimal_on n (d ∷ ds) = hexadecimal_on (n * 16 + hex_value d) ds

abbrev pub hexadecimal : List ℕ → ℕ
hexadecimal ds = hexadecimal_on 0 ds

-- a thousand times the number with these digits before and behind the point, of which at most three
-- are behind it
abbrev pub thousandths : List ℕ → List ℕ → ℕ
thousandths whole fraction = decimal (whole ++ fraction) * 10 ^ (3 - length fraction)
