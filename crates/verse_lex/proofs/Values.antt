-- The numbers that digits spell.
use Rattle.std.proofs.Common.{◌≡◌, ℕ, zero, suc, ◌+◌, ◌-◌, ◌*◌, ◌^◌, ◌<◌, ◌≤◌, List, [], ◌∷◌, ◌++◌, length, drop, get_or, refl, ap, arith}
use Rattle.std.proofs.Common.{drop-cons}
use Rattle.std.proofs.Math.Nat.{mul-le-mul_left, pow-suc}
use Rattle.verse_lex.specs.Numbers.{decimal_on, decimal, hexadecimal_on, hex_value, thousandths}

-- more digits make no number less
pub decimal_least : (n : ℕ) (ds : List ℕ) → n ≤ decimal_on n ds
decimal_least n [] = omega arith
decimal_least n (d ∷ ds) = omega (arith, decimal_least (n * 10 + (d - 48)) ds)

pub decimal_reached : (n i : ℕ) (ds : List ℕ) → i < length ds → n * 10 + (get_or ds i 0 - 48) ≤ decimal_on n (drop i ds)
decimal_reached n i ds h = rw (drop-cons ds i 0 h) (decimal_least (n * 10 + (get_or ds i 0 - 48)) (drop (suc i) ds))

pub hexadecimal_least : (n : ℕ) (ds : List ℕ) → n ≤ hexadecimal_on n ds
hexadecimal_least n [] = omega arith
hexadecimal_least n (d ∷ ds) = omega (arith, hexadecimal_least (n * 16 + hex_value d) ds)

pub hexadecimal_reached : (n i : ℕ) (ds : List ℕ) → i < length ds → n * 16 + hex_value (get_or ds i 0) ≤ hexadecimal_on n (drop i ds)
hexadecimal_reached n i ds h = rw (drop-cons ds i 0 h) (hexadecimal_least (n * 16 + hex_value (get_or ds i 0)) (drop (suc i) ds))

-- the digits of two parts follow each other
pub decimal_on-append : (n : ℕ) (ds es : List ℕ) → decimal_on n (ds ++ es) ≡ decimal_on (decimal_on n ds) es
decimal_on-append n [] es = refl
decimal_on-append n (d ∷ ds) es = decimal_on-append (n * 10 + (d - 48)) ds es

one_le-pow : (k : ℕ) → 1 ≤ 10 ^ k
one_le-pow zero = omega arith
one_le-pow (suc k) = rw pow-suc (omega (arith, one_le-pow k))

pub scaled_least : (n k : ℕ) → n ≤ n * 10 ^ k
scaled_least n k = omega (arith, mul-le-mul_left n (one_le-pow k))

-- a number whose digits before the point are too many is too large
pub too_long : (whole fraction : List ℕ) → 2 ^ 63 ≤ decimal_on 0 whole → 1000000000 < thousandths whole fraction
too_long whole fraction h =
    omega (
      arith,
      scaled_least (decimal (whole ++ fraction)) (3 - length fraction),
      decimal_on-append 0 whole fraction,
      decimal_least (decimal_on 0 whole) fraction,
    )

pub too_large : (whole fraction : List ℕ) → 2 ^ 63 ≤ decimal_on (decimal_on 0 whole) fraction → 1000000000 < thousandths whole fraction
too_large whole fraction h =
    omega (arith, scaled_least (decimal (whole ++ fraction)) (3 - length fraction), decimal_on-append 0 whole fraction)

pub thousandths_is : (whole fraction : List ℕ) →
    thousandths whole fraction ≡ decimal_on (decimal_on 0 whole) fraction * 10 ^ (3 - length fraction)
thousandths_is whole fraction = ap (λ n. n * 10 ^ (3 - length fraction)) (decimal_on-append 0 whole fraction)
