-- Runs have bytes, and no more than there are.
use Rattle.std.proofs.Common.{◌≡◌, ℕ, zero, suc, ◌+◌, ◌<◌, ◌≤◌, Bool, true, List, [], ◌∷◌, length, take, drop, refl, arith}
use Rattle.std.proofs.Common.{length-take, length-drop}
use Rattle.std.proofs.lemmas.List.Sums.{take_while-cons}
use Rattle.std.proofs.lemmas.Bool.Decides.{nat_tests}
use Rattle.std.proofs.lemmas.Bool.{and_parts}
use Rattle.verse_lex.specs.Bytes.{is_digit, is_hex_digit, in_name, in_line, letter_at, digit_at, is_at, run}
use Rattle.verse_lex.specs.Pieces.{is_hexadecimal, has_fraction}

pub run_within : (p : ℕ → Bool) (bs : List ℕ) → run p bs ≤ length bs
run_within p bs = simp length-take (omega arith)

run_stands : (p : ℕ → Bool) (b : ℕ) (bs : List ℕ) → p b ≡ true → 0 < run p (b ∷ bs)
run_stands p b bs h = rw (take_while-cons p b bs, h) (omega arith)

pub digits_within : (bs : List ℕ) → run is_digit bs ≤ length bs
digits_within bs = run_within is_digit bs

pub digits_stand : (bs : List ℕ) → digit_at bs 0 ≡ true → 0 < run is_digit bs
digits_stand [] h = absurd (cc)
digits_stand (b ∷ bs) h = run_stands is_digit b bs h

pub name_within : (bs : List ℕ) → run in_name bs ≤ length bs
name_within bs = run_within in_name bs

pub name_stands : (bs : List ℕ) → letter_at bs 0 ≡ true → 0 < run in_name bs
name_stands [] h = absurd (cc)
name_stands (b ∷ bs) h = run_stands in_name b bs (rw h refl)

pub line_within : (bs : List ℕ) → run in_line bs ≤ length bs
line_within bs = run_within in_line bs

pub line_stands : (bs : List ℕ) → is_at bs 0 35 ≡ true → 0 < run in_line bs
line_stands [] h = absurd (cc)
line_stands (b ∷ bs) h = run_stands in_line b bs (grind (arith, nat_tests))

-- where a byte stands there are bytes
pub at_within : (bs : List ℕ) (n b : ℕ) → is_at bs n b ≡ true → n < length bs
at_within [] n b h = absurd (cc)
at_within (c ∷ bs) zero b h = omega arith
at_within (c ∷ bs) (suc n) b h = omega (arith, at_within bs n b h)

pub hex_within : (bs : List ℕ) → is_hexadecimal bs ≡ true → run is_hex_digit (drop 2 bs) + 2 ≤ length bs
hex_within bs h =
    let x : is_at bs 1 120 ≡ true = (and_parts _ _ (and_parts _ _ h).1).0 in
    omega (arith, at_within bs 1 120 x, run_within is_hex_digit (drop 2 bs), length-drop 2 bs)

pub fraction_within : (bs : List ℕ) (n : ℕ) → has_fraction bs n ≡ true → n + 1 + run is_digit (drop (n + 1) bs) ≤ length bs
fraction_within bs n h =
    omega (arith, at_within bs n 46 (and_parts _ _ h).0, run_within is_digit (drop (n + 1) bs), length-drop (n + 1) bs)

-- the run itself is as long
pub digits_length : (bs : List ℕ) → length (take (run is_digit bs) bs) ≡ run is_digit bs
digits_length bs = omega (arith, length-take (run is_digit bs) bs, run_within is_digit bs)
