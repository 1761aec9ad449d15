-- Integers in range.
use Rattle.std.proofs.Common.{◌≡◌, ◌<◌, ◌≤◌, ℕ, ℤ, pos, negsuc, true, false, nat_lt, FitsSigned, refl, arith}
use Rattle.std.specs.Int.{w64}
use Rattle.std.proofs.lemmas.Bool.Decides.{nat_tests}
use Rattle.verse_base.specs.declared.refusals.Kind.TheVariants.{Overflow}
use Rattle.verse_value.specs.Answer.{gives, error}
use Rattle.verse_value.specs.Val.{int}
use Rattle.verse_value.specs.Operations.{ranged}

below_is : (n : ℕ) → n < 9223372036854775808 → nat_lt n 9223372036854775808 ≡ true
below_is n h = grind (arith, nat_tests)

above_is : (n : ℕ) → (n < 9223372036854775808 → ⊥) → nat_lt n 9223372036854775808 ≡ false
above_is n h = let l : 9223372036854775808 ≤ n = omega arith in grind (arith, nat_tests)

pub ranged_some : (z : ℤ) → FitsSigned w64 z → ranged z ≡ gives (int z)
ranged_some (pos n) h = rw (below_is n h.sfits) refl
ranged_some (negsuc n) h = rw (below_is n h.sfits) refl

pub ranged_none : (z : ℤ) → (FitsSigned w64 z → ⊥) → ranged z ≡ error Overflow
ranged_none (pos n) h = rw (above_is n (λ l. h (record { sfits = l }))) refl
ranged_none (negsuc n) h = rw (above_is n (λ l. h (record { sfits = l }))) refl
