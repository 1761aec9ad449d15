-- A count of levels that is cut off far above 32 is above 32 where the levels are.
use Rattle.std.proofs.Common.{◌≡◌, ℕ, arith}
use Rattle.std.specs.Prelude.{nat_lt, min}
use Rattle.std.proofs.lemmas.Bool.Decides.{nat_tests}

pub above : (n : ℕ) → nat_lt 32 (min n 4294967295) ≡ nat_lt 32 n
above n = grind (arith, nat_tests)
