-- Division of integers: rounded down, rounded up, and the remainder that is never negative.
use Rattle.std.specs.Prelude.{◌≡◌, ◌≢◌, ℕ, suc, ◌<◌, ◌≤ℤ◌, ◌<ℤ◌, ◌+ℤ◌, ◌-ℤ◌, ◌*ℤ◌, ℤ, pos, negsuc}
use Rattle.std.specs.Prelude.{neg_ℤ, unsigned_abs}
use Rattle.std.specs.Int.{int_div_euclid}

-- the quotient rounded down: the Euclidean quotient by a positive divisor
abbrev pub floor_quotient : ℤ → ℤ → ℤ
floor_quotient a (pos b) = int_div_euclid a (pos b)
floor_quotient a (negsuc b) = int_div_euclid (neg_ℤ a) (pos (suc b))

-- the quotient rounded up
abbrev pub ceil_quotient : ℤ → ℤ → ℤ
ceil_quotient a b = neg_ℤ (floor_quotient (neg_ℤ a) b)

-- r is the least of the numbers from 0 on that differ from a by a multiple of b
pub record IsResidue (a b r : ℤ) : Type 0 where
  pub from_zero : pos 0 ≤ℤ r
  pub below : r <ℤ pos (unsigned_abs b)
  pub multiple : (k : ℤ) × (a ≡ (k *ℤ b) +ℤ r)

-- q is the greatest number whose product with a positive d does not pass a
pub record IsFloor (a : ℤ) (d : ℕ) (q : ℤ) : Type 0 where
  pub within : (q *ℤ pos d) ≤ℤ a
  pub next : a <ℤ ((q +ℤ pos 1) *ℤ pos d)

-- q is the least number whose product with a positive d is not passed by a
pub record IsCeil (a : ℤ) (d : ℕ) (q : ℤ) : Type 0 where
  pub before : ((q -ℤ pos 1) *ℤ pos d) <ℤ a
  pub within : a ≤ℤ (q *ℤ pos d)

-- what rounding down and up mean, for every sign
pub record RoundsDownAndUp : Type 0 where
  pub down : (a : ℤ) (d : ℕ) → 0 < d → IsFloor a d (floor_quotient a (pos d))
  pub up : (a : ℤ) (d : ℕ) → 0 < d → IsCeil a d (ceil_quotient a (pos d))
  pub down_signs : (a b : ℤ) → b ≢ pos 0 → floor_quotient (neg_ℤ a) (neg_ℤ b) ≡ floor_quotient a b
  pub up_signs : (a b : ℤ) → b ≢ pos 0 → ceil_quotient (neg_ℤ a) (neg_ℤ b) ≡ ceil_quotient a b
