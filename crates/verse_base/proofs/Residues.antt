-- What the Euclidean quotient and remainder are, in the words of the definitions.
use Rattle.std.proofs.Common.{◌≡◌, ◌≢◌, ℕ, zero, suc, ◌+◌, ◌-◌, ◌*◌, ◌/◌, ◌%◌, ◌<◌, ℤ, pos, negsuc, ◌+ℤ◌, ◌-ℤ◌, ◌*ℤ◌, neg_ℤ, FitsSigned}
use Rattle.std.proofs.Common.{of_z, w64, ◌^◌, refl, ap, arith, sym, ◌∙◌}
use Rattle.std.proofs.lemmas.Nat.{div-add-mod'}
use Rattle.std.proofs.lemmas.Int.{ints}
use Rattle.std.proofs.Math.IntN.{negsuc-*ℤ-pos, pos-*ℤ-negsuc, negsuc-*ℤ-negsuc, zero-*ℤ, neg_ℤ-neg_ℤ}
use Rattle.std.specs.Int.{int_div_euclid, int_rem_euclid}
use Rattle.verse_base.specs.Quotients.{floor_quotient, ceil_quotient, IsResidue, IsFloor, IsCeil, RoundsDownAndUp}

neg_mul_negsuc : (q m : ℕ) → neg_ℤ (pos q) *ℤ negsuc m ≡ pos (q * suc m)
neg_mul_negsuc zero m = rw (zero-*ℤ (negsuc m)) (let none : 0 * suc m ≡ 0 = omega arith in rw none refl)
neg_mul_negsuc (suc p) m = negsuc-*ℤ-negsuc p m

neg_mul_pos : (q d : ℕ) → neg_ℤ (pos q) *ℤ pos d ≡ neg_ℤ (pos (q * d))
neg_mul_pos zero d = rw (zero-*ℤ (pos d)) refl
neg_mul_pos (suc p) d = negsuc-*ℤ-pos p d

pub residue : (a b : ℤ) → b ≢ pos 0 → IsResidue a b (int_rem_euclid a b)
residue a (pos zero) nonzero = absurd (nonzero refl)
residue (pos n) (pos (suc m)) nonzero =
    let whole : n / suc m * suc m + n % suc m ≡ n = div-add-mod' n (suc m) in
    let below : n % suc m < suc m = omega arith in
    record {
      from_zero = omega (arith, ints);
      below = omega (arith, ints, below);
      multiple = (pos (n / suc m), omega (arith, ints, whole));
    }
residue (pos n) (negsuc m) nonzero =
    let whole : n / suc m * suc m + n % suc m ≡ n = div-add-mod' n (suc m) in
    let below : n % suc m < suc m = omega arith in
    record {
      from_zero = omega (arith, ints);
      below = omega (arith, ints, below);
      multiple = (neg_ℤ (pos (n / suc m)), rw (neg_mul_negsuc (n / suc m) m) (omega (arith, ints, whole)));
    }
residue (negsuc n) (pos (suc m)) nonzero =
    let whole : n / suc m * suc m + n % suc m ≡ n = div-add-mod' n (suc m) in
    let below : n % suc m < suc m = omega arith in
    record {
      from_zero = omega (arith, ints);
      below = omega (arith, ints, below);
      multiple = (negsuc (n / suc m), rw negsuc-*ℤ-pos (omega (arith, ints, whole, below)));
    }
residue (negsuc n) (negsuc m) nonzero =
    let whole : n / suc m * suc m + n % suc m ≡ n = div-add-mod' n (suc m) in
    let below : n % suc m < suc m = omega arith in
    record {
      from_zero = omega (arith, ints);
      below = omega (arith, ints, below);
      multiple = (pos (suc (n / suc m)), rw pos-*ℤ-negsuc (omega (arith, ints, whole, below)));
    }

by_one : (a : ℤ) → a ≡ (neg_ℤ a *ℤ negsuc 0) +ℤ pos 0
by_one (pos n) = rw (neg_mul_negsuc n 0) (omega (arith, ints))
by_one (negsuc n) = omega (arith, ints)

-- -1 divides every number
pub residue_of_one : (a : ℤ) → IsResidue a (negsuc 0) (pos 0)
residue_of_one a = record {
  from_zero = omega (arith, ints);
  below = omega (arith, ints);
  multiple = (neg_ℤ a, by_one a);
}

rounds_down : (a : ℤ) (d : ℕ) → 0 < d → IsFloor a d (floor_quotient a (pos d))
rounds_down (pos n) d positive =
    let whole : n / d * d + n % d ≡ n = div-add-mod' n d in
    let below : n % d < d = omega (arith, positive) in
    record {
      within = omega (arith, ints, whole);
      next = omega (arith, ints, whole, below);
    }
rounds_down (negsuc n) d positive =
    let whole : n / d * d + n % d ≡ n = div-add-mod' n d in
    let below : n % d < d = omega (arith, positive) in
    let next : negsuc (n / d) +ℤ pos 1 ≡ neg_ℤ (pos (n / d)) = omega (arith, ints) in
    record {
      within = rw negsuc-*ℤ-pos (omega (arith, ints, whole, below));
      next = rw (next, neg_mul_pos (n / d) d) (omega (arith, ints, whole));
    }

both_signs : (a b : ℤ) → b ≢ pos 0 → floor_quotient (neg_ℤ a) (neg_ℤ b) ≡ floor_quotient a b
both_signs a (pos zero) nonzero = absurd (nonzero refl)
both_signs a (pos (suc m)) nonzero = ap (λ (z : ℤ). int_div_euclid z (pos (suc m))) (neg_ℤ-neg_ℤ a)
both_signs a (negsuc m) nonzero = refl

neg_mul : (q : ℤ) (d : ℕ) → neg_ℤ q *ℤ pos d ≡ neg_ℤ (q *ℤ pos d)
neg_mul (pos q) d = neg_mul_pos q d
neg_mul (negsuc q) d = sym (ap neg_ℤ (negsuc-*ℤ-pos q d) ∙ neg_ℤ-neg_ℤ (pos (suc q * d)))

mirrored : (a : ℤ) (d : ℕ) (q : ℤ) → IsFloor (neg_ℤ a) d q → IsCeil a d (neg_ℤ q)
mirrored a d q f =
    let one_less : neg_ℤ q -ℤ pos 1 ≡ neg_ℤ (q +ℤ pos 1) = omega (arith, ints) in
    record {
      before = rw (one_less, neg_mul (q +ℤ pos 1) d) (omega (arith, ints, f.next));
      within = rw (neg_mul q d) (omega (arith, ints, f.within));
    }

rounds_up : (a : ℤ) (d : ℕ) → 0 < d → IsCeil a d (ceil_quotient a (pos d))
rounds_up a d positive = mirrored a d (floor_quotient (neg_ℤ a) (pos d)) (rounds_down (neg_ℤ a) d positive)

pub rounds : RoundsDownAndUp
rounds = record {
  down = rounds_down;
  up = rounds_up;
  down_signs = both_signs;
  up_signs =
      λ a b nonzero. ap neg_ℤ (both_signs (neg_ℤ a) b nonzero);
}

pub minus_one : (b : ℤ) → FitsSigned w64 b → of_z w64 b ≡ 2 ^ 64 - 1 → b ≡ negsuc 0
minus_one (pos n) fits e = absurd (omega (arith, fits.sfits))
minus_one (negsuc n) fits e = ap negsuc (omega (arith, fits.sfits, e))
