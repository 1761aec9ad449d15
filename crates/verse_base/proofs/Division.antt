-- Quotients one step apart, and rounding by the Euclidean quotient.
use Rattle.std.specs.Int.RustNames.{int_lt}
use Rattle.std.proofs.Common.{true, false, ◌≡◌, ◌≢◌, ℕ, zero, suc, ◌+◌, ◌-◌, ◌*◌, ◌/◌, ◌%◌, ◌<◌, ℤ, pos, negsuc, ◌+ℤ◌, ◌-ℤ◌, neg_ℤ, refl}
use Rattle.std.proofs.Common.{sym, ap, ◌∙◌, arith}
use Rattle.std.proofs.lemmas.Nat.{div-add-mod', div-mul-add}
use Rattle.std.proofs.lemmas.Int.{ints}
use Rattle.std.proofs.Math.Nat.{zero-div}
use Rattle.std.specs.Int.{int_div_euclid, int_rem_euclid}
use Rattle.verse_base.specs.Quotients.{floor_quotient, ceil_quotient}

-- the quotient of the next number
pub next_whole : (n m : ℕ) → n % suc m ≡ m → suc n / suc m ≡ suc (n / suc m)
next_whole n m h =
    let whole : n / suc m * suc m + n % suc m ≡ n = div-add-mod' n (suc m) in
    let e : suc n ≡ suc (n / suc m) * suc m + 0 = omega (arith, whole, h) in
    ap (λ k. k / suc m) e ∙ div-mul-add (suc (n / suc m)) (suc m) 0 (omega arith)

pub next_within : (n m : ℕ) → n % suc m ≢ m → suc n / suc m ≡ n / suc m
next_within n m h =
    let whole : n / suc m * suc m + n % suc m ≡ n = div-add-mod' n (suc m) in
    let below : n % suc m < suc m = omega arith in
    let e : suc n ≡ n / suc m * suc m + suc (n % suc m) = omega (arith, whole) in
    ap (λ k. k / suc m) e ∙ div-mul-add (n / suc m) (suc m) (suc (n % suc m)) (omega (arith, below, h))

pub rem_whole : (n m : ℕ) → n % suc m ≡ m → suc n % suc m ≡ 0
rem_whole n m h =
    let whole : n / suc m * suc m + n % suc m ≡ n = div-add-mod' n (suc m) in
    let next : suc n / suc m * suc m + suc n % suc m ≡ suc n = div-add-mod' (suc n) (suc m) in
    let next' : suc (n / suc m) * suc m + suc n % suc m ≡ suc n = rw (next_whole n m h) at next in
    omega (arith, whole, next', h)

pub rem_within : (n m : ℕ) → n % suc m ≢ m → suc n % suc m ≡ suc (n % suc m)
rem_within n m h =
    let whole : n / suc m * suc m + n % suc m ≡ n = div-add-mod' n (suc m) in
    let next : suc n / suc m * suc m + suc n % suc m ≡ suc n = div-add-mod' (suc n) (suc m) in
    let next' : n / suc m * suc m + suc n % suc m ≡ suc n = rw (next_within n m h) at next in
    omega (arith, whole, next')

-- a multiple comes right after the last remainder
pub last_rem : (n m : ℕ) → suc n % suc m ≡ 0 → n % suc m ≡ m
last_rem n m h = grind (arith, rem_within n m, h)

pub not_last_rem : (n m : ℕ) → suc n % suc m ≢ 0 → n % suc m ≢ m
not_last_rem n m h e = h (rem_whole n m e)

pos_injective : (a b : ℕ) → pos a ≡ pos b → a ≡ b
pos_injective a b e = cc

neg_less : (q : ℕ) → negsuc q ≡ neg_ℤ (pos q) -ℤ pos 1
neg_less q = omega (arith, ints)

-- by a negative divisor, the Euclidean quotient is rounded up
pub floor_whole : (a : ℤ) (m : ℕ) → int_rem_euclid a (negsuc m) ≡ pos 0 → floor_quotient a (negsuc m) ≡ int_div_euclid a (negsuc m)
floor_whole (pos zero) m h = rw zero-div refl
floor_whole (pos (suc n)) m h =
    let last : n % suc m ≡ m = last_rem n m (pos_injective _ _ h) in
    rw (next_whole n m last) refl
floor_whole (negsuc n) m h =
    let below : n % suc m < suc m = omega arith in
    let none : suc m - 1 - n % suc m ≡ 0 = pos_injective _ _ h in
    ap pos (next_whole n m (omega (arith, below, none)))

pub floor_less : (a : ℤ) (m : ℕ) → int_rem_euclid a (negsuc m) ≢ pos 0 → floor_quotient a (negsuc m) ≡ int_div_euclid a (negsuc m) -ℤ pos 1
floor_less (pos zero) m h = absurd (h (ap pos (omega arith)))
floor_less (pos (suc n)) m h =
    let within : n % suc m ≢ m = not_last_rem n m (λ e. h (ap pos e)) in
    rw (next_within n m within) (neg_less (n / suc m))
floor_less (negsuc n) m h =
    let below : n % suc m < suc m = omega arith in
    let within : n % suc m ≢ m = λ e. h (ap pos (omega (arith, e))) in
    rw (next_within n m within) (omega (arith, ints))

-- by a positive divisor, it is rounded down
pub ceil_by_negative : (a : ℤ) (m : ℕ) → ceil_quotient a (negsuc m) ≡ int_div_euclid a (negsuc m)
ceil_by_negative (pos zero) m = refl
ceil_by_negative (pos (suc n)) m = refl
ceil_by_negative (negsuc n) m = refl

pub ceil_whole : (a : ℤ) (m : ℕ) → int_rem_euclid a (pos (suc m)) ≡ pos 0 → ceil_quotient a (pos (suc m)) ≡ int_div_euclid a (pos (suc m))
ceil_whole (pos zero) m h = rw zero-div refl
ceil_whole (pos (suc n)) m h =
    let last : n % suc m ≡ m = last_rem n m (pos_injective _ _ h) in
    ap pos (sym (next_whole n m last))
ceil_whole (negsuc n) m h =
    let below : n % suc m < suc m = omega arith in
    let none : suc m - 1 - n % suc m ≡ 0 = pos_injective _ _ h in
    rw (next_whole n m (omega (arith, below, none))) refl

pub ceil_more : (a : ℤ) (m : ℕ) → int_rem_euclid a (pos (suc m)) ≢ pos 0 →
    ceil_quotient a (pos (suc m)) ≡ int_div_euclid a (pos (suc m)) +ℤ pos 1
ceil_more (pos zero) m h = absurd (h (ap pos (omega arith)))
ceil_more (pos (suc n)) m h =
    let within : n % suc m ≢ m = not_last_rem n m (λ e. h (ap pos e)) in
    rw (next_within n m within) (omega (arith, ints))
ceil_more (negsuc n) m h =
    let below : n % suc m < suc m = omega arith in
    let within : n % suc m ≢ m = λ e. h (ap pos (omega (arith, e))) in
    rw (next_within n m within) (omega (arith, ints))

pub floor_less_at : (a b : ℤ) → int_lt b (pos 0) ≡ true → int_rem_euclid a b ≢ pos 0 → floor_quotient a b ≡ int_div_euclid a b -ℤ pos 1
floor_less_at a (pos n) negative h = absurd (grind (arith, negative))
floor_less_at a (negsuc m) negative h = floor_less a m h

pub floor_same_rem : (a b : ℤ) → int_rem_euclid a b ≡ pos 0 → floor_quotient a b ≡ int_div_euclid a b
floor_same_rem a (pos n) h = refl
floor_same_rem a (negsuc m) h = floor_whole a m h

pub floor_same_sign : (a b : ℤ) → int_lt b (pos 0) ≡ false → floor_quotient a b ≡ int_div_euclid a b
floor_same_sign a (pos n) h = refl
floor_same_sign a (negsuc m) h = absurd (cc)

pub ceil_more_at : (a b : ℤ) → int_lt (pos 0) b ≡ true → int_rem_euclid a b ≢ pos 0 → ceil_quotient a b ≡ int_div_euclid a b +ℤ pos 1
ceil_more_at a (pos zero) positive h = absurd (grind (arith, positive))
ceil_more_at a (pos (suc m)) positive h = ceil_more a m h
ceil_more_at a (negsuc m) positive h = absurd (cc)

pub ceil_same_rem : (a b : ℤ) → b ≢ pos 0 → int_rem_euclid a b ≡ pos 0 → ceil_quotient a b ≡ int_div_euclid a b
ceil_same_rem a (pos zero) nonzero h = absurd (nonzero refl)
ceil_same_rem a (pos (suc m)) nonzero h = ceil_whole a m h
ceil_same_rem a (negsuc m) nonzero h = ceil_by_negative a m

pub ceil_same_sign : (a b : ℤ) → b ≢ pos 0 → int_lt (pos 0) b ≡ false → ceil_quotient a b ≡ int_div_euclid a b
ceil_same_sign a (pos zero) nonzero h = absurd (nonzero refl)
ceil_same_sign a (pos (suc m)) nonzero h = absurd (grind (arith, h))
ceil_same_sign a (negsuc m) nonzero h = ceil_by_negative a m
