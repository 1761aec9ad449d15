-- Steps of the readers.
use Rattle.std.proofs.Common.{◌≡◌, ℕ, suc, ◌+◌, ◌-◌, ◌*◌, ◌<◌, ◌≤◌, Bool, true, false, ltb, leb, ◌&&◌, ◌⊎◌, inl, inr, List, [], ◌∷◌, ◌++◌}
use Rattle.std.proofs.Common.{Result, Ok, Err, refl, sym, ap, ◌∙◌, append_assoc, arith}
use Rattle.std.proofs.lemmas.Bool.{lt-ltb, le-ltb, le-leb, lt-leb, and_right}
use Rattle.std.proofs.lemmas.List.{append-nil}
use Rattle.std.specs.Prelude.{nat_lt, if◌then◌else◌}
use Rattle.verse_code.specs.declared.operations.Op.{Op}
use Rattle.verse_code.specs.declared.validity.Sizes.{Sizes}
use Rattle.verse_image.specs.declared.faults.Flaw.{Flaw}
use Rattle.verse_image.specs.declared.faults.ReadFault.{ReadFault}
use Rattle.verse_image.specs.declared.faults.ReadFault.TheVariants as faults
use Rattle.verse_image.specs.Reading.{◌>>=◌, Fails, Reader, flaw, byte_at, digits_at, with_high, signed_digits_at, signed_with_high}
use Rattle.verse_image.specs.Reading.{seven_bits, number_at, many_at, table_at, op_at, ops_at}

pub digits_none : (most end left : ℕ) (bytes : List ℕ) → most ≡ 0 → digits_at most end left bytes ≡ Err (flaw 4 left)
unfolding digits_at
digits_none most end left bytes e = rw e refl

pub digits_some : (most end left : ℕ) (bytes : List ℕ) → 0 < most →
    digits_at most end left bytes ≡ (byte_at bytes >>= λ b.
    if nat_lt b.0 128 then Ok b else (digits_at (most - 1) end left b.1 >>= with_high end left b.0))
unfolding digits_at
digits_some most end left bytes lt = let e : most ≡ suc (most - 1) = omega arith in ap (λ k. digits_at k end left bytes) e

-- the last byte
pub digits_last : (most end left : ℕ) (bytes : List ℕ) (b : ℕ) (rest : List ℕ) → 0 < most → byte_at bytes ≡ Ok (b, rest) → b < 128 →
    digits_at most end left bytes ≡ Ok (b, rest)
digits_last most end left bytes b rest lt e below =
    let test : ltb b 128 ≡ true = lt-ltb b 128 below in
    digits_some most end left bytes lt ∙ rw (e, test) refl

-- a byte that goes on
digits_goes : (most end left : ℕ) (bytes : List ℕ) (b : ℕ) (rest : List ℕ) (high : ℕ) (after : List ℕ) → 0 < most →
    byte_at bytes ≡ Ok (b, rest) → 128 ≤ b → digits_at (most - 1) end left rest ≡ Ok (high, after) →
    digits_at most end left bytes ≡ with_high end left b (high, after)
digits_goes most end left bytes b rest high after lt e from h =
    let test : ltb b 128 ≡ false = le-ltb b 128 from in
    digits_some most end left bytes lt ∙ rw (e, test, h) refl

pub digits_whole : (most end left : ℕ) (bytes : List ℕ) (b : ℕ) (rest : List ℕ) (high : ℕ) (after : List ℕ) → 0 < most →
    byte_at bytes ≡ Ok (b, rest) → 128 ≤ b → digits_at (most - 1) end left rest ≡ Ok (high, after) →
    0 < high → b - 128 + 128 * high < end → digits_at most end left bytes ≡ Ok (b - 128 + 128 * high, after)
digits_whole most end left bytes b rest high after lt e from h some fits =
    let one : ltb 0 high ≡ true = lt-ltb 0 high some in
    let two : ltb (b - 128 + 128 * high) end ≡ true = lt-ltb _ _ fits in
    digits_goes most end left bytes b rest high after lt e from h ∙ rw (one, two) refl

pub digits_wrong : (most end left : ℕ) (bytes : List ℕ) (b : ℕ) (rest : List ℕ) (high : ℕ) (after : List ℕ) → 0 < most →
    byte_at bytes ≡ Ok (b, rest) → 128 ≤ b → digits_at (most - 1) end left rest ≡ Ok (high, after) →
    (high ≤ 0) ⊎ (end ≤ b - 128 + 128 * high) → digits_at most end left bytes ≡ Err (flaw 4 left)
digits_wrong most end left bytes b rest high after lt e from h (inl none) =
    let one : ltb 0 high ≡ false = le-ltb 0 high none in
    digits_goes most end left bytes b rest high after lt e from h ∙ rw one refl
digits_wrong most end left bytes b rest high after lt e from h (inr large) =
    let two : (ltb 0 high && ltb (b - 128 + 128 * high) end) ≡ false = and_right _ _ (le-ltb _ _ large) in
    digits_goes most end left bytes b rest high after lt e from h ∙ rw two refl

pub signed_none : (most end left : ℕ) (bytes : List ℕ) → most ≡ 0 → signed_digits_at most end left bytes ≡ Err (flaw 4 left)
unfolding signed_digits_at
signed_none most end left bytes e = rw e refl

pub signed_some : (most end left : ℕ) (bytes : List ℕ) → 0 < most →
    signed_digits_at most end left bytes ≡ (byte_at bytes >>= λ b. if nat_lt b.0 64 then Ok ((false, b.0), b.1) else
    if nat_lt b.0 128 then Ok ((true, 127 - b.0), b.1) else (signed_digits_at (most - 1) end left b.1 >>= signed_with_high end left b.0))
unfolding signed_digits_at
signed_some most end left bytes lt = let e : most ≡ suc (most - 1) = omega arith in ap (λ k. signed_digits_at k end left bytes) e

-- ---- one after the other

-- what was read before, and what is still read
abbrev pub with_front : {A : Type 0} → List A → Result (List A × List ℕ) Flaw → Result (List A × List ℕ) Flaw
with_front front read = read >>= λ x. Ok (front ++ x.0, x.1)

pub regroup : {A : Type 0} (front : List A) (n : A) (read : Result (List A × List ℕ) Flaw) →
    with_front front (read >>= λ x. Ok (n ∷ x.0, x.1)) ≡ with_front (front ++ n ∷ []) read
regroup front n (Ok x) = ap (λ ns. Ok (ns, x.1)) (sym (append_assoc front (n ∷ []) x.0))
regroup front n (Err f) = refl

pub no_front : {A : Type 0} (read : Result (List A × List ℕ) Flaw) → with_front [] read ≡ read
no_front (Ok x) = refl
no_front (Err f) = refl

pub goes_on : {A : Type 0} (one : Reader A) (front : List A) (count i : ℕ) (bytes : List ℕ) (n : A) (after : List ℕ)
    (total : Result (List A × List ℕ) Flaw) → i < count → one bytes ≡ Ok (n, after)
    → with_front front (many_at one (count - i) bytes) ≡ total → with_front (front ++ n ∷ []) (many_at one (count - (i + 1)) after) ≡ total
unfolding many_at
goes_on one front count i bytes n after total lt h so_far =
    let k : count - i ≡ suc (count - (i + 1)) = omega arith in
    let step : with_front front (many_at one (count - i) bytes) ≡ with_front (front ++ n ∷ []) (many_at one (count - (i + 1)) after) =
    rw (k, h) (regroup front n (many_at one (count - (i + 1)) after)) in
    sym step ∙ so_far

pub ends : {A : Type 0} (one : Reader A) (e : ReadFault) (front : List A) (count i : ℕ) (bytes : List ℕ)
    (total : Result (List A × List ℕ) Flaw) → i < count → Fails e (one bytes)
    → with_front front (many_at one (count - i) bytes) ≡ total → Fails e total
unfolding many_at
ends one faults.Memory front count i bytes total lt h so_far = tt
ends one (faults.Bad f) front count i bytes total lt h so_far =
    let k : count - i ≡ suc (count - (i + 1)) = omega arith in
    let step : with_front front (many_at one (count - i) bytes) ≡ Err f = rw (k, h) refl in
    sym so_far ∙ step

pub is_done : {A : Type 0} (one : Reader A) (front : List A) (count i : ℕ) (bytes : List ℕ) (total : Result (List A × List ℕ) Flaw) →
    count ≤ i → with_front front (many_at one (count - i) bytes) ≡ total → total ≡ Ok (front, bytes)
unfolding many_at
is_done one front count i bytes total le so_far =
    let k : count - i ≡ 0 = omega arith in
    let step : with_front front (many_at one (count - i) bytes) ≡ Ok (front, bytes) = rw k (ap (λ ns. Ok (ns, bytes)) (append-nil front)) in
    sym so_far ∙ step

pub ops_go_on : (s : Sizes) (top : ℕ) (front : List Op) (count i j : ℕ) (bytes : List ℕ) (n : Op) (after : List ℕ)
    (total : Result (List Op × List ℕ) Flaw) → j ≡ suc i → i < count → op_at s top i bytes ≡ Ok (n, after)
    → with_front front (ops_at s top i (count - i) bytes) ≡ total → with_front (front ++ n ∷ []) (ops_at s top j (count - j) after) ≡ total
unfolding ops_at
ops_go_on s top front count i j bytes n after total e lt h so_far =
    let k : count - i ≡ suc (count - suc i) = omega arith in
    let step : with_front front (ops_at s top i (count - i) bytes) ≡
    with_front (front ++ n ∷ []) (ops_at s top (suc i) (count - suc i) after) =
    rw (k, h) (regroup front n (ops_at s top (suc i) (count - suc i) after)) in
    rw e (sym step ∙ so_far)

pub ops_end : (s : Sizes) (top : ℕ) (e : ReadFault) (front : List Op) (count i : ℕ) (bytes : List ℕ)
    (total : Result (List Op × List ℕ) Flaw) → i < count → Fails e (op_at s top i bytes)
    → with_front front (ops_at s top i (count - i) bytes) ≡ total → Fails e total
unfolding ops_at
ops_end s top faults.Memory front count i bytes total lt h so_far = tt
ops_end s top (faults.Bad f) front count i bytes total lt h so_far =
    let k : count - i ≡ suc (count - (i + 1)) = omega arith in
    let step : with_front front (ops_at s top i (count - i) bytes) ≡ Err f = rw (k, h) refl in
    sym so_far ∙ step

pub ops_done : (s : Sizes) (top : ℕ) (front : List Op) (count i : ℕ) (bytes : List ℕ) (total : Result (List Op × List ℕ) Flaw) → count ≤ i →
    with_front front (ops_at s top i (count - i) bytes) ≡ total → total ≡ Ok (front, bytes)
unfolding ops_at
ops_done s top front count i bytes total le so_far =
    let k : count - i ≡ 0 = omega arith in
    let step : with_front front (ops_at s top i (count - i) bytes) ≡ Ok (front, bytes) =
    rw k (ap (λ ns. Ok (ns, bytes)) (append-nil front)) in
    sym so_far ∙ step

-- ---- numbers with a sign

pub signed_last : (most end left : ℕ) (bytes : List ℕ) (b : ℕ) (rest : List ℕ) → 0 < most → byte_at bytes ≡ Ok (b, rest) → b < 64 →
    signed_digits_at most end left bytes ≡ Ok ((false, b), rest)
signed_last most end left bytes b rest lt e below =
    let test : ltb b 64 ≡ true = lt-ltb b 64 below in
    signed_some most end left bytes lt ∙ rw (e, test) refl

pub signed_turned : (most end left : ℕ) (bytes : List ℕ) (b : ℕ) (rest : List ℕ) → 0 < most → byte_at bytes ≡ Ok (b, rest) → 64 ≤ b →
    b < 128 → signed_digits_at most end left bytes ≡ Ok ((true, 127 - b), rest)
signed_turned most end left bytes b rest lt e from below =
    let one : ltb b 64 ≡ false = le-ltb b 64 from in
    let two : ltb b 128 ≡ true = lt-ltb b 128 below in
    signed_some most end left bytes lt ∙ rw (e, one, two) refl

signed_goes : (most end left : ℕ) (bytes : List ℕ) (b : ℕ) (rest : List ℕ) (high : Bool × ℕ) (after : List ℕ) → 0 < most →
    byte_at bytes ≡ Ok (b, rest) → 128 ≤ b → signed_digits_at (most - 1) end left rest ≡ Ok (high, after) →
    signed_digits_at most end left bytes ≡ signed_with_high end left b (high, after)
signed_goes most end left bytes b rest high after lt e from h =
    let one : ltb b 64 ≡ false = le-ltb b 64 (omega arith) in
    let two : ltb b 128 ≡ false = le-ltb b 128 from in
    signed_some most end left bytes lt ∙ rw (e, one, two, h) refl

pub signed_whole : (most end left : ℕ) (bytes : List ℕ) (b : ℕ) (rest : List ℕ) (negative : Bool) (high low size : ℕ) (after : List ℕ) →
    0 < most → byte_at bytes ≡ Ok (b, rest) → 128 ≤ b → signed_digits_at (most - 1) end left rest ≡ Ok ((negative, high), after) →
    low ≡ seven_bits negative (b - 128) → size ≡ high * 128 + low → 64 ≤ size → size < end →
    signed_digits_at most end left bytes ≡ Ok ((negative, size), after)
signed_whole most end left bytes b rest negative high low size after lt e from h low_is size_is some fits =
    let s : high * 128 + seven_bits negative (b - 128) ≡ size = ap (λ (n : ℕ). high * 128 + n) (sym low_is) ∙ sym size_is in
    let one : leb 64 size ≡ true = le-leb 64 size some in
    let two : ltb size end ≡ true = lt-ltb _ _ fits in
    signed_goes most end left bytes b rest (negative, high) after lt e from h ∙ rw (s, one, two) refl

pub signed_wrong : (most end left : ℕ) (bytes : List ℕ) (b : ℕ) (rest : List ℕ) (negative : Bool) (high low size : ℕ) (after : List ℕ) →
    0 < most → byte_at bytes ≡ Ok (b, rest) → 128 ≤ b → signed_digits_at (most - 1) end left rest ≡ Ok ((negative, high), after) →
    low ≡ seven_bits negative (b - 128) → size ≡ high * 128 + low → (size < 64) ⊎ (end ≤ size) →
    signed_digits_at most end left bytes ≡ Err (flaw 4 left)
signed_wrong most end left bytes b rest negative high low size after lt e from h low_is size_is (inl small) =
    let s : high * 128 + seven_bits negative (b - 128) ≡ size = ap (λ (n : ℕ). high * 128 + n) (sym low_is) ∙ sym size_is in
    let one : leb 64 size ≡ false = lt-leb 64 size small in
    signed_goes most end left bytes b rest (negative, high) after lt e from h ∙ rw (s, one) refl
signed_wrong most end left bytes b rest negative high low size after lt e from h low_is size_is (inr large) =
    let s : high * 128 + seven_bits negative (b - 128) ≡ size = ap (λ (n : ℕ). high * 128 + n) (sym low_is) ∙ sym size_is in
    let two : (leb 64 size && ltb size end) ≡ false = and_right _ _ (le-ltb _ _ large) in
    signed_goes most end left bytes b rest (negative, high) after lt e from h ∙ rw (s, two) refl

-- ---- a table

pub table_begins : {A : Type 0} (one : Reader A) (bytes : List ℕ) (count : ℕ) (rest : List ℕ) → number_at bytes ≡ Ok (count, rest) →
    with_front [] (many_at one (count - 0) rest) ≡ table_at one bytes
unfolding table_at
table_begins one bytes count rest e =
    let k : count - 0 ≡ count = omega arith in
    rw (k, e) (no_front (many_at one count rest))

pub table_fails : {A : Type 0} (one : Reader A) (e : ReadFault) (bytes : List ℕ) → Fails e (number_at bytes) → Fails e (table_at one bytes)
unfolding table_at
table_fails one faults.Memory bytes h = tt
table_fails one (faults.Bad f) bytes h = rw h refl
