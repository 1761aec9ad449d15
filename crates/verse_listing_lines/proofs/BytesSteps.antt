-- The bytes of a word, two digits after the other.
use Rattle.std.proofs.Common.{◌≡◌, ℕ, ◌+◌, ◌-◌, ◌*◌, ◌≤◌, ◌<◌, List, [], ◌∷◌, ◌++◌, length, get_or, take, drop, Option, Some, None, ◌⊎◌}
use Rattle.std.proofs.Common.{inl, inr}
use Rattle.std.proofs.Common.{Result, Ok, Err, refl, sym, ap, ◌∙◌, arith}
use Rattle.std.proofs.lemmas.List.{append-nil, take_all}
use Rattle.verse_listing_lines.specs.Lines.{◌>>=◌, given, digit_of, bytes_of}
use Rattle.verse_listing_lines.proofs.NumberSteps.{with_front, regroup}

-- two digits more
pub bytes_on : (front now left rest : List ℕ) (high low : ℕ) (total : Result (List ℕ) ℕ) → 2 ≤ length left →
    digit_of (get_or left 0 0) ≡ Some high → digit_of (get_or left 1 0) ≡ Some low → now ≡ front ++ (high * 16 + low) ∷ [] →
    rest ≡ take (length left - 2) (drop 2 left) → with_front front (bytes_of left) ≡ total → with_front now (bytes_of rest) ≡ total
unfolding bytes_of
bytes_on front now [] rest high low total le h l e r t = absurd (omega arith)
bytes_on front now (a ∷ []) rest high low total le h l e r t = absurd (omega arith)
bytes_on front now (a ∷ b ∷ digits) rest high low total le h l e r t =
    let count : length (a ∷ b ∷ digits) - 2 ≡ length digits = omega arith in
    let same : rest ≡ digits = r ∙ ap (λ n. take n digits) count ∙ take_all (length digits) digits (omega arith) in
    let step : with_front front (bytes_of (a ∷ b ∷ digits)) ≡ with_front (front ++ (high * 16 + low) ∷ []) (bytes_of digits) =
    rw (h, l) (regroup front (high * 16 + low) (bytes_of digits)) in
    rw (e, same) (sym step ∙ t)

-- two bytes of which one is no digit
pub bytes_stop : (front left : List ℕ) (total : Result (List ℕ) ℕ) → 2 ≤ length left →
    (digit_of (get_or left 0 0) ≡ None) ⊎ (digit_of (get_or left 1 0) ≡ None) → with_front front (bytes_of left) ≡ total → total ≡ Err 1
unfolding bytes_of
bytes_stop front [] total le h t = absurd (omega arith)
bytes_stop front (a ∷ []) total le h t = absurd (omega arith)
bytes_stop front (a ∷ b ∷ digits) total le (inl h) t = sym t ∙ rw h refl
bytes_stop front (a ∷ b ∷ digits) total le (inr h) t = sym t ∙ by_first (digit_of a)
  where
    by_first : (o : Option ℕ) → with_front front (given 1 o >>= λ h. given 1 (digit_of b) >>= λ l. bytes_of digits >>= λ bytes.
        Ok ((h * 16 + l) ∷ bytes)) ≡ Err 1
    by_first None = refl
    by_first (Some n) = rw h refl

pub bytes_end : (front left : List ℕ) (total : Result (List ℕ) ℕ) → length left ≡ 0 → with_front front (bytes_of left) ≡ total →
    total ≡ Ok front
unfolding bytes_of
bytes_end front [] total e t = sym t ∙ ap Ok (append-nil front)
bytes_end front (a ∷ left) total e t = absurd (omega arith)

-- one byte that is left
pub bytes_odd : (front left : List ℕ) (total : Result (List ℕ) ℕ) → 1 ≤ length left → length left < 2 →
    with_front front (bytes_of left) ≡ total → total ≡ Err 1
unfolding bytes_of
bytes_odd front [] total le lt t = absurd (omega arith)
bytes_odd front (a ∷ []) total le lt t = sym t
bytes_odd front (a ∷ b ∷ digits) total le lt t = absurd (omega arith)
