-- Bytes are cut at each of one byte.
use Rattle.std.proofs.Common.{◌≡◌, ◌≢◌, ℕ, zero, suc, ◌+◌, ◌-◌, ◌≤◌, ◌<◌, true, false, eqb, List, [], ◌∷◌, ◌++◌, length, take, drop, get_or}
use Rattle.std.proofs.Common.{refl, sym, ap, ◌∙◌, subst, arith, rules}
use Rattle.std.proofs.lemmas.List.{take-append-drop, drop_more, take_all, length-drop}
use Rattle.verse_listing_lines.specs.Lines.{pieces}
use Rattle.verse_listing_lines.specs.Answers.{with_piece}

-- this byte is not among the bytes
abbrev pub Free : ℕ → List ℕ → Type 0
Free end [] = Unit {0}
Free end (b ∷ bytes) = (b ≢ end) × Free end bytes

pub free_by_index : (end at : ℕ) (bytes : List ℕ) → ((i : ℕ) → i < at → get_or bytes i 0 ≢ end) → Free end (take at bytes)
free_by_index end zero bytes h = tt
free_by_index end (suc at) [] h = tt
free_by_index end (suc at) (b ∷ bytes) h = (h 0 (omega arith), free_by_index end at bytes (λ i lt. h (suc i) (omega arith)))

other_byte : (b end : ℕ) → b ≢ end → eqb b end ≡ false
other_byte b end h = search rules

pub cut_one : (end : ℕ) (piece rest : List ℕ) → Free end piece → pieces end (piece ++ end ∷ rest) ≡ with_piece piece (pieces end rest)
unfolding pieces
cut_one end [] rest f = let same : eqb end end ≡ true = search rules in rw same refl
cut_one end (b ∷ piece) rest f = let test : eqb b end ≡ false = other_byte b end f.0 in rw (test, cut_one end piece rest f.1) refl

pub cut_none : (end : ℕ) (bytes : List ℕ) → Free end bytes → pieces end bytes ≡ ([], bytes)
unfolding pieces
cut_none end [] f = refl
cut_none end (b ∷ bytes) f = let test : eqb b end ≡ false = other_byte b end f.0 in rw (test, cut_none end bytes f.1) refl

-- the search ended at the end of the bytes
pub cut_end : (end at : ℕ) (bytes back : List ℕ) → ((i : ℕ) → i < at → get_or bytes i 0 ≢ end) → at ≤ length bytes → back ≡ drop at bytes →
    length back < 1 → pieces end bytes ≡ ([], bytes)
cut_end end at bytes back h le e none =
    let all : length bytes ≤ at = omega (arith, length-drop at bytes, ap length e) in
    let whole : take at bytes ≡ bytes = take_all at bytes all in
    cut_none end bytes (subst (Free end) whole (free_by_index end at bytes h))

-- the search ended at a byte
pub cut_byte : (end at : ℕ) (bytes front back : List ℕ) → ((i : ℕ) → i < at → get_or bytes i 0 ≢ end) → at < length bytes →
    get_or bytes at 0 ≡ end → front ≡ take at bytes → back ≡ drop at bytes →
    pieces end bytes ≡ with_piece front (pieces end (take (length back - 1) (drop 1 back)))
cut_byte end at bytes front back h lt is e f =
    let split : bytes ≡ take at bytes ++ end ∷ drop (at + 1) bytes =
    sym (take-append-drop at bytes) ∙ ap (λ k. take at bytes ++ k) (drop_more bytes at 0 lt ∙ ap (λ k. k ∷ drop (at + 1) bytes) is) in
    let rest : drop 1 back ≡ drop (at + 1) bytes = ap (drop 1) (f ∙ drop_more bytes at 0 lt) in
    let whole : take (length back - 1) (drop 1 back) ≡ drop 1 back =
    take_all (length back - 1) (drop 1 back) (omega (arith, length-drop 1 back)) in
    ap (pieces end) split ∙ cut_one end (take at bytes) (drop (at + 1) bytes) (free_by_index end at bytes h) ∙
    rw (e, whole, rest) refl
