-- The open Trys of a frame: those of the frame, the innermost last in memory, and those around its deferred block.
use Rattle.std.proofs.Common.{◌≡◌, ℕ, zero, suc, ◌+◌, ◌-◌, ◌<◌, ◌≤◌, List, [], ◌∷◌, ◌++◌, length, map, reverse, drop, Bool, true, false}
use Rattle.std.proofs.Common.{cond}
use Rattle.std.proofs.Common.{refl, sym, ap, ◌∙◌, arith}
use Rattle.std.specs.Prelude.{◌&&◌, Some, None, get_or, slice_get}
use Rattle.std.specs.Option.{option_map}
use Rattle.std.proofs.lemmas.List.{reverse-append, append_assoc, map-append, length-reverse, length-map, length-append}
use Rattle.std.proofs.lemmas.Option.{none-some}
use Rattle.std.proofs.Math.Nat.{eq-or-lt_of_le}
use mathlib.Core.Logic.{⊎_elim}
use Rattle.std.proofs.Math.Bool.{and-false}
use Rattle.verse_code.specs.declared.codes.Code.{Code}
use Rattle.verse_meaning_state.specs.Waits.{eqn}
use Rattle.verse_verify_faults.specs.Spots as p
use Rattle.verse_verify_faults.specs.Spots.{Table}
use Rattle.verse_verify_faults.specs.Faults.{same_numbers, ends_with}
use Rattle.verse_verify_notes.specs.declared.notes.Mark.{Mark}
use Rattle.verse_verify_notes.specs.View.{mark_of}
use Rattle.verse_verify_parts.specs.Heres.{is_at}

abbrev of_marks : List Mark → List ℕ
of_marks ms = map (λ (m : p.Mark). m.index) (reverse (map mark_of ms))

-- the last in memory is the first
more_marks : (m : Mark) (ms : List Mark) → of_marks (m ∷ ms) ≡ of_marks ms ++ m.index ∷ []
more_marks m ms = ap (map (λ (x : p.Mark). x.index)) (reverse-append (mark_of m ∷ []) (map mark_of ms)) ∙ map-append (λ (x : p.Mark).
    x.index) (reverse (map mark_of ms)) (mark_of m ∷ [])

pub names_length : (ms : List Mark) (outer : List ℕ) → length (of_marks ms ++ outer) ≡ length ms + length outer
names_length ms outer = length-append (of_marks ms) outer ∙
    ap (λ n. n + length outer) (length-map (reverse (map mark_of ms)) (λ (m : p.Mark). m.index) ∙ length-reverse (map mark_of ms) ∙
    length-map ms mark_of)

beyond_front : {A : Type 0} (xs ys : List A) (i : ℕ) → length xs ≤ i → slice_get (xs ++ ys) i ≡ slice_get ys (i - length xs)
beyond_front [] ys i h = ap (slice_get ys) (all i)
  where
    all : (i : ℕ) → i ≡ i - 0
    all i = omega arith
beyond_front (x ∷ xs) ys zero h = elim (none (length xs) h) [ ]
  where
    none : (n : ℕ) → suc n ≤ 0 → ⊥
    none n h = omega (arith, h)
beyond_front (x ∷ xs) ys (suc i) h = beyond_front xs ys i (omega (arith, h)) ∙ ap (slice_get ys) (less i (length xs))
  where
    less : (i n : ℕ) → i - n ≡ suc i - suc n
    less i n = omega arith

marks_length : (ms : List Mark) → length (of_marks ms) ≡ length ms
marks_length ms =
    length-map (reverse (map mark_of ms)) (λ (m : p.Mark). m.index) ∙ length-reverse (map mark_of ms) ∙ length-map ms mark_of

pub high_name : (ms : List Mark) (outer : List ℕ) (i : ℕ) → length ms ≤ i →
    slice_get (of_marks ms ++ outer) i ≡ slice_get outer (i - length ms)
high_name ms outer i h = beyond_front (of_marks ms) outer i (less (length (of_marks ms)) (length ms) i (marks_length ms) h) ∙ ap (λ n.
    slice_get outer (i - n)) (marks_length ms)
  where
    less : (k n i : ℕ) → k ≡ n → n ≤ i → k ≤ i
    less k n i e h = omega (arith, e, h)

under_or_at : {A : Type 0} (i n : ℕ) → i < suc n → (i < n → A) → (i ≡ n → A) → A
under_or_at i n h f g = ⊎_elim g f (eq-or-lt_of_le (down i n h))
  where
    down : (i n : ℕ) → i < suc n → i ≤ n
    down i n h = omega (arith, h)

abbrev index_of : Mark → ℕ
index_of m = m.index

last_name : (m : Mark) (ms : List Mark) (outer : List ℕ) (i : ℕ) → i < suc (length ms) →
    (i < length ms → slice_get (of_marks ms ++ m.index ∷ outer) i ≡ option_map index_of (slice_get ms (length ms - 1 - i))) →
    slice_get (of_marks ms ++ m.index ∷ outer) i ≡ option_map index_of (slice_get (m ∷ ms) (suc (length ms) - 1 - i))
last_name m ms outer i h more = under_or_at i (length ms) h (λ k. more k ∙ ap (λ j. option_map index_of (slice_get (m ∷ ms) j)) (next i
    (length ms) k)) (λ e. beyond_front (of_marks ms) (m.index ∷ outer) i (least (length (of_marks ms)) (length ms) i (marks_length ms) e) ∙
    ap (slice_get (m.index ∷ outer)) (first (length (of_marks ms)) (length ms) i (marks_length ms) e) ∙ ap (λ j. option_map index_of
    (slice_get (m ∷ ms) j)) (last i (length ms) e))
  where
    next : (i n : ℕ) → i < n → suc (n - 1 - i) ≡ suc n - 1 - i
    next i n k = omega (arith, k)

    least : (k n i : ℕ) → k ≡ n → i ≡ n → k ≤ i
    least k n i h e = omega (arith, h, e)

    first : (k n i : ℕ) → k ≡ n → i ≡ n → i - k ≡ 0
    first k n i h e = omega (arith, h, e)

    last : (i n : ℕ) → i ≡ n → 0 ≡ suc n - 1 - i
    last i n e = omega (arith, e)

pub low_name : (ms : List Mark) (outer : List ℕ) (i : ℕ) → i < length ms →
    slice_get (of_marks ms ++ outer) i ≡ option_map index_of (slice_get ms (length ms - 1 - i))
low_name [] outer i h = elim (none i h) [ ]
  where
    none : (i : ℕ) → i < 0 → ⊥
    none i h = omega (arith, h)
low_name (m ∷ ms) outer i h = ap (λ ns. slice_get (ns ++ outer) i) (more_marks m ms) ∙ ap (λ ns. slice_get ns i) (append_assoc (of_marks
    ms) (m.index ∷ []) outer) ∙ last_name m ms outer i h (λ k. low_name ms (m.index ∷ outer) i k)

-- what stands from a place on
pub from_name : (ns : List ℕ) (i n : ℕ) → slice_get ns i ≡ Some n → drop i ns ≡ n ∷ drop (i + 1) ns
from_name [] i n e = elim (none-some _ e) [ ]
from_name (x ∷ ns) zero n e = ap (λ y. y ∷ ns) (cc)
from_name (x ∷ ns) (suc i) n e = from_name ns i n e ∙ ap (λ j. n ∷ drop j (x ∷ ns)) (next i)
  where
    next : (i : ℕ) → suc (i + 1) ≡ suc i + 1
    next i = omega arith

pub same_from : (ns : List ℕ) (i x : ℕ) (xs : List ℕ) →
    same_numbers (x ∷ xs) (drop i ns) ≡ is_at ns i x && same_numbers xs (drop (i + 1) ns)
same_from [] zero x xs = refl
same_from [] (suc i) x xs = refl
same_from (n ∷ ns) zero x xs = refl
same_from (n ∷ ns) (suc i) x xs =
    same_from ns i x xs ∙ ap (λ j. is_at ns i x && same_numbers xs (drop j (n ∷ ns))) (next i)
  where
    next : (i : ℕ) → suc (i + 1) ≡ suc i + 1
    next i = omega arith

pub met : (xs ns : List ℕ) (k i : ℕ) → k < length xs →
    same_numbers (drop k xs) (drop i ns) ≡ is_at ns i (get_or xs k 0) && same_numbers (drop (k + 1) xs) (drop (i + 1) ns)
met [] ns k i h = absurd (omega (arith, h))
met (x ∷ xs) ns zero i h = same_from ns i x xs
met (x ∷ xs) ns (suc k) i h = met xs ns k i (omega (arith, h)) ∙ ap (λ j. is_at ns i (get_or xs k 0) && same_numbers (drop j (x ∷ xs)) (drop
    (i + 1) ns)) (next k)
  where
    next : (k : ℕ) → suc (k + 1) ≡ suc k + 1
    next k = omega arith

pub end_yes : (ns : List ℕ) (i : ℕ) → length ns ≤ i → same_numbers [] (drop i ns) ≡ true
end_yes [] zero h = refl
end_yes [] (suc i) h = refl
end_yes (n ∷ ns) zero h = absurd (omega (arith, h))
end_yes (n ∷ ns) (suc i) h = end_yes ns i (omega (arith, h))

pub end_no : (ns : List ℕ) (i : ℕ) → i < length ns → same_numbers [] (drop i ns) ≡ false
end_no [] i h = absurd (omega (arith, h))
end_no (n ∷ ns) zero h = refl
end_no (n ∷ ns) (suc i) h = end_no ns i (omega (arith, h))

pub lacks : (xs ys : List ℕ) (i : ℕ) → i < length xs → length ys ≡ 0 → same_numbers (drop i xs) ys ≡ false
lacks [] ys i h e = absurd (omega (arith, h))
lacks (x ∷ xs) [] zero h e = refl
lacks (x ∷ xs) (y ∷ ys) zero h e = absurd (omega (arith, e))
lacks (x ∷ xs) ys (suc i) h e = lacks xs ys i (omega (arith, h)) e

pub past_names : (ns : List ℕ) (i : ℕ) → length ns ≤ i → drop i ns ≡ []
past_names [] zero h = refl
past_names [] (suc i) h = refl
past_names (x ∷ ns) zero h = elim (none (length ns) h) [ ]
  where
    none : (n : ℕ) → suc n ≤ 0 → ⊥
    none n h = omega (arith, h)
past_names (x ∷ ns) (suc i) h = past_names ns i (omega (arith, h))

pub ended : (ns : List ℕ) (i : ℕ) → slice_get ns i ≡ None → drop i ns ≡ []
ended [] zero e = refl
ended [] (suc i) e = refl
ended (x ∷ ns) zero e = elim (none-some _ (sym e)) [ ]
ended (x ∷ ns) (suc i) e = ended ns i e

eqn_flip : (a b : ℕ) → eqn a b ≡ eqn b a
eqn_flip zero zero = refl
eqn_flip zero (suc b) = refl
eqn_flip (suc a) zero = refl
eqn_flip (suc a) (suc b) = eqn_flip a b

pub flip : (xs ys : List ℕ) → same_numbers xs ys ≡ same_numbers ys xs
flip [] [] = refl
flip [] (y ∷ ys) = refl
flip (x ∷ xs) [] = refl
flip (x ∷ xs) (y ∷ ys) = ap (λ b. b && same_numbers xs ys) (eqn_flip x y) ∙ ap (λ b. eqn y x && b) (flip xs ys)

other_length : (xs ys : List ℕ) → (length xs ≡ length ys → ⊥) → same_numbers xs ys ≡ false
other_length [] [] d = elim (d refl) [ ]
other_length [] (y ∷ ys) d = refl
other_length (x ∷ xs) [] d = refl
other_length (x ∷ xs) (y ∷ ys) d = ap (λ b. eqn x y && b) (other_length xs ys (λ e. d (ap suc e))) ∙ and-false (eqn x y)

module _ (c : Code) (t : Table) where
  pub longer : (xs ys : List ℕ) → length ys < length xs → ends_with c t xs ys ≡ false
  longer [] ys h = elim (none (length ys) h) [ ]
    where
      none : (n : ℕ) → n < 0 → ⊥
      none n h = omega (arith, h)
  longer (x ∷ xs) [] h = refl
  longer (x ∷ xs) (y ∷ ys) h = ap (λ b. cond b true (ends_with c t (x ∷ xs) ys)) (other_length (x ∷ xs) (y ∷ ys) (λ e. differ (length (x ∷
      xs)) (length (y ∷ ys)) h e)) ∙ longer (x ∷ xs) ys (less (length ys) (length xs) h)
    where
      differ : (m n : ℕ) → n < m → m ≡ n → ⊥
      differ m n h e = omega (arith, h, e)

      less : (n m : ℕ) → suc n < suc m → n < suc m
      less n m h = omega (arith, h)

  same_or : (xs ys : List ℕ) (b : Bool) → b ≡ false → cond (same_numbers xs ys) true b ≡ same_numbers xs ys
  same_or xs ys b e = ap (cond (same_numbers xs ys) true) e ∙ go (same_numbers xs ys)
    where
      go : (b : Bool) → cond b true false ≡ b
      go true = refl
      go false = refl

  shorter_more : (xs : List ℕ) (y : ℕ) (ys : List ℕ) → length xs ≤ suc (length ys) →
      (length xs ≤ length ys → ends_with c t xs ys ≡ same_numbers xs (drop (length ys - length xs) ys)) →
      ends_with c t xs (y ∷ ys) ≡ same_numbers xs (drop (suc (length ys) - length xs) (y ∷ ys))
  shorter_more xs y ys h more = under_or_at (length xs) (suc (length ys)) (less h) (λ k. ap (λ b. cond b true (ends_with c t xs ys))
      (other_length xs (y ∷ ys) (λ e. differ (length xs) (length ys) k e)) ∙ more (down (length xs) (length ys) k) ∙
      ap (λ n. same_numbers xs (drop n (y ∷ ys))) (next (length xs) (length ys) k))
      (λ e. same_or xs (y ∷ ys) (ends_with c t xs ys) (longer xs ys (under (length xs) (length ys) e)) ∙
      ap (λ n. same_numbers xs (drop n (y ∷ ys))) (sym (all (length xs) (length ys) e)))
    where
      less : {m n : ℕ} → m ≤ n → m < suc n
      less h = omega (arith, h)

      differ : (m n : ℕ) → m < suc n → m ≡ suc n → ⊥
      differ m n h e = omega (arith, h, e)

      down : (m n : ℕ) → m < suc n → m ≤ n
      down m n h = omega (arith, h)

      next : (m n : ℕ) → m < suc n → suc (n - m) ≡ suc n - m
      next m n h = omega (arith, h)

      under : (m n : ℕ) → m ≡ suc n → n < m
      under m n e = omega (arith, e)

      all : (m n : ℕ) → m ≡ suc n → suc n - m ≡ 0
      all m n e = omega (arith, e)

  pub shorter : (xs ys : List ℕ) → length xs ≤ length ys → ends_with c t xs ys ≡ same_numbers xs (drop (length ys - length xs) ys)
  shorter [] [] h = refl
  shorter (x ∷ xs) [] h = elim (none (length xs) h) [ ]
    where
      none : (n : ℕ) → suc n ≤ 0 → ⊥
      none n h = omega (arith, h)
  shorter xs (y ∷ ys) h = shorter_more xs y ys h (λ k. shorter xs ys k)
