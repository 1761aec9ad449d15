-- Marks that stand within the kept lines.
use Rattle.std.proofs.Common.{◌≡◌, ℕ, ◌+◌, ◌-◌, ◌≤◌, List, [], ◌∷◌, ◌++◌, length, take, drop, map, reverse, ap, sym, ◌∙◌, refl, arith}
use Rattle.std.proofs.Common.{length-append, length-take, length-drop, subst, take-take, Some, slice_get, decimal}
use Rattle.std.proofs.lemmas.Grind.{flat_map-append}
use Rattle.std.proofs.lemmas.List.{take-append-drop, take-append-le, drop-take, reverse-append}
use Rattle.std.proofs.Math.Seq.{take-length}
use Rattle.verse_base.specs.TraceLine.{escaped}
use Rattle.trace_buf.specs.declared.buffers.Mark.{Mark}
use Rattle.trace_buf.specs.Trace.{outside, printed, line_text}
use Rattle.trace_buf.specs.Shown.{copies, Stands}

pub printed-append : (xs ys : List (ℕ × List ℕ)) → length (printed (xs ++ ys)) ≡ length (printed xs) + length (printed ys)
printed-append xs ys = ap length (flat_map-append line_text xs ys) ∙ length-append (printed xs) (printed ys)

-- the printed bytes of a list are those of its two parts
pub printed_parts : (n : ℕ) (xs : List (ℕ × List ℕ)) → length (printed xs) ≡ length (printed (take n xs)) + length (printed (drop n xs))
printed_parts n xs = ap (λ ys. length (printed ys)) (sym (take-append-drop n xs)) ∙ printed-append (take n xs) (drop n xs)

-- each line prints a byte at least
pub length-printed : (xs : List (ℕ × List ℕ)) → length xs ≤ length (printed xs)
length-printed [] = omega arith
length-printed (x ∷ xs) =
    let one : 1 ≤ length (line_text x) = omega (arith, length-append (decimal x.0) (32 ∷ (escaped x.1 ++ 10 ∷ []))) in
    omega (arith, one, length-append (line_text x) (printed xs), length-printed xs)

-- one more line at the end
pub copies_line : (g b : ℕ) (kept : List (ℕ × List ℕ)) (l : ℕ × List ℕ) (ms : List Mark) → Stands g b kept ms →
    copies g (kept ++ l ∷ []) ms ≡ copies g kept ms
copies_line g b kept l [] s = refl
copies_line g b kept l (m ∷ ms) s =
    let within : m.lines - g ≤ length kept = omega (arith, s.1) in
    ap (λ c. c ∷ copies g c ms) (take-append-le (m.lines - g) kept (l ∷ []) within)

pub stands_line : (g b : ℕ) (kept : List (ℕ × List ℕ)) (l : ℕ × List ℕ) (ms : List Mark) → Stands g b kept ms →
    Stands g b (kept ++ l ∷ []) ms
stands_line g b kept l [] s = s
stands_line g b kept l (m ∷ ms) s =
    let within : m.lines - g ≤ length kept = omega (arith, s.1) in
    let same : take (m.lines - g) kept ≡ take (m.lines - g) (kept ++ l ∷ []) = sym (take-append-le (m.lines - g) kept (l ∷ []) within) in (
      s.0,
      omega (arith, s.1, length-append kept (l ∷ [])),
      subst (λ c. m.bytes ≡ b + length (printed c)) same s.2,
      subst (λ c. Stands g b c ms) same s.3,
    )

-- a mark at the end
all_taken : (g n : ℕ) (kept : List (ℕ × List ℕ)) → n ≡ g + length kept → take (n - g) kept ≡ kept
all_taken g n kept e =
    let all : n - g ≡ length kept = omega (arith, e) in
    ap (λ k. take k kept) all ∙ take-length kept

pub copies_mark : (g : ℕ) (kept : List (ℕ × List ℕ)) (m : Mark) (ms : List Mark) → m.lines ≡ g + length kept →
    copies g kept (m ∷ ms) ≡ kept ∷ copies g kept ms
copies_mark g kept m ms e = ap (λ c. c ∷ copies g c ms) (all_taken g m.lines kept e)

pub stands_mark : (g b : ℕ) (kept : List (ℕ × List ℕ)) (m : Mark) (ms : List Mark) → m.lines ≡ g + length kept →
    m.bytes ≡ b + length (printed kept) → Stands g b kept ms → Stands g b kept (m ∷ ms)
stands_mark g b kept m ms e f s =
    let same : kept ≡ take (m.lines - g) kept = sym (all_taken g m.lines kept e) in
    (omega (arith, e), omega (arith, e), f ∙ ap (λ c. b + length (printed c)) same, subst (λ c. Stands g b c ms) same s)

-- the newest mark stands at the end of the code's list
pub reverse_pushed : (old new : List Mark) (m : Mark) → old ≡ new ++ m ∷ [] → reverse old ≡ m ∷ reverse new
reverse_pushed old new m e = ap reverse e ∙ reverse-append new (m ∷ [])

-- the newest mark is closed, and the lines are kept
taken_within : (g n m : ℕ) (kept : List (ℕ × List ℕ)) → n ≤ g + length (take (m - g) kept) →
    take (n - g) (take (m - g) kept) ≡ take (n - g) kept
taken_within g n m kept h = take-take (n - g) (m - g) kept (omega (arith, h, length-take (m - g) kept))

pub copies_commit : (g b : ℕ) (kept : List (ℕ × List ℕ)) (m : Mark) (ms : List Mark) → Stands g b kept (m ∷ ms) →
    copies g (take (m.lines - g) kept) ms ≡ copies g kept ms
copies_commit g b kept m [] s = refl
copies_commit g b kept m (n ∷ ms) s = ap (λ c. c ∷ copies g c ms) (taken_within g n.lines m.lines kept s.3.1)

pub stands_commit : (g b : ℕ) (kept : List (ℕ × List ℕ)) (m : Mark) (ms : List Mark) → Stands g b kept (m ∷ ms) → Stands g b kept ms
stands_commit g b kept m [] s = tt
stands_commit g b kept m (n ∷ ms) s =
    let same : take (n.lines - g) (take (m.lines - g) kept) ≡ take (n.lines - g) kept = taken_within g n.lines m.lines kept s.3.1 in (
      s.3.0,
      omega (arith, s.3.1, length-take (m.lines - g) kept),
      subst (λ c. n.bytes ≡ b + length (printed c)) same s.3.2,
      subst (λ c. Stands g b c ms) same s.3.3,
    )

-- how far the lines go that stand outside every open mark
abbrev pub oldest : Mark → List Mark → Mark
oldest a [] = a
oldest a (m ∷ ms) = oldest m ms

pub record Reaches (g b : ℕ) (kept out : List (ℕ × List ℕ)) (o : Mark) : Type 0 where
  pub lines : o.lines ≡ g + length out
  pub bytes : o.bytes ≡ b + length (printed out)
  pub front : out ≡ take (length out) kept

pub reaches : (g b : ℕ) (kept : List (ℕ × List ℕ)) (a : Mark) (ms : List Mark) → a.lines ≡ g + length kept →
    a.bytes ≡ b + length (printed kept) → Stands g b kept ms → Reaches g b kept (outside kept (copies g kept ms)) (oldest a ms)
reaches g b kept a [] l e s = record { lines = l; bytes = e; front = sym (take-length kept) }
reaches g b kept a (m ∷ ms) l e s =
    let c : List (ℕ × List ℕ) = take (m.lines - g) kept in
    let out : List (ℕ × List ℕ) = outside c (copies g c ms) in
    let far : m.lines ≡ g + length c = omega (arith, s.0, s.1, length-take (m.lines - g) kept) in
    let r : Reaches g b c out (oldest m ms) = reaches g b c m ms far s.2 s.3 in
    let within : length out ≤ m.lines - g = omega (arith, ap length r.front, length-take (length out) c, far) in
    record { lines = r.lines; bytes = r.bytes; front = r.front ∙ take-take (length out) (m.lines - g) kept within }

oldest_last : (a x : Mark) (ys : List Mark) → oldest a (ys ++ x ∷ []) ≡ x
oldest_last a x [] = refl
oldest_last a x (y ∷ ys) = oldest_last y x ys

pub oldest_first : (a m : Mark) (xs : List Mark) → slice_get xs 0 ≡ Some m → oldest a (reverse xs) ≡ m
oldest_first a m [] e = cc
oldest_first a m (x ∷ xs) e =
    let same : x ≡ m = cc in
    ap (oldest a) (reverse-append (x ∷ []) xs) ∙ oldest_last a x (reverse xs) ∙ same

-- the lines outside every open mark are drained
pub outside_within : (g : ℕ) (kept : List (ℕ × List ℕ)) (ms : List Mark) → length (outside kept (copies g kept ms)) ≤ length kept
outside_within g kept [] = omega arith
outside_within g kept (m ∷ ms) = omega (arith, outside_within g (take (m.lines - g) kept) ms, length-take (m.lines - g) kept)

rest_taken : (g k m : ℕ) (kept : List (ℕ × List ℕ)) → g + k ≤ m → drop k (take (m - g) kept) ≡ take (m - (g + k)) (drop k kept)
rest_taken g k m kept h =
    let parts : m - g ≡ k + (m - (g + k)) = omega (arith, h) in
    ap (λ n. drop k (take n kept)) parts ∙ drop-take k (m - (g + k)) kept

pub copies_drain : (g b k : ℕ) (kept : List (ℕ × List ℕ)) (ms : List Mark) → Stands g b kept ms →
    k ≤ length (outside kept (copies g kept ms)) → copies (g + k) (drop k kept) ms ≡ map (drop k) (copies g kept ms)
copies_drain g b k kept [] s h = refl
copies_drain g b k kept (m ∷ ms) s h =
    let c : List (ℕ × List ℕ) = take (m.lines - g) kept in
    let later : g + k ≤ m.lines = omega (arith, h, s.0, outside_within g c ms, length-take (m.lines - g) kept) in
    ap (λ d. d ∷ copies (g + k) d ms) (sym (rest_taken g k m.lines kept later)) ∙ ap (λ ds. drop k c ∷ ds) (copies_drain g b k c ms s.3 h)

pub stands_drain : (g b k : ℕ) (kept : List (ℕ × List ℕ)) (ms : List Mark) → Stands g b kept ms →
    k ≤ length (outside kept (copies g kept ms)) → Stands (g + k) (b + length (printed (take k kept))) (drop k kept) ms
stands_drain g b k kept [] s h = tt
stands_drain g b k kept (m ∷ ms) s h =
    let c : List (ℕ × List ℕ) = take (m.lines - g) kept in
    let later : g + k ≤ m.lines = omega (arith, h, s.0, outside_within g c ms, length-take (m.lines - g) kept) in
    let rest : drop k c ≡ take (m.lines - (g + k)) (drop k kept) = rest_taken g k m.lines kept later in
    let front : take k c ≡ take k kept = take-take k (m.lines - g) kept (omega (arith, later)) in
    let size : m.bytes ≡ (b + length (printed (take k kept))) + length (printed (drop k c)) =
    omega (arith, s.2, printed_parts k c, ap (λ ys. length (printed ys)) front) in
    let below : Stands (g + k) (b + length (printed (take k kept))) (drop k c) ms =
    subst (λ ys. Stands (g + k) (b + length (printed ys)) (drop k c) ms) front (stands_drain g b k c ms s.3 h) in (
      later,
      omega (arith, s.1, length-drop k kept),
      subst (λ ys. m.bytes ≡ (b + length (printed (take k kept))) + length (printed ys)) rest size,
      subst (λ ys. Stands (g + k) (b + length (printed (take k kept))) ys ms) rest below,
    )
