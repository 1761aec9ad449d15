-- The lines of the heap, cell after cell.
use Rattle.std.proofs.Common.{◌≡◌, ℕ, zero, suc, ◌+◌, ◌<◌, ◌≤◌, List, [], ◌∷◌, ◌++◌, Option, Some, None, true, length, take, ap, sym, subst}
use Rattle.std.proofs.Common.{◌∙◌, refl, append-nil, append_assoc, arith}
use Rattle.std.specs.Prelude.{slice_get, option_map, drop}
use Rattle.verse_code.specs.declared.codes.Class.{Class}
use Rattle.verse_value.specs.Val.{Val}
use Rattle.verse_value.specs.Store.{Cell, Store, slot_of}
use Rattle.verse_outside.specs.Causes.{Rose}
use Rattle.verse_outside.specs.Held.{TookPrefix, with_more}
use Rattle.verse_value.specs.Texts.{text_of}
use Rattle.verse_value.specs.declared.runs.CellKind.{CellKind}
use Rattle.verse_meaning_state.specs.Texts.{cell_line, heap_lines, slots_text}
use Rattle.verse_code_machine.specs.Belonging.{StoreBelongs, slots_of}
use Rattle.verse_top_exec.specs.declared.stops.Stop.{Stop}
use Rattle.verse_top_exec.specs.declared.stops.Stop.TheVariants as stop
use Rattle.verse_top_exec.specs.Cells.{FirstLines, cell_at}
use Rattle.verse_top_exec.specs.Leaving.{Stopped}
use Rattle.verse_top_exec.proofs.Takes.{more_then, rose_from, took_behind}

-- one more cell has its line behind the others
lines_next : (cells : Store) (n a : ℕ) → n < length cells → heap_lines a (take (suc n) cells) ≡ heap_lines a (take n cells) ++
    cell_line (a + n) (cell_at cells n)
lines_next [] n a low = absurd (omega arith)
lines_next (c ∷ cs) zero a low = let same : a ≡ a + 0 = omega arith in append-nil (cell_line a c) ∙ ap (λ k. cell_line k c) same
lines_next (c ∷ cs) (suc n) a low =
    let same : suc a + n ≡ a + suc n = omega arith in
    ap (λ l. cell_line a c ++ l) (lines_next cs n (suc a) (omega arith)) ∙
    sym (append_assoc (cell_line a c) (heap_lines (suc a) (take n cs)) (cell_line (suc a + n) (cell_at cs n)))
    ∙ ap (λ k. (cell_line a c ++ heap_lines (suc a) (take n cs)) ++ cell_line k (cell_at cs n)) same

pub lines_more : (cells : Store) (n : ℕ) → n < length cells → heap_lines 0 (take (n + 1) cells) ≡ heap_lines 0 (take n cells) ++
    cell_line n (cell_at cells n)
lines_more cells n low =
    let next : n + 1 ≡ suc n = omega arith in
    let same : 0 + n ≡ n = omega arith in
    ap (λ k. heap_lines 0 (take k cells)) next ∙ lines_next cells n 0 low ∙
    ap (λ k. heap_lines 0 (take n cells) ++ cell_line k (cell_at cells n)) same

-- a cell has the slots of its kind
pub cell_belongs : (cs : List Class) (cells : Store) (n : ℕ) → StoreBelongs cs cells → n < length cells →
    slots_of cs (cell_at cells n).kind ≡ Some (length (cell_at cells n).slots)
cell_belongs cs [] n b low = absurd (omega arith)
cell_belongs cs (c ∷ cells) zero b low = b.0
cell_belongs cs (c ∷ cells) (suc n) b low = cell_belongs cs cells n b.1 (omega arith)

kind_is : (cells : Store) (n : ℕ) (k : CellKind) → option_map (λ (c : Cell). c.kind) (slice_get cells n) ≡ Some k →
    (cell_at cells n).kind ≡ k
kind_is [] n k e = absurd (cc)
kind_is (c ∷ cells) zero k e = cc
kind_is (c ∷ cells) (suc n) k e = kind_is cells n k e

pub slots_counted : (cs : List Class) (cells : Store) (n count : ℕ) (k : CellKind) → StoreBelongs cs cells → n < length cells →
    option_map (λ (c : Cell). c.kind) (slice_get cells n) ≡ Some k → ((m : ℕ) → slots_of cs k ≡ Some m → count ≡ m) →
    length (cell_at cells n).slots ≡ count
slots_counted cs cells n count k b low e f =
    sym (f (length (cell_at cells n).slots) (ap (slots_of cs) (sym (kind_is cells n k e)) ∙ cell_belongs cs cells n b low))

slots_front : (xs : List Val) (i : ℕ) (v : Val) → slice_get xs i ≡ Some v →
    slots_text (drop i xs) ≡ (32 ∷ text_of v) ++ slots_text (drop (suc i) xs)
slots_front [] i v e = absurd (cc)
slots_front (x ∷ xs) zero v e = let same : x ≡ v = cc in ap (λ (w : Val). 32 ∷ (text_of w ++ slots_text xs)) same
slots_front (x ∷ xs) (suc i) v e = slots_front xs i v e

-- one slot more is written
pub slots_step : (all out new : List ℕ) (xs : List Val) (i : ℕ) (v : Val) → slice_get xs i ≡ Some v → new ≡ out ++ 32 ∷ text_of v →
    out ++ slots_text (drop i xs) ≡ all → new ++ slots_text (drop (i + 1) xs) ≡ all
slots_step all out new xs i v e f g =
    let next : i + 1 ≡ suc i = omega arith in
    ap (λ k. new ++ slots_text (drop k xs)) next ∙ ap (λ l. l ++ slots_text (drop (suc i) xs)) f
    ∙ append_assoc out (32 ∷ text_of v) (slots_text (drop (suc i) xs)) ∙ ap (λ l. out ++ l) (sym (slots_front xs i v e)) ∙ g

-- one line more is written
pub lines_step : (cells : Store) (n : ℕ) (old at new : Option (List ℕ)) → n < length cells →
    at ≡ with_more old (heap_lines 0 (take n cells)) →
    new ≡ with_more at (cell_line n (cell_at cells n)) → new ≡ with_more old (heap_lines 0 (take (n + 1) cells))
lines_step cells n old at new low e f =
    more_then old at new (heap_lines 0 (take n cells)) (cell_line n (cell_at cells n)) e f ∙
    ap (with_more old) (sym (lines_more cells n low))

pub slot_is : (cells : Store) (n slot : ℕ) → slot_of cells n slot ≡ slice_get (cell_at cells n).slots slot
slot_is [] n slot = refl
slot_is (c ∷ cells) zero slot = refl
slot_is (c ∷ cells) (suc n) slot = slot_is cells n slot

-- where the line of a cell is not written, those before it are
pub stops_at : (cells : Store) (n before mid now : ℕ) (old at new : Option (List ℕ)) (s : Stop) → n < length cells →
    at ≡ with_more old (heap_lines 0 (take n cells)) → before ≤ mid → (s ≡ stop.Memory → new ≡ at) →
    (s ≡ stop.Failed → TookPrefix at (cell_line n (cell_at cells n)) new) → (s ≡ stop.Failed → Rose mid now) →
    Stopped (FirstLines true cells) (FirstLines true cells) before now old new s
stops_at cells n before mid now old at new stop.Memory low e later memory part failed =
    (heap_lines 0 (take n cells), ((n, refl), memory refl ∙ e))
stops_at cells n before mid now old at new stop.Failed low e later memory part failed = (
  rose_from before mid now later (failed refl),
  (
    heap_lines 0 (take (n + 1) cells),
    (
      (n + 1, refl),
      subst (λ (l : List ℕ). TookPrefix old l new) (sym (lines_more cells n low))
          (took_behind old at new (heap_lines 0 (take n cells)) (cell_line n (cell_at cells n)) e (part refl)),
    ),
  ),
)
