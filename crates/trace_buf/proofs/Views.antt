-- What each call makes of a trace, from the fields of its buffer.
use Rattle.std.proofs.Common.{◌≡◌, ℕ, ◌+◌, ◌-◌, ◌≤◌, List, [], ◌∷◌, ◌++◌, length, take, drop, map, reverse, ap, sym, ◌∙◌, refl, arith}
use Rattle.std.proofs.Common.{subst, Some, slice_get, append-nil}
use Rattle.std.proofs.lemmas.List.{take-map, drop-map, map-append}
use Rattle.verse_base.specs.declared.limits.TheConstants.{MOST_TRACE_BYTES}
use Rattle.trace_buf.specs.declared.buffers.Mark.{Mark}
use Rattle.trace_buf.specs.declared.buffers.TraceBuf.TheInside.{Inside}
use Rattle.trace_buf.specs.declared.lines.Kept.{Kept}
use Rattle.trace_buf.specs.Trace.{Trace, committed, drained, line_text, newest, outside, printed, rolled_back, with_line}
use Rattle.trace_buf.specs.Lines.{line_of}
use Rattle.trace_buf.specs.Shown.{IsWhole, Stands, copies, trace_of}
use Rattle.trace_buf.proofs.Standing.{copies_commit, copies_drain, copies_line, length-printed, oldest, oldest_first, printed-append}
use Rattle.trace_buf.proofs.Standing.{printed_parts, reaches, Reaches, reverse_pushed, stands_commit, stands_drain, stands_line}

same_trace : {k k' : List (ℕ × List ℕ)} {m m' : List (List (ℕ × List ℕ))} {b b' l l' : ℕ} → k ≡ k' → m ≡ m' → b ≡ b' → l ≡ l' →
    (let t : Trace = record { kept = k; marks = m; bytes = b; lines = l } in t) ≡
    (let t : Trace = record { kept = k'; marks = m'; bytes = b'; lines = l' } in t)
same_trace {k' = k'} {m = m} {m' = m'} {b = b} {b' = b'} {l = l} e f g h =
    ap (λ x. let t : Trace = record { kept = x; marks = m; bytes = b; lines = l } in t) e
    ∙ ap (λ x. let t : Trace = record { kept = k'; marks = x; bytes = b; lines = l } in t) f
    ∙ ap (λ x. let t : Trace = record { kept = k'; marks = m'; bytes = x; lines = l } in t) g
    ∙ ap (λ x. let t : Trace = record { kept = k'; marks = m'; bytes = b'; lines = x } in t) h

-- the marks after the newest one is closed
pub marks_closed : (g b : ℕ) (kept : List (ℕ × List ℕ)) (m : Mark) (old new : List Mark) → old ≡ new ++ m ∷ [] →
    copies g (take (m.lines - g) kept) (reverse new) ≡ drop 1 (copies g kept (reverse old))
marks_closed g b kept m old new e = ap (λ ms. drop 1 (copies g kept ms)) (sym (reverse_pushed old new m e))

pub stood : (g b : ℕ) (kept : List (ℕ × List ℕ)) (m : Mark) (old new : List Mark) → old ≡ new ++ m ∷ [] → Stands g b kept (reverse old) →
    Stands g b kept (m ∷ reverse new)
stood g b kept m old new e s = subst (Stands g b kept) (reverse_pushed old new m e) s

pub committed_marks : (g b : ℕ) (kept : List (ℕ × List ℕ)) (m : Mark) (old new : List Mark) → old ≡ new ++ m ∷ [] →
    Stands g b kept (reverse old) → copies g kept (reverse new) ≡ drop 1 (copies g kept (reverse old))
committed_marks g b kept m old new e s =
    sym (copies_commit g b kept m (reverse new) (stood g b kept m old new e s)) ∙ marks_closed g b kept m old new e

pub committed_stands : (g b : ℕ) (kept : List (ℕ × List ℕ)) (m : Mark) (old new : List Mark) → old ≡ new ++ m ∷ [] →
    Stands g b kept (reverse old) → Stands g b kept (reverse new)
committed_stands g b kept m old new e s = stands_commit g b kept m (reverse new) (stood g b kept m old new e s)

pub committed_view : (s : Inside) (m : Mark) (new : List Mark) → IsWhole s → s.marks.items ≡ new ++ m ∷ [] →
    (let t : Trace = record {
      kept = map line_of s.lines.items;
      marks =
          copies s.drained_lines (map line_of s.lines.items) (reverse new);
      bytes = s.drained_bytes;
      lines = s.drained_lines;
    } in
    t) ≡ committed (trace_of s)
committed_view s m new w e = same_trace refl
    (committed_marks s.drained_lines s.drained_bytes (map line_of s.lines.items) m s.marks.items new e w.stands) refl refl

-- the lines go back to the newest mark
newest_kept : (g : ℕ) (kept : List (ℕ × List ℕ)) (m : Mark) (old new : List Mark) → old ≡ new ++ m ∷ [] →
    take (m.lines - g) kept ≡ newest kept (copies g kept (reverse old))
newest_kept g kept m old new e = ap (λ ms. newest kept (copies g kept ms)) (sym (reverse_pushed old new m e))

pub rolled_view : (s : Inside) (m : Mark) (new : List Mark) (items : List Kept) → IsWhole s → s.marks.items ≡ new ++ m ∷ [] →
    items ≡ take (m.lines - s.drained_lines) s.lines.items →
    (let t : Trace = record {
      kept = map line_of items;
      marks = copies s.drained_lines (map line_of items) (reverse new);
      bytes =
          s.drained_bytes;
      lines = s.drained_lines;
    } in t) ≡ rolled_back (trace_of s)
rolled_view s m new items w e f =
    let kept : List (ℕ × List ℕ) = map line_of s.lines.items in
    let cut : map line_of items ≡ take (m.lines - s.drained_lines) kept =
    ap (map line_of) f ∙ sym (take-map line_of (m.lines - s.drained_lines) s.lines.items) in
    same_trace
    (cut ∙ newest_kept s.drained_lines kept m s.marks.items new e)
    (ap (λ k. copies s.drained_lines k (reverse new)) cut ∙ marks_closed s.drained_lines s.drained_bytes kept m s.marks.items new e)
    refl refl

-- what holds of the newest mark
pub record RollsBack (s : Inside) (m : Mark) (new : List Mark) (items : List Kept) : Type 0 where
  pub size : m.bytes ≡ s.drained_bytes + length (printed (map line_of items))
  pub limit : m.bytes ≤ MOST_TRACE_BYTES
  pub stands : Stands s.drained_lines s.drained_bytes (map line_of items) (reverse new)

pub rolled_whole : (s : Inside) (m : Mark) (new : List Mark) (items : List Kept) → IsWhole s → s.marks.items ≡ new ++ m ∷ [] →
    items ≡ take (m.lines - s.drained_lines) s.lines.items → RollsBack s m new items
rolled_whole s m new items w e f =
    let kept : List (ℕ × List ℕ) = map line_of s.lines.items in
    let cut : take (m.lines - s.drained_lines) kept ≡ map line_of items = take-map line_of (m.lines - s.drained_lines) s.lines.items ∙
    ap (map line_of) (sym f) in
    let stands : Stands s.drained_lines s.drained_bytes kept (m ∷ reverse new) =
    stood s.drained_lines s.drained_bytes kept m s.marks.items new e w.stands in
    record {
      size = stands.2 ∙ ap (λ k. s.drained_bytes + length (printed k)) cut;
      limit = omega (arith, stands.2, w.size, w.limit, printed_parts (m.lines - s.drained_lines) kept);
      stands = subst (λ k. Stands s.drained_lines s.drained_bytes k (reverse new)) cut stands.3;
    }

-- one more line
pub record Lengthens (s : Inside) (l : ℕ × List ℕ) (items : List Kept) : Type 0 where
  pub kept : map line_of items ≡ map line_of s.lines.items ++ l ∷ []
  pub size : s.bytes + length (line_text l) ≡ s.drained_bytes + length (printed (map line_of items))
  pub stands : Stands s.drained_lines s.drained_bytes (map line_of items) (reverse s.marks.items)
  pub marks : copies s.drained_lines (map line_of items) (reverse s.marks.items) ≡
      copies s.drained_lines (map line_of s.lines.items) (reverse s.marks.items)

pub lengthens : (s : Inside) (k : Kept) (l : ℕ × List ℕ) (items : List Kept) → IsWhole s → items ≡ s.lines.items ++ k ∷ [] → line_of k ≡ l →
    Lengthens s l items
lengthens s k l items w e f =
    let kept : List (ℕ × List ℕ) = map line_of s.lines.items in
    let longer : map line_of items ≡ kept ++ l ∷ [] = ap (map line_of) e ∙ map-append line_of s.lines.items (k ∷ []) ∙
    ap (λ x. kept ++ x ∷ []) f in
    let one : length (printed (l ∷ [])) ≡ length (line_text l) = ap length (append-nil (line_text l)) in
    let size : length (printed (map line_of items)) ≡ length (printed kept) + length (line_text l) =
    ap (λ x. length (printed x)) longer ∙ printed-append kept (l ∷ []) ∙ ap (λ n. length (printed kept) + n) one in
    record {
      kept = longer;
      size = omega (arith, w.size, size);
      stands = subst (λ x. Stands s.drained_lines s.drained_bytes x (reverse s.marks.items)) (sym longer)
          (stands_line s.drained_lines s.drained_bytes kept l (reverse s.marks.items) w.stands);
      marks = ap (λ x. copies s.drained_lines x (reverse s.marks.items)) longer ∙
          copies_line s.drained_lines s.drained_bytes kept l (reverse s.marks.items) w.stands;
    }

pub longer_view : (s : Inside) (l : ℕ × List ℕ) (items : List Kept) → Lengthens s l items →
    (let t : Trace = record {
      kept = map line_of items;
      marks = copies s.drained_lines (map line_of items) (reverse s.marks.items);
      bytes =
          s.drained_bytes;
      lines = s.drained_lines;
    } in t) ≡ with_line (trace_of s) l.0 l.1
longer_view s l items h = same_trace h.kept h.marks refl refl

-- a mark that stands where the lines outside every open mark end
pub record Settles (t : Trace) (o : Mark) : Type 0 where
  pub lines : o.lines ≡ t.lines + length (outside t.kept t.marks)
  pub bytes : o.bytes ≡ t.bytes + length (printed (outside t.kept t.marks))
  pub front : outside t.kept t.marks ≡ take (length (outside t.kept t.marks)) t.kept

pub settles : (s : Inside) (o : Mark) → IsWhole s → slice_get s.marks.items 0 ≡ Some o → Settles (trace_of s) o
settles s o w e =
    let g : ℕ = s.drained_lines in
    let b : ℕ = s.drained_bytes in
    let kept : List (ℕ × List ℕ) = map line_of s.lines.items in
    let all : Mark = record { lines = g + length kept; bytes = b + length (printed kept) } in
    let out : List (ℕ × List ℕ) = outside kept (copies g kept (reverse s.marks.items)) in
    let reached : Reaches g b kept out (oldest all (reverse s.marks.items)) =
    reaches g b kept all (reverse s.marks.items) refl refl w.stands in
    let first : oldest all (reverse s.marks.items) ≡ o = oldest_first all o s.marks.items e in
    record {
      lines = ap (λ (m : Mark). m.lines) (sym first) ∙ reached.lines;
      bytes = ap (λ (m : Mark). m.bytes) (sym first) ∙ reached.bytes;
      front = reached.front;
    }

-- what is known of the value holds of the fields
pub settles_within : (s : Inside) (t : Trace) (o : Mark) → trace_of s ≡ t → o.lines ≡ t.lines + length (outside t.kept t.marks) →
    o.bytes ≡ t.bytes + length (printed (outside t.kept t.marks)) → outside t.kept t.marks ≡ take (length (outside t.kept t.marks)) t.kept →
    Settles (trace_of s) o
settles_within s t o e lines bytes front = subst (λ x. Settles x o) (sym e) (record { lines = lines; bytes = bytes; front = front })

pub settled_text : (s : Inside) (o : Mark) (lines : List Kept) → Settles (trace_of s) o →
    lines ≡ take (o.lines - s.drained_lines) s.lines.items →
    printed (map line_of lines) ≡ printed (outside (trace_of s).kept (trace_of s).marks)
settled_text s o lines t e =
    let kept : List (ℕ × List ℕ) = map line_of s.lines.items in
    let out : List (ℕ × List ℕ) = outside kept (copies s.drained_lines kept (reverse s.marks.items)) in
    let count : o.lines - s.drained_lines ≡ length out = omega (arith, t.lines) in
    ap printed (ap (map line_of) e ∙ sym (take-map line_of (o.lines - s.drained_lines) s.lines.items) ∙ ap (λ n. take n kept) count ∙
    sym t.front)

-- the lines outside every open mark are taken off
pub record Drains (s : Inside) (o : Mark) (items : List Kept) : Type 0 where
  pub size : s.bytes ≡ o.bytes + length (printed (map line_of items))
  pub few : o.lines ≤ o.bytes
  pub stands : Stands o.lines o.bytes (map line_of items) (reverse s.marks.items)
  pub view : (let t : Trace = record {
    kept = map line_of items;
    marks = copies o.lines (map line_of items) (reverse s.marks.items);
    bytes =
        o.bytes;
    lines = o.lines;
  } in t) ≡ drained (trace_of s)

pub drains : (s : Inside) (o : Mark) (items : List Kept) → IsWhole s → Settles (trace_of s) o →
    items ≡ drop (o.lines - s.drained_lines) s.lines.items → Drains s o items
drains s o items w t e =
    let g : ℕ = s.drained_lines in
    let b : ℕ = s.drained_bytes in
    let kept : List (ℕ × List ℕ) = map line_of s.lines.items in
    let ms : List Mark = reverse s.marks.items in
    let out : List (ℕ × List ℕ) = outside kept (copies g kept ms) in
    let count : o.lines - g ≡ length out = omega (arith, t.lines) in
    let left : map line_of items ≡ drop (length out) kept = ap (map line_of) e ∙ sym (drop-map line_of (o.lines - g) s.lines.items) ∙
    ap (λ n. drop n kept) count in
    let out_size : length (printed out) ≡ length (printed (take (length out) kept)) = ap (λ x. length (printed x)) t.front in
    let bytes : o.bytes ≡ b + length (printed (take (length out) kept)) = t.bytes ∙ ap (λ n. b + n) out_size in
    let within : length out ≤ length out = omega arith in
    let stands : Stands (g + length out) (b + length (printed (take (length out) kept))) (drop (length out) kept) ms =
    stands_drain g b (length out) kept ms w.stands within in
    let stands_lines : Stands o.lines (b + length (printed (take (length out) kept))) (drop (length out) kept) ms =
    subst (λ n. Stands n (b + length (printed (take (length out) kept))) (drop (length out) kept) ms) (sym t.lines) stands in
    let stands_bytes : Stands o.lines o.bytes (drop (length out) kept) ms =
    subst (λ n. Stands o.lines n (drop (length out) kept) ms) (sym bytes) stands_lines in
    record {
      size = omega (arith, w.size, bytes, printed_parts (length out) kept, ap (λ x. length (printed x)) left);
      few = omega (arith, w.few, t.lines, t.bytes, length-printed out);
      stands = subst (λ x. Stands o.lines o.bytes x ms) (sym left) stands_bytes;
      view = same_trace left
          (ap (λ x. copies o.lines x ms) left ∙ ap (λ n. copies n (drop (length out) kept) ms) t.lines ∙
          copies_drain g b (length out) kept ms w.stands within)
          t.bytes t.lines;
    }
