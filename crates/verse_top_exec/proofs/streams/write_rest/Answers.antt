-- The lines of the heap, and then the last line.
use Rattle.std.proofs.Common.{◌≡◌, List, ℕ, [], cond, inl, inr, IfErr, refl, subst, ◌∙◌, ap}
use Rattle.verse_outside.specs.Held.{TookPrefix, with_more}
use Rattle.verse_meaning_state.specs.Texts.{ending_line, heap_lines}
use Rattle.verse_top_exec.specs.declared.stops.Stop.TheVariants as stop
use Rattle.verse_top_exec.specs.Cells.{FirstLines}
use Rattle.verse_top_exec.specs.Endings.{FrontOf, last_run, rest_text}
use Rattle.verse_top_exec.specs.Leaving.{Stopped}
use Rattle.verse_top_exec.proofs.Leaving.{at_error, stopped_as}
use Rattle.verse_top_exec.proofs.StreamLemmas.{all_lines}
use Rattle.verse_top_exec.proofs.Takes.{more_then, rose_from, took_behind}
use Rattle.verse_top_exec.proofs.streams.write_rest.Goals as goal

pub returns-in_err-write_lines-clause-stopped : goal.returns-in_err-write_lines-clause-stopped
returns-in_err-write_lines-clause-stopped g c =
    let cells = (g.H.Heap.state c.args.heap.now).cells in
    let first = FirstLines c.args.lines cells in
    let front = FrontOf c.args.lines cells c.args.code.now.files (last_run c.args.last) in
    let before = g.S.Sink.faults c.args.out.now in
    let now = g.S.Sink.faults c.write_lines.new.out in
    let old = g.S.Sink.taken c.args.out.now in
    let new = g.S.Sink.taken c.write_lines.new.out in
    at_error c.from_residual.result (λ r. IfErr r (Stopped first front before now old new)) c.in_err-write_lines.field-0.0
    c.from_residual.ensures.1
    (stopped_as first first first front before now old new c.in_err-write_lines.field-0.0 (λ t p. p)
    (λ t p. inl p) c.in_err-write_lines.ensures.stopped)

pub returns-in_err-line-clause-stopped : goal.returns-in_err-line-clause-stopped
returns-in_err-line-clause-stopped g c =
    let cells = (g.H.Heap.state c.args.heap.now).cells in
    let first = FirstLines c.args.lines cells in
    let front = FrontOf c.args.lines cells c.args.code.now.files (last_run c.args.last) in
    at_error c.from_residual-in_err-line.result
    (λ r. IfErr r (Stopped first front (g.S.Sink.faults c.args.out.now) (g.S.Sink.faults c.write_lines.new.out)
    (g.S.Sink.taken c.args.out.now) (g.S.Sink.taken c.write_lines.new.out))) stop.Memory c.from_residual-in_err-line.ensures.1
    (cond c.args.lines (heap_lines 0 cells) [], (all_lines c.args.lines cells, c.in_ok-write_lines.ensures.whole))

pub returns-in_err-write_all-clause-stopped : goal.returns-in_err-write_all-clause-stopped
returns-in_err-write_all-clause-stopped g c =
    let cells = (g.H.Heap.state c.args.heap.now).cells in
    let files = c.args.code.now.files in
    let first = FirstLines c.args.lines cells in
    let front = FrontOf c.args.lines cells files (last_run c.args.last) in
    let text : c.as_slice.result.now ≡ ending_line files (last_run c.args.last) = rw c.in_ok-line.ensures at c.as_slice.ensures.value in
    let part = subst (λ (l : List ℕ). TookPrefix (g.S.Sink.taken c.write_lines.new.out) l (g.S.Sink.taken c.write_all.new.out)) text
    c.in_err-write_all.ensures.part in
    at_error c.from_residual-in_err-write_all.result
    (λ r. IfErr r (Stopped first front (g.S.Sink.faults c.args.out.now) (g.S.Sink.faults c.write_all.new.out)
    (g.S.Sink.taken c.args.out.now) (g.S.Sink.taken c.write_all.new.out))) stop.Failed c.from_residual-in_err-write_all.ensures.1 (
      rose_from _ _ _ c.write_lines.ensures.later c.in_err-write_all.ensures.failed,
      (
        rest_text c.args.lines cells files (last_run c.args.last),
        (
          inr refl,
          took_behind _ _ _ (cond c.args.lines (heap_lines 0 cells) [])
              (ending_line files (last_run c.args.last)) c.in_ok-write_lines.ensures.whole part,
        ),
      ),
    )

pub returns-clause-whole : goal.returns-clause-whole
returns-clause-whole g c =
    let cells = (g.H.Heap.state c.args.heap.now).cells in
    let files = c.args.code.now.files in
    let text : c.as_slice.result.now ≡ ending_line files (last_run c.args.last) = rw c.in_ok-line.ensures at c.as_slice.ensures.value in
    more_then (g.S.Sink.taken c.args.out.now) (g.S.Sink.taken c.write_lines.new.out) (g.S.Sink.taken c.write_all.new.out)
    (cond c.args.lines (heap_lines 0 cells) []) (ending_line files (last_run c.args.last)) c.in_ok-write_lines.ensures.whole
    (c.in_ok-write_all.ensures.whole ∙ ap (with_more (g.S.Sink.taken c.write_lines.new.out)) text)
