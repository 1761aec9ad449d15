-- One line more is written, or those of the cells before.
use Rattle.std.proofs.Common.{◌≡◌, ◌<◌, true, Err, length, ap, subst, ◌∙◌, rules}
use Rattle.verse_outside.specs.Held.{TookPrefix, with_more}
use Rattle.verse_meaning_state.specs.Texts.{cell_line}
use Rattle.verse_top_exec.specs.declared.stops.Stop.TheVariants as stop
use Rattle.verse_top_exec.specs.Cells.{FirstLines, cell_at}
use Rattle.verse_top_exec.specs.Leaving.{Stopped}
use Rattle.verse_top_exec.proofs.HeapLines.{lines_step, stops_at}
use Rattle.verse_top_exec.proofs.heap_lines.write_heap.Goals as goal

pub cells-preserved : goal.cells-preserved
cells-preserved g c =
    let cells = (g.H.Heap.state c.args.heap.now).cells in
    let low : c.cells.address < length cells = search rules in
    let line = subst (λ h. g.S.Sink.taken c.write_cell.new.out ≡
    with_more (g.S.Sink.taken c.cells.out) (cell_line c.cells.address (cell_at h.cells c.cells.address))) c.cells.invariant.0
    c.in_ok-write_cell.ensures.whole in (
      c.write_cell.ensures.same ∙ c.cells.invariant.0,
      lines_step cells c.cells.address (g.S.Sink.taken c.args.out.now) (g.S.Sink.taken c.cells.out)
          (g.S.Sink.taken c.write_cell.new.out) low c.cells.invariant.1 line,
      search rules,
    )

pub returns-in_err-write_cell-clause-stopped : goal.returns-in_err-write_cell-clause-stopped
returns-in_err-write_cell-clause-stopped g c =
    let cells = (g.H.Heap.state c.args.heap.now).cells in
    let low : c.cells.address < length cells = search rules in
    let same = c.cells.invariant.0 in
    let part = subst (λ h. c.write_cell.result ≡ Err stop.Failed →
    TookPrefix (g.S.Sink.taken c.cells.out) (cell_line c.cells.address (cell_at h.cells c.cells.address))
    (g.S.Sink.taken c.write_cell.new.out)) same c.write_cell.ensures.part in
    let stopped : Stopped (FirstLines true cells) (FirstLines true cells) (g.S.Sink.faults c.args.out.now)
    (g.S.Sink.faults c.write_cell.new.out) (g.S.Sink.taken c.args.out.now)
    (g.S.Sink.taken c.write_cell.new.out) c.in_err-write_cell.field-0.0 =
    stops_at cells c.cells.address (g.S.Sink.faults c.args.out.now) (g.S.Sink.faults c.cells.out) (g.S.Sink.faults c.write_cell.new.out)
    (g.S.Sink.taken c.args.out.now) (g.S.Sink.taken c.cells.out) (g.S.Sink.taken c.write_cell.new.out) c.in_err-write_cell.field-0.0 low
    c.cells.invariant.1 c.cells.invariant.2
    (λ e. c.write_cell.ensures.memory (c.in_err-write_cell.was ∙ ap Err e)) (λ e. part (c.in_err-write_cell.was ∙ ap Err e))
    (λ e. c.write_cell.ensures.failed (c.in_err-write_cell.was ∙ ap Err e)) in
    search rules
