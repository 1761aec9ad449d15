use Rattle.std.proofs.Common.{arith}
use Rattle.std.specs.Global.{Vec}
use Rattle.verse_value.specs.declared.runs.CellKind.{CellKind}
use Rattle.verse_value.specs.declared.values.Value.{Value}
use Rattle.run_save_shots.specs.View.{cell_of}
use Rattle.run_save_format.specs.Format.{cell_field}
use Rattle.verse_image.proofs.WritingLemmas.{writes_entry, writes_end}
use Rattle.run_save_writer.proofs.Writing.{writes_list}
use Rattle.run_save_writer.proofs.cells.push_cells.Goals as goal

pub entries-init : goal.entries-init
entries-init c = λ new w. writes_list cell_field cell_of c.args.cells.now _ _ _ c.in_ok-push_count.ensures w

pub entries-preserved : goal.entries-preserved
entries-preserved c = λ new w.
    c.entries.invariant new (writes_entry (λ (x : CellKind × Vec Value). cell_field (cell_of x)) c.args.cells.now
    c.entries.entry-index _ _ _ _ _
    (omega arith) c.entry-item.is c.in_ok-push_cell.ensures w)

pub returns : goal.returns
returns c = c.entries.invariant _ (writes_end (λ (x : CellKind × Vec Value). cell_field (cell_of x)) c.args.cells.now
    c.entries.entry-index _ (omega arith))
