use Rattle.std.proofs.Common.{ap, length, reverse, arith}
use Rattle.std.proofs.lemmas.List.{length-reverse}
use Rattle.verse_cells.specs.Held.{store_of}
use Rattle.tx_heap.specs.Logged.{Logged, state_of, dues_of}
use Rattle.tx_heap.proofs.Undoing.{length_gaps, length_copies}
use Rattle.tx_heap.proofs.undo_heap.UndoHeapHeap.depth.Goals as goal

pub returns-clause-marks : goal.returns-clause-marks
returns-clause-marks c =
    omega (
      arith,
      c.len.ensures,
      ap (λ (h : Logged). length (state_of h).copies) c.self.view_is,
      length_copies c.self.inside.log.items (store_of c.self.inside.cells) (reverse c.self.inside.marks.items),
      length-reverse c.self.inside.marks.items,
    )

pub returns-clause-dues : goal.returns-clause-dues
returns-clause-dues c =
    omega (
      arith,
      c.len.ensures,
      ap (λ (h : Logged). length (dues_of h)) c.self.view_is,
      length_gaps (length c.self.inside.log.items) (reverse c.self.inside.marks.items),
      length-reverse c.self.inside.marks.items,
    )
