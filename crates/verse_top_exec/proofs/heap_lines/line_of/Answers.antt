-- As many slots are written as the cell has.
use Rattle.std.proofs.Common.{◌≡◌, subst, sym, length}
use Rattle.verse_top_exec.specs.Cells.{cell_at}
use Rattle.verse_top_exec.proofs.HeapLines.{slots_counted}
use Rattle.verse_top_exec.proofs.heap_lines.line_of.Goals as goal

pub push_slots-requires : goal.push_slots-requires
push_slots-requires g c =
    subst (λ h. length (cell_at h.cells c.args.address).slots ≡ c.slots_in.result) (sym c.kind-kind.ensures.same)
    (slots_counted c.args.code.now.classes (g.H.Heap.state c.args.heap.now).cells c.args.address c.slots_in.result c.kind-kind.result
    c.requires.belongs c.requires.there c.kind-kind.ensures.kind c.slots_in.ensures)
