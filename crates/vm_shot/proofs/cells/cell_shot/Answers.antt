-- The slots of the cell are those of its kind.
use Rattle.std.proofs.Common.{◌≡◌, Some, option_map, slice_get, subst, sym}
use Rattle.verse_value.specs.Store.{Cell}
use Rattle.verse_value.specs.View.{vals_of}
use Rattle.vm_shot.specs.Cells.{HasSlots}
use Rattle.vm_shot.proofs.Copying.{slots_counted, cell_made}
use Rattle.vm_shot.proofs.cells.cell_shot.Goals as goal

pub slots_shot-requires : goal.slots_shot-requires
slots_shot-requires g c =
    subst (λ h. HasSlots h.cells c.args.address c.slots_in.result) (sym c.kind-kind.ensures.same)
    (slots_counted c.args.code.now.classes (g.H.Heap.state c.args.heap.now).cells c.args.address c.slots_in.result c.kind-kind.result
    c.requires.belongs c.kind-kind.ensures.kind c.slots_in.ensures)
