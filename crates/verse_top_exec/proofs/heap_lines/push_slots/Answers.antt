-- One slot more is written.
use Rattle.std.proofs.Common.{◌≡◌, Some, subst, sym, ◌∙◌, rules}
use Rattle.verse_value.specs.View.{val_of}
use Rattle.verse_value.specs.Store.{slot_of}
use Rattle.verse_top_exec.specs.Cells.{cell_at}
use Rattle.verse_top_exec.proofs.HeapLines.{slot_is, slots_step}
use Rattle.verse_top_exec.proofs.heap_lines.push_slots.Goals as goal

pub slots-preserved : goal.slots-preserved
slots-preserved g c =
    let cells = (g.H.Heap.state c.args.heap.now).cells in
    let same : g.H.Heap.state c.get.follows.lender-at-none ≡ g.H.Heap.state c.args.heap.now = search rules in
    let value : slot_of cells c.args.cell c.slots.slot ≡ Some (val_of c.get.result.now) =
    subst (λ h. slot_of h.cells c.args.cell c.slots.slot ≡ Some (val_of c.get.result.now)) c.slots.invariant.0 c.get.ensures.value in (
      same,
      slots_step _ c.slots.out.items c.slot_text.new.out.items (cell_at cells c.args.cell).slots c.slots.slot (val_of c.get.result.now)
          (sym (slot_is cells c.args.cell c.slots.slot) ∙ value) c.in_ok-slot_text.ensures c.slots.invariant.1,
    )
