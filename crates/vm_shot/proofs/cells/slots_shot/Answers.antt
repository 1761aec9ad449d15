-- One slot more is copied.
use Rattle.std.proofs.Common.{◌≡◌, Some, ap, subst, sym, ◌∙◌, rules}
use Rattle.verse_value.specs.View.{val_of}
use Rattle.verse_value.specs.Store.{slot_of}
use Rattle.vm_shot.specs.Cells.{slots_at}
use Rattle.vm_shot.proofs.Copying.{one_copied, slot_is}
use Rattle.vm_shot.proofs.cells.slots_shot.Goals as goal

pub slots-preserved : goal.slots-preserved
slots-preserved g c =
    let cells = (g.H.Heap.state c.args.heap.now).cells in
    let same : g.H.Heap.state c.get.follows.lender-at-none ≡ g.H.Heap.state c.args.heap.now = search rules in
    let value : slot_of cells c.args.cell c.slots.slot ≡ Some (val_of c.get.result.now) =
    subst (λ h. slot_of h.cells c.args.cell c.slots.slot ≡ Some (val_of c.get.result.now)) c.slots.invariant.0 c.get.ensures.value in (
      same,
      one_copied val_of (slots_at cells c.args.cell) c.slots.slots.items c.push.new.self.items c.in_ok-value.value c.slots.slot
          (slot_is cells c.args.cell c.slots.slot (val_of c.in_ok-value.value) (value ∙ ap Some (sym c.in_ok-value.ensures)))
          c.in_ok-push.ensures.items c.slots.invariant.1,
    )
