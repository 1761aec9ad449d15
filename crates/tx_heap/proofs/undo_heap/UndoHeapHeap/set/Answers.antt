use Rattle.std.proofs.Common.{◌≡◌, ◌<◌, ◌++◌, [], ◌∷◌, length, reverse, ap, arith, rules}
use Rattle.verse_value.specs.View.{val_of}
use Rattle.verse_cells.specs.Held.{store_of}
use Rattle.verse_cells.specs.declared.slots.Address.{Address}
use Rattle.tx_heap.specs.Logged.{state_of, dues_of}
use Rattle.tx_heap.specs.declared.entries.Entry.TheVariants as entry
use Rattle.tx_heap.proofs.Undoing.{whole_noted, copies_noted, raised_noted, reverse_some, state_set}
use Rattle.tx_heap.proofs.Changing.{set_goes, set_can}
use Rattle.tx_heap.proofs.undo_heap.UndoHeapHeap.set.Goals as goal

pub invariant_of-self-2 : goal.invariant_of-self-2
invariant_of-self-2 c =
    let at : Address = record { cell = c.args.cell; slot = c.args.slot } in
    let old = c.put-old.result in
    let before = store_of c.self.inside.cells in
    let after = store_of c.put-old.new.self in
    let log : c.note.new.log.items ≡ c.self.inside.log.items ++ entry.Slot at old ∷ [] = cc in
    let some : 0 < length c.self.inside.marks.items = search rules in
    whole_noted c.self.inside.log.items c.note.new.log.items (entry.Slot at old) before after (reverse c.self.inside.marks.items) log
    (reverse_some c.self.inside.marks.items some)
    (set_goes before after at old (val_of c.args.value) c.put-old.ensures.new c.put-old.ensures.old)
    (set_can before after at old (val_of c.args.value) c.put-old.ensures.new c.put-old.ensures.old) c.self.invariant

pub returns-clause-ok : goal.returns-clause-ok
returns-clause-ok c =
    let at : Address = record { cell = c.args.cell; slot = c.args.slot } in
    let old = c.put-old.result in
    let before = store_of c.self.inside.cells in
    let after = store_of c.put-old.new.self in
    let log : c.note.new.log.items ≡ c.self.inside.log.items ++ entry.Slot at old ∷ [] = cc in
    state_set _ before after _ _ c.args.cell c.args.slot (val_of c.args.value) (ap state_of c.self.view_is) c.put-old.ensures.new
    (copies_noted c.self.inside.log.items c.note.new.log.items (entry.Slot at old) before after (reverse c.self.inside.marks.items) log
    (set_goes before after at old (val_of c.args.value) c.put-old.ensures.new c.put-old.ensures.old) c.self.invariant)

pub returns-clause-due : goal.returns-clause-due
returns-clause-due c =
    let at : Address = record { cell = c.args.cell; slot = c.args.slot } in
    let old = c.put-old.result in
    let log : c.note.new.log.items ≡ c.self.inside.log.items ++ entry.Slot at old ∷ [] = cc in
    raised_noted 2 c.self.inside.log.items c.note.new.log.items (entry.Slot at old) (reverse c.self.inside.marks.items) _
    (ap dues_of c.self.view_is) log (omega arith)
