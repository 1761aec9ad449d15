use Rattle.std.proofs.Common.{◌≡◌, ◌<◌, ◌++◌, [], ◌∷◌, length, reverse, ap, arith, rules}
use Rattle.verse_value.specs.View.{vals_of}
use Rattle.verse_cells.specs.Held.{store_of}
use Rattle.tx_heap.specs.State.{new_cell}
use Rattle.tx_heap.specs.Logged.{state_of, dues_of}
use Rattle.tx_heap.specs.declared.entries.Entry.TheVariants as entry
use Rattle.tx_heap.proofs.Undoing.{whole_noted, copies_noted, raised_noted, reverse_some, state_push}
use Rattle.tx_heap.proofs.Changing.{push_goes, push_can}
use Rattle.tx_heap.proofs.undo_heap.UndoHeapHeap.alloc_cell.Goals as goal

pub invariant_of-self-2 : goal.invariant_of-self-2
invariant_of-self-2 c =
    let cell = new_cell c.args.kind (vals_of c.args.slots.items) in
    let before = store_of c.self.inside.cells in
    let after = store_of c.push-2.new.self in
    let log : c.note.new.log.items ≡ c.self.inside.log.items ++ entry.Added ∷ [] = cc in
    let some : 0 < length c.self.inside.marks.items = search rules in
    whole_noted c.self.inside.log.items c.note.new.log.items entry.Added before after (reverse c.self.inside.marks.items) log
    (reverse_some c.self.inside.marks.items some) (push_goes before after cell c.in_ok-address.ensures.ok)
    (push_can before after cell c.in_ok-address.ensures.ok) c.self.invariant

pub returns-clause-ok : goal.returns-clause-ok
returns-clause-ok c =
    let cell = new_cell c.args.kind (vals_of c.args.slots.items) in
    let before = store_of c.self.inside.cells in
    let after = store_of c.push-2.new.self in
    let log : c.note.new.log.items ≡ c.self.inside.log.items ++ entry.Added ∷ [] = cc in
    state_push _ before after _ _ cell (ap state_of c.self.view_is) c.in_ok-address.ensures.ok
    (copies_noted c.self.inside.log.items c.note.new.log.items entry.Added before after (reverse c.self.inside.marks.items) log
    (push_goes before after cell c.in_ok-address.ensures.ok) c.self.invariant)

pub returns-clause-due : goal.returns-clause-due
returns-clause-due c =
    let log : c.note.new.log.items ≡ c.self.inside.log.items ++ entry.Added ∷ [] = cc in
    raised_noted 1 c.self.inside.log.items c.note.new.log.items entry.Added (reverse c.self.inside.marks.items) _
    (ap dues_of c.self.view_is) log (omega arith)
