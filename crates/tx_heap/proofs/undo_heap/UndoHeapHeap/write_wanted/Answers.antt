use Rattle.std.proofs.Common.{◌≡◌, ◌<◌, ◌++◌, [], ◌∷◌, length, reverse, ap, arith, rules, ◌∙◌}
use Rattle.verse_cells.specs.Held.{store_of}
use Rattle.tx_heap.specs.Logged.{Logged, state_of, dues_of}
use Rattle.tx_heap.specs.declared.entries.Entry.TheVariants as entry
use Rattle.tx_heap.proofs.Undoing.{whole_noted, copies_noted, raised_noted, reverse_some}
use Rattle.tx_heap.proofs.Changing.{write_goes, write_can}
use Rattle.tx_heap.proofs.undo_heap.UndoHeapHeap.write_wanted.Goals as goal

pub invariant_of-self-2 : goal.invariant_of-self-2
invariant_of-self-2 c =
    let kept = c.in_ok-kept.kept in
    let undo = c.in_ok-value.field-0.undo in
    let before = store_of c.self.inside.cells in
    let after = store_of c.write-2.new.self in
    let log : c.note.new.log.items ≡ c.self.inside.log.items ++ entry.Part c.args.at kept undo ∷ [] = cc in
    let some : 0 < length c.self.inside.marks.items = search rules in
    whole_noted c.self.inside.log.items c.note.new.log.items (entry.Part c.args.at kept undo) before after
    (reverse c.self.inside.marks.items) log (reverse_some c.self.inside.marks.items some)
    (write_goes c.args.at c.args.path.now kept undo before after c.in_ok-kept.ensures c.in_ok-value.ensures.undo)
    (write_can c.args.at c.args.path.now kept undo before after c.in_ok-kept.ensures c.in_ok-value.ensures.undo) c.self.invariant

pub returns-clause-copies : goal.returns-clause-copies
returns-clause-copies c =
    let kept = c.in_ok-kept.kept in
    let undo = c.in_ok-value.field-0.undo in
    let before = store_of c.self.inside.cells in
    let after = store_of c.write-2.new.self in
    let log : c.note.new.log.items ≡ c.self.inside.log.items ++ entry.Part c.args.at kept undo ∷ [] = cc in
    copies_noted c.self.inside.log.items c.note.new.log.items (entry.Part c.args.at kept undo) before after
    (reverse c.self.inside.marks.items) log
    (write_goes c.args.at c.args.path.now kept undo before after c.in_ok-kept.ensures c.in_ok-value.ensures.undo) c.self.invariant ∙
    ap (λ (h : Logged). (state_of h).copies) c.self.view_is

pub returns-clause-due : goal.returns-clause-due
returns-clause-due c =
    let kept = c.in_ok-kept.kept in
    let undo = c.in_ok-value.field-0.undo in
    let log : c.note.new.log.items ≡ c.self.inside.log.items ++ entry.Part c.args.at kept undo ∷ [] = cc in
    raised_noted 2 c.self.inside.log.items c.note.new.log.items (entry.Part c.args.at kept undo) (reverse c.self.inside.marks.items) _
    (ap dues_of c.self.view_is) log (omega arith)
