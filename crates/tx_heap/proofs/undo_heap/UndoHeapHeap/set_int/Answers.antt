use Rattle.std.proofs.Common.{◌≡◌, ◌<◌, ◌++◌, [], ◌∷◌, length, reverse, sym, ap, subst, ◌∙◌, arith, rules, w64, FitsSigned, to_z-of_z}
use Rattle.verse_value.specs.Val.{int}
use Rattle.verse_value.specs.Store.{slot_of, stored}
use Rattle.verse_value.specs.declared.values.Value.TheVariants as value
use Rattle.verse_cells.specs.Changes.{HoldsInt}
use Rattle.verse_cells.specs.Held.{store_of}
use Rattle.verse_cells.specs.declared.slots.Address.{Address}
use Rattle.tx_heap.specs.Logged.{Logged, state_of, dues_of}
use Rattle.tx_heap.specs.declared.entries.Entry.TheVariants as entry
use Rattle.tx_heap.proofs.Undoing.{whole_noted, copies_noted, raised_noted, reverse_some, state_set}
use Rattle.tx_heap.proofs.Changing.{set_goes, set_can, held_some, some_of}
use Rattle.tx_heap.proofs.undo_heap.UndoHeapHeap.set_int.Goals as goal

pub returns-then-is_empty-clause-held : goal.returns-then-is_empty-clause-held
returns-then-is_empty-clause-held c so =
    let P : Logged → Type 0 = λ h. HoldsInt (slot_of (store_of h.held) c.args.cell c.args.slot) in
    subst P c.self.view_is (held_some c.put_int.result _ c.put_int.ensures.old (sym c.is_some.ensures ∙ so))

pub invariant_of-self-2 : goal.invariant_of-self-2
invariant_of-self-2 c =
    let at : Address = record { cell = c.args.cell; slot = c.args.slot } in
    let old = value.Int c.in-Some.old in
    let before = store_of c.self.inside.cells in
    let after = store_of c.put_int-2.new.self in
    let fits : FitsSigned w64 c.in-Some.old = search rules in
    let log : c.note.new.log.items ≡ c.self.inside.log.items ++ entry.Slot at old ∷ [] =
    c.note.ensures ∙ (ap (λ n. c.make_room.new.log.items ++ entry.Slot at (value.Int n) ∷ []) (to_z-of_z fits) ∙
    ap (λ es. es ++ entry.Slot at old ∷ []) c.make_room.ensures.items) in
    let new : after ≡ stored before c.args.cell c.args.slot (int c.args.n) =
    some_of c.put_int-2.result _ c.in-Some.is c.put_int-2.ensures.new ∙
    ap (λ n. stored before c.args.cell c.args.slot (int n)) (to_z-of_z c.ranges.n) in
    let some : 0 < length c.self.inside.marks.items = search rules in
    whole_noted c.self.inside.log.items c.note.new.log.items (entry.Slot at old) before after (reverse c.self.inside.marks.items) log
    (reverse_some c.self.inside.marks.items some) (set_goes before after at old (int c.args.n) new c.in-Some.ensures.old)
    (set_can before after at old (int c.args.n) new c.in-Some.ensures.old) c.self.invariant

pub returns-clause-yes : goal.returns-clause-yes
returns-clause-yes c so =
    let at : Address = record { cell = c.args.cell; slot = c.args.slot } in
    let old = value.Int c.in-Some.old in
    let before = store_of c.self.inside.cells in
    let after = store_of c.put_int-2.new.self in
    let fits : FitsSigned w64 c.in-Some.old = search rules in
    let log : c.note.new.log.items ≡ c.self.inside.log.items ++ entry.Slot at old ∷ [] =
    c.note.ensures ∙ (ap (λ n. c.make_room.new.log.items ++ entry.Slot at (value.Int n) ∷ []) (to_z-of_z fits) ∙
    ap (λ es. es ++ entry.Slot at old ∷ []) c.make_room.ensures.items) in
    let new : after ≡ stored before c.args.cell c.args.slot (int c.args.n) =
    some_of c.put_int-2.result _ c.in-Some.is c.put_int-2.ensures.new ∙
    ap (λ n. stored before c.args.cell c.args.slot (int n)) (to_z-of_z c.ranges.n) in
    state_set _ before after _ _ c.args.cell c.args.slot (int c.args.n) (ap state_of c.self.view_is) new
    (copies_noted c.self.inside.log.items c.note.new.log.items (entry.Slot at old) before after (reverse c.self.inside.marks.items) log
    (set_goes before after at old (int c.args.n) new c.in-Some.ensures.old) c.self.invariant)

pub returns-clause-due : goal.returns-clause-due
returns-clause-due c so =
    let at : Address = record { cell = c.args.cell; slot = c.args.slot } in
    let old = value.Int c.in-Some.old in
    let fits : FitsSigned w64 c.in-Some.old = search rules in
    let log : c.note.new.log.items ≡ c.self.inside.log.items ++ entry.Slot at old ∷ [] =
    c.note.ensures ∙ (ap (λ n. c.make_room.new.log.items ++ entry.Slot at (value.Int n) ∷ []) (to_z-of_z fits) ∙
    ap (λ es. es ++ entry.Slot at old ∷ []) c.make_room.ensures.items) in
    raised_noted 2 c.self.inside.log.items c.note.new.log.items (entry.Slot at old) (reverse c.self.inside.marks.items) _
    (ap dues_of c.self.view_is) log (omega arith)
