use Rattle.std.proofs.Common.{◌≡◌, ◌+◌, Some, true, false, refl, sym, ap, subst, ◌∙◌, rules}
use Rattle.verse_base.specs.declared.refusals.Kind.TheVariants as kind
use Rattle.verse_value.specs.View.{val_of, vals_of}
use Rattle.verse_value.specs.Store.{with_cell}
use Rattle.tx_heap.specs.State.{new_cell, IsLight}
use Rattle.vm_running.specs.Doings.{place_in}
use Rattle.vm_running.proofs.Steps.{ok_by}
use Rattle.vm_exec_memory.specs.Effects.{name_of, cell_made}
use Rattle.vm_exec_memory.proofs.Handed.{clash}
use Rattle.vm_exec_memory.proofs.Effects.{effect_barred, effect_gives, effect_raises}
use Rattle.vm_exec_memory.proofs.Stores.{few_cells, makes_named, too_heavy, made_not_fails}
use Rattle.vm_exec_memory.proofs.cells.add_cell.Goals as goal

pub returns-then-not-permits : goal.returns-then-not-permits
returns-then-not-permits g c =
    let not_so : c.permits.result ≡ false = search rules in
    effect_barred (place_in c.args.code.now (Some c.args.place)) (cell_made c.args.kind (vals_of c.args.slots.items)) _ _ _
    (ap (λ k. k + 1) c.place-next.ensures) (sym c.permits.ensures ∙ not_so)
    (λ a past. made_not_fails c.args.kind (vals_of c.args.slots.items) _)

pub returns-then-not-has_room : goal.returns-then-not-has_room
returns-then-not-has_room g c =
    let not_so : c.has_room.result ≡ false = search rules in
    effect_raises (place_in c.args.code.now (Some c.args.place)) (cell_made c.args.kind (vals_of c.args.slots.items)) kind.Store _ _ _
    c.requires.ready (λ a past. too_heavy c.args.kind (vals_of c.args.slots.items) _
    (λ light. clash c.has_room.result not_so
    ((c.has_room.ensures c.args.kind).1 (subst
    (λ xs. IsLight (with_cell (g.H.Heap.state c.args.run.now.heap).cells (new_cell c.args.kind (vals_of xs))))
    (sym c.as_slice.ensures.value) light)))) c.raise.ensures

pub alloc_cell-requires-clause-fewer : goal.alloc_cell-requires-clause-fewer
alloc_cell-requires-clause-fewer g c =
    let so : c.has_room.result ≡ true = search rules in
    few_cells (g.H.Heap.state c.args.run.now.heap).cells (new_cell c.args.kind (vals_of c.as_slice.result.now))
    ((c.has_room.ensures c.args.kind).0 so)

pub returns : goal.returns
returns g c =
    let sure : c.permits.result ≡ true = search rules in
    let so : c.has_room.result ≡ true = search rules in
    let light = subst (λ xs. IsLight (with_cell (g.H.Heap.state c.args.run.now.heap).cells (new_cell c.args.kind (vals_of xs))))
    c.as_slice.ensures.value ((c.has_room.ensures c.args.kind).0 so) in
    ok_by _ _ (effect_gives (place_in c.args.code.now (Some c.args.place)) (cell_made c.args.kind (vals_of c.args.slots.items))
    (val_of c.named.result) _ _ (with_cell (g.H.Heap.state c.args.run.now.heap).cells
    (new_cell c.args.kind (vals_of c.args.slots.items))) c.args.run.now.trace.kept c.requires.ready
    (ap (λ k. k + 1) c.place-next.ensures) (sym c.permits.ensures ∙ sure) c.in_ok-address.ensures.ok refl
    (λ a past. makes_named c.args.kind (vals_of c.args.slots.items) _ (val_of c.named.result) light
    (c.named.ensures ∙ ap (name_of c.args.kind) c.in_ok-address.ensures.address))) c.push_on.ensures
