use Rattle.std.proofs.Common.{◌≡◌, List, length, drop, sym, subst, rules}
use Rattle.std.proofs.lemmas.List.{take_at}
use Rattle.verse_cells.specs.View.{cells_of}
use Rattle.verse_cells.specs.declared.slots.Cell.{Cell}
use Rattle.tx_heap.specs.Weighed.{IsWeighed}
use Rattle.tx_heap.proofs.Limits.{put_weighs}
use Rattle.tx_heap.proofs.light_list.LightList.put_int.Goals as goal

pub invariant_of-self : goal.invariant_of-self
invariant_of-self c =
    let Q : List Cell → Type 0 = λ cs. IsWeighed c.self.inside.weight (cells_of cs) in
    let size : length c.put_int.new.cells ≡ c.self.inside.cells.len = search rules in
    let whole = take_at c.put_int.new.cells (drop (length c.put_int.new.cells) c.self.inside.cells.items) c.self.inside.cells.len size in
    subst Q (sym whole) (put_weighs c.self.inside.weight (cells_of c.as_mut_slice.result.now) (cells_of c.put_int.new.cells) c.args.cell
    c.args.slot _ c.put_int.result (subst Q (sym c.as_mut_slice.ensures.value) c.self.invariant) c.put_int.ensures.old
    c.put_int.ensures.new c.put_int.ensures.same)
