use Rattle.std.proofs.Common.{map}
use Rattle.run_save_shots.specs.View.{cell_of}
use Rattle.run_save_machine.proofs.Lightness.{light_next}
use Rattle.run_save_machine.proofs.cells.fill.Goals as goal

pub add-requires : goal.add-requires
add-requires g c =
    light_next c.all.cells.items _ (c.in-Some.kind, c.in-Some.slots) (g.H.Heap.state c.all.heap).cells (map cell_of c.args.cells.items)
    c.in-Some.ensures.items c.all.invariant.so_far c.requires.light
