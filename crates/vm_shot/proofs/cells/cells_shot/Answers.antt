-- One cell more is kept.
use Rattle.std.proofs.Common.{◌≡◌, Some, slice_get, subst, ◌∙◌}
use Rattle.run_save_shots.specs.View.{cell_of}
use Rattle.vm_shot.proofs.Copying.{one_copied}
use Rattle.vm_shot.proofs.cells.cells_shot.Goals as goal

pub cells-preserved : goal.cells-preserved
cells-preserved g c =
    let cells = (g.H.Heap.state c.args.heap.now).cells in
    let at : slice_get cells c.cells.address ≡ Some (cell_of c.in_ok-cell.cell) =
    subst (λ h. slice_get h.cells c.cells.address ≡ Some (cell_of c.in_ok-cell.cell)) c.cells.invariant.0 c.in_ok-cell.ensures.cell in (
      c.cell_shot.ensures.same ∙ c.cells.invariant.0,
      one_copied cell_of cells c.cells.cells.items c.push.new.self.items c.in_ok-cell.cell c.cells.address at c.in_ok-push.ensures.items
          c.cells.invariant.1,
    )
