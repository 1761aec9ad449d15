use Rattle.std.proofs.Common.{◌≡◌, ◌-◌, [], map}
use Rattle.run_save_shots.specs.View.{cell_of}
use Rattle.run_save_format.specs.Values.{each_at}
use Rattle.run_save_format.specs.Reading.{noted_at, cell_at}
use Rattle.run_save_values.proofs.ListSteps.{after_front}
use Rattle.run_save_parts.proofs.cells.some_cells.Given as goal

abbrev pub invariant-cells : goal.invariant-cells
invariant-cells l =
    after_front (map cell_of l.cells.items) (each_at (noted_at (cell_at l.classes)) (l.count - l._i) (l.weight, l.lefts.items) l.rest) ≡
    each_at (noted_at (cell_at l.classes)) l.count (0, []) l.bytes
