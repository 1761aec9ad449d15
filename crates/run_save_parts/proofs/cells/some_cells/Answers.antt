use Rattle.std.proofs.Common.{◌∷◌, [], ◌++◌, length, map}
use Rattle.std.proofs.lemmas.Result.{err_from_is_err_and}
use Rattle.run_save_shots.specs.View.{cell_of}
use Rattle.run_save_format.specs.Values.{each_at}
use Rattle.run_save_format.specs.Reading.{noted_at, cell_at}
use Rattle.run_save_values.proofs.ListSteps.{each_begins, each_goes_on, each_ends, each_is_done}
use Rattle.run_save_parts.proofs.Noted.{noted, noted_fails}
use Rattle.run_save_parts.proofs.cells.some_cells.Goals as goal

pub cells-init : goal.cells-init
cells-init c = rw (c.new-cells.ensures.items, c.new-lefts.ensures.items)
    (each_begins (noted_at (cell_at c.args.classes.now)) c.args.count (0, []) c.args.bytes.now)

pub returns-in_err-cell : goal.returns-in_err-cell
returns-in_err-cell c =
    let p = err_from_is_err_and c.from_residual.result c.from_residual.ensures.1 in
    rw (p.1, p.2) (each_ends (noted_at (cell_at c.args.classes.now)) c.in_err-cell.field-0.0 (map cell_of c.cells.cells.items) c.args.count
    c.cells._i (c.cells.weight, c.cells.lefts.items) c.cells.rest.now
    (each_at (noted_at (cell_at c.args.classes.now)) c.args.count (0, []) c.args.bytes.now) c.cells-test.true
    (noted_fails (cell_at c.args.classes.now) c.in_err-cell.field-0.0 c.cells.weight c.cells.lefts.items c.cells.rest.now
    c.in_err-cell.ensures) c.cells.invariant)

pub cells-preserved : goal.cells-preserved
cells-preserved c =
    rw (c.in_ok-push-2.ensures.items, c.in_ok-push.ensures.items)
    (each_goes_on cell_of (noted_at (cell_at c.args.classes.now)) c.cells.cells.items c.args.count c.cells._i
    (c.cells.weight, c.cells.lefts.items) c.cells.rest.now c.in_ok-cell.cell
    (c.in_ok-cell.more, c.cells.lefts.items ++ length c.cells.rest.now ∷ []) c.in_ok-cell.after.now
    (each_at (noted_at (cell_at c.args.classes.now)) c.args.count (0, []) c.args.bytes.now) c.cells-test.true
    (noted (cell_at c.args.classes.now) c.cells.weight c.in_ok-cell.more c.cells.lefts.items c.cells.rest.now (cell_of c.in_ok-cell.cell)
    c.in_ok-cell.after.now c.in_ok-cell.ensures) c.cells.invariant)

pub returns : goal.returns
returns c = each_is_done (noted_at (cell_at c.args.classes.now)) (map cell_of c.cells.cells.items) c.args.count c.cells._i
    (c.cells.weight, c.cells.lefts.items) c.cells.rest.now
    (each_at (noted_at (cell_at c.args.classes.now)) c.args.count (0, []) c.args.bytes.now) c.cells-test.false c.cells.invariant
