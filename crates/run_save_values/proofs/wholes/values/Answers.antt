use Rattle.std.proofs.lemmas.Result.{err_from_is_err_and}
use Rattle.verse_value.specs.View.{val_of, vals_of}
use Rattle.run_save_format.specs.Values.{each_at, value_at}
use Rattle.run_save_values.proofs.ListSteps.{each_begins, each_goes_on, each_ends, each_is_done}
use Rattle.run_save_values.proofs.wholes.values.Goals as goal

pub values-init : goal.values-init
values-init c = rw c.new-values.ensures.items (each_begins (value_at c.args.place) c.args.count c.args.cells c.args.bytes.now)

pub returns-in_err-value : goal.returns-in_err-value
returns-in_err-value c =
    let p = err_from_is_err_and c.from_residual.result c.from_residual.ensures.1 in
    rw (p.1, p.2) (each_ends (value_at c.args.place) c.in_err-value.field-0.0 (vals_of c.values.values.items) c.args.count c.values._i
    c.values.cells c.values.rest.now (each_at (value_at c.args.place) c.args.count c.args.cells c.args.bytes.now) c.values-test.true
    c.in_err-value.ensures c.values.invariant)

pub values-preserved : goal.values-preserved
values-preserved c =
    rw c.in_ok-push.ensures.items (each_goes_on val_of (value_at c.args.place) c.values.values.items c.args.count c.values._i c.values.cells
    c.values.rest.now c.in_ok-value.value c.in_ok-value.more c.in_ok-value.after.now
    (each_at (value_at c.args.place) c.args.count c.args.cells c.args.bytes.now) c.values-test.true c.in_ok-value.ensures
    c.values.invariant)

pub returns : goal.returns
returns c = each_is_done (value_at c.args.place) (vals_of c.values.values.items) c.args.count c.values._i c.values.cells c.values.rest.now
    (each_at (value_at c.args.place) c.args.count c.args.cells c.args.bytes.now) c.values-test.false c.values.invariant
