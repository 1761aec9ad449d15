use Rattle.std.proofs.Common.{map, option_map}
use Rattle.std.proofs.lemmas.Result.{err_from_is_err_and}
use Rattle.verse_value.specs.View.{val_of}
use Rattle.run_save_format.specs.Reading.{many_at, maybe_at, free_value_at}
use Rattle.run_save_tasks.proofs.ManySteps.{many_begin, many_go_on, many_end, many_are_done}
use Rattle.run_save_tasks.proofs.rests.arms.Goals as goal

pub arms-init : goal.arms-init
arms-init c = rw c.new-arms.ensures.items (many_begin (maybe_at (free_value_at c.args.entries)) c.args.count c.args.bytes.now)

pub returns-in_err-arm : goal.returns-in_err-arm
returns-in_err-arm c =
    let p = err_from_is_err_and c.from_residual.result c.from_residual.ensures.1 in
    rw (p.1, p.2) (many_end (maybe_at (free_value_at c.args.entries)) c.in_err-arm.field-0.0 (map (option_map val_of) c.arms.arms.items)
    c.args.count c.arms._i c.arms.rest.now (many_at (maybe_at (free_value_at c.args.entries)) c.args.count c.args.bytes.now)
    c.arms-test.true c.in_err-arm.ensures c.arms.invariant)

pub arms-preserved : goal.arms-preserved
arms-preserved c =
    rw c.in_ok-push.ensures.items (many_go_on (option_map val_of) (maybe_at (free_value_at c.args.entries)) c.arms.arms.items c.args.count
    c.arms._i c.arms.rest.now c.in_ok-arm.arm c.in_ok-arm.after.now
    (many_at (maybe_at (free_value_at c.args.entries)) c.args.count c.args.bytes.now) c.arms-test.true c.in_ok-arm.ensures
    c.arms.invariant)

pub returns : goal.returns
returns c = many_are_done (maybe_at (free_value_at c.args.entries)) (map (option_map val_of) c.arms.arms.items) c.args.count c.arms._i
    c.arms.rest.now (many_at (maybe_at (free_value_at c.args.entries)) c.args.count c.args.bytes.now) c.arms-test.false c.arms.invariant
