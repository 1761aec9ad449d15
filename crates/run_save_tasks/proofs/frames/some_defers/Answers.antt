use Rattle.std.proofs.lemmas.Result.{err_from_is_err_and}
use Rattle.run_save_format.specs.Values.{small_where}
use Rattle.run_save_format.specs.Reading.{many_at, is_block}
use Rattle.run_save_tasks.proofs.ManySteps.{many_begin, many_add, many_end, many_are_done}
use Rattle.run_save_tasks.proofs.frames.some_defers.Goals as goal

pub defers-init : goal.defers-init
defers-init c = rw c.new-defers.ensures.items (many_begin (small_where (is_block c.args.code.now)) c.args.count c.args.bytes.now)

pub returns-in_err-at : goal.returns-in_err-at
returns-in_err-at c =
    let p = err_from_is_err_and c.from_residual.result c.from_residual.ensures.1 in
    rw (p.1, p.2) (many_end (small_where (is_block c.args.code.now)) c.in_err-at.field-0.0 c.defers.defers.items c.args.count c.defers._i
    c.defers.rest.now (many_at (small_where (is_block c.args.code.now)) c.args.count c.args.bytes.now) c.defers-test.true
    c.in_err-at.ensures c.defers.invariant)

pub defers-preserved : goal.defers-preserved
defers-preserved c =
    rw c.in_ok-push.ensures.items (many_add (small_where (is_block c.args.code.now)) c.defers.defers.items c.args.count c.defers._i
    c.defers.rest.now c.in_ok-at.at c.in_ok-at.after.now
    (many_at (small_where (is_block c.args.code.now)) c.args.count c.args.bytes.now) c.defers-test.true c.in_ok-at.ensures
    c.defers.invariant)

pub returns : goal.returns
returns c = many_are_done (small_where (is_block c.args.code.now)) c.defers.defers.items c.args.count c.defers._i c.defers.rest.now
    (many_at (small_where (is_block c.args.code.now)) c.args.count c.args.bytes.now) c.defers-test.false c.defers.invariant
