use Rattle.std.proofs.Common.{arith}
use Rattle.std.proofs.lemmas.Result.{err_from_is_err_and}
use Rattle.verse_image.specs.Reading.{ops_at}
use Rattle.verse_image.proofs.ReadingSteps.{ops_go_on, ops_end, ops_done}
use Rattle.verse_image.proofs.operations.operations.Goals as goal

pub returns-in_err-op : goal.returns-in_err-op
returns-in_err-op c =
    let p = err_from_is_err_and c.from_residual.result c.from_residual.ensures.1 in
    rw (p.1, p.2) (ops_end c.args.sizes.now c.args.top c.in_err-op.field-0.0 c.ops.ops c.args.count c.ops.at c.ops.rest.now
    (ops_at c.args.sizes.now c.args.top 0 c.args.count c.args.bytes.now) c.ops-test.true c.in_err-op.ensures c.ops.invariant)

pub ops-preserved : goal.ops-preserved
ops-preserved c =
    rw c.in_ok-push.ensures.ok (ops_go_on c.args.sizes.now c.args.top c.ops.ops c.args.count c.ops.at _ c.ops.rest.now c.in_ok-op.op
    c.in_ok-op.after.now (ops_at c.args.sizes.now c.args.top 0 c.args.count c.args.bytes.now)
    (omega arith) c.ops-test.true c.in_ok-op.ensures c.ops.invariant)

pub returns : goal.returns
returns c = ops_done c.args.sizes.now c.args.top c.ops.ops c.args.count c.ops.at c.ops.rest.now
    (ops_at c.args.sizes.now c.args.top 0 c.args.count c.args.bytes.now) c.ops-test.false c.ops.invariant
