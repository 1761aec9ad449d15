use Rattle.std.proofs.lemmas.Result.{err_from_is_err_and}
use Rattle.verse_image.proofs.ReadingSteps.{goes_on, ends, is_done}
use Rattle.verse_verify_faults.specs.Reading.{op_index, list_at}
use Rattle.verse_verify_reader.proofs.ListSteps.{list_begins, list_fails}
use Rattle.verse_verify_reader.proofs.lists.indices.Goals as goal

pub returns-in_err-count : goal.returns-in_err-count
returns-in_err-count c =
    let p = err_from_is_err_and c.from_residual.result c.from_residual.ensures.1 in
    rw (p.1, p.2) (list_fails (op_index c.args.code.now) c.in_err-count.field-0.0 c.args.bytes.now c.in_err-count.ensures)

pub indices-init : goal.indices-init
indices-init c = rw c.new-indices.ensures.items (list_begins (op_index c.args.code.now) c.args.bytes.now c.in_ok-count.count
    c.in_ok-count.rest.now c.in_ok-count.ensures)

pub returns-in_err-index : goal.returns-in_err-index
returns-in_err-index c =
    let p = err_from_is_err_and c.from_residual-in_err-index.result c.from_residual-in_err-index.ensures.1 in
    rw (p.1, p.2) (ends (op_index c.args.code.now) c.in_err-index.field-0.0 c.indices.indices.items c.in_ok-count.count c.indices._i
    c.indices.rest.now (list_at (op_index c.args.code.now) c.args.bytes.now) c.indices-test.true c.in_err-index.ensures
    c.indices.invariant)

pub indices-preserved : goal.indices-preserved
indices-preserved c =
    rw c.in_ok-push.ensures.items (goes_on (op_index c.args.code.now) c.indices.indices.items c.in_ok-count.count c.indices._i
    c.indices.rest.now c.in_ok-index.index c.in_ok-index.after.now (list_at (op_index c.args.code.now) c.args.bytes.now)
    c.indices-test.true c.in_ok-index.ensures c.indices.invariant)

pub returns : goal.returns
returns c = is_done (op_index c.args.code.now) c.indices.indices.items c.in_ok-count.count c.indices._i c.indices.rest.now
    (list_at (op_index c.args.code.now) c.args.bytes.now) c.indices-test.false c.indices.invariant
