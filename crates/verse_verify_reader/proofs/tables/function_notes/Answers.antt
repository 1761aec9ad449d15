use Rattle.std.proofs.Common.{map, arith, refl}
use Rattle.std.proofs.lemmas.Result.{err_from_is_err_and}
use Rattle.verse_verify_faults.specs.Reading.{func_at, each_at}
use Rattle.verse_verify_notes.specs.View.{func_of}
use Rattle.verse_verify_reader.proofs.ListSteps.{each_begins, each_goes_on, each_ends, each_is_done}
use Rattle.verse_verify_reader.proofs.tables.function_notes.Goals as goal

pub functions-init : goal.functions-init
functions-init c =
    rw c.new-notes.ensures.items (each_begins c.args.code.now (func_at c.args.code.now) c.args.all.now c.args.bytes.now)

pub returns-in_err-note : goal.returns-in_err-note
returns-in_err-note c =
    let p = err_from_is_err_and c.from_residual.result c.from_residual.ensures.1 in
    rw (p.1, p.2) (each_ends c.args.code.now (func_at c.args.code.now) c.in_err-note.field-0.0 (map func_of c.functions.notes.items)
    c.args.all.now c.functions.known-index _ _ c.functions.rest.now (each_at c.args.code.now (func_at c.args.code.now) c.args.all.now
    c.args.bytes.now) (omega arith) refl c.in_err-note.ensures c.functions.invariant)

pub functions-preserved : goal.functions-preserved
functions-preserved c =
    rw c.in_ok-push.ensures.items (each_goes_on c.args.code.now func_of (func_at c.args.code.now) c.functions.notes.items c.args.all.now
    c.functions.known-index _ _ c.functions.rest.now c.in_ok-note.note c.in_ok-note.after.now (each_at c.args.code.now
    (func_at c.args.code.now) c.args.all.now c.args.bytes.now) (omega arith) refl c.in_ok-note.ensures c.functions.invariant)

pub returns : goal.returns
returns c =
    each_is_done c.args.code.now (func_at c.args.code.now) (map func_of c.functions.notes.items) c.args.all.now c.functions.known-index
    c.functions.rest.now (each_at c.args.code.now (func_at c.args.code.now) c.args.all.now c.args.bytes.now) (omega arith)
    c.functions.invariant
