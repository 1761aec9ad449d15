use Rattle.std.proofs.Common.{map, arith}
use Rattle.std.proofs.lemmas.Result.{err_from_is_err_and}
use Rattle.verse_verify_faults.specs.Reading.{class_at, each_at}
use Rattle.verse_verify_notes.specs.View.{class_of}
use Rattle.verse_verify_reader.proofs.ListSteps.{each_begins, each_goes_on, each_ends, each_is_done}
use Rattle.verse_verify_reader.proofs.tables.class_notes.Goals as goal

pub classes-init : goal.classes-init
classes-init c =
    rw c.new-notes.ensures.items (each_begins c.args.code.now (class_at c.args.code.now) c.args.all.now c.args.bytes.now)

pub returns-in_err-note : goal.returns-in_err-note
returns-in_err-note c =
    let p = err_from_is_err_and c.from_residual.result c.from_residual.ensures.1 in
    rw (p.1, p.2) (each_ends c.args.code.now (class_at c.args.code.now) c.in_err-note.field-0.0 (map class_of c.classes.notes.items)
    c.args.all.now c.classes.known-index c.known-item.result _ c.classes.rest.now
    (each_at c.args.code.now (class_at c.args.code.now) c.args.all.now c.args.bytes.now) (omega arith) c.known-item.is c.in_err-note.ensures
    c.classes.invariant)

pub classes-preserved : goal.classes-preserved
classes-preserved c =
    rw c.in_ok-push.ensures.items (each_goes_on c.args.code.now class_of (class_at c.args.code.now) c.classes.notes.items c.args.all.now
    c.classes.known-index c.known-item.result _ c.classes.rest.now c.in_ok-note.note c.in_ok-note.after.now (each_at c.args.code.now
    (class_at c.args.code.now) c.args.all.now c.args.bytes.now) (omega arith) c.known-item.is c.in_ok-note.ensures c.classes.invariant)

pub returns : goal.returns
returns c =
    each_is_done c.args.code.now (class_at c.args.code.now) (map class_of c.classes.notes.items) c.args.all.now c.classes.known-index
    c.classes.rest.now (each_at c.args.code.now (class_at c.args.code.now) c.args.all.now c.args.bytes.now) (omega arith)
    c.classes.invariant
