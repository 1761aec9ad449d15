use Rattle.std.proofs.Common.{map}
use Rattle.std.proofs.lemmas.Result.{err_from_is_err_and}
use Rattle.verse_image.proofs.ReadingSteps.{ends, is_done}
use Rattle.verse_verify_faults.specs.Reading.{mark_at, list_at}
use Rattle.verse_verify_notes.specs.View.{mark_of}
use Rattle.verse_verify_reader.proofs.ListSteps.{list_begins, list_fails, many_goes_on}
use Rattle.verse_verify_reader.proofs.lists.marks.Goals as goal

pub returns-in_err-count : goal.returns-in_err-count
returns-in_err-count c =
    let p = err_from_is_err_and c.from_residual.result c.from_residual.ensures.1 in
    rw (p.1, p.2) (list_fails (mark_at c.args.code.now) c.in_err-count.field-0.0 c.args.bytes.now c.in_err-count.ensures)

pub marks-init : goal.marks-init
marks-init c = rw c.new-marks.ensures.items (list_begins (mark_at c.args.code.now) c.args.bytes.now c.in_ok-count.count
    c.in_ok-count.rest.now c.in_ok-count.ensures)

pub returns-in_err-mark : goal.returns-in_err-mark
returns-in_err-mark c =
    let p = err_from_is_err_and c.from_residual-in_err-mark.result c.from_residual-in_err-mark.ensures.1 in
    rw (p.1, p.2) (ends (mark_at c.args.code.now) c.in_err-mark.field-0.0 (map mark_of c.marks.marks.items) c.in_ok-count.count
    c.marks._i c.marks.rest.now (list_at (mark_at c.args.code.now) c.args.bytes.now) c.marks-test.true c.in_err-mark.ensures
    c.marks.invariant)

pub marks-preserved : goal.marks-preserved
marks-preserved c =
    rw c.in_ok-push.ensures.items (many_goes_on mark_of (mark_at c.args.code.now) c.marks.marks.items c.in_ok-count.count c.marks._i
    c.marks.rest.now c.in_ok-mark.mark c.in_ok-mark.after.now (list_at (mark_at c.args.code.now) c.args.bytes.now)
    c.marks-test.true c.in_ok-mark.ensures c.marks.invariant)

pub returns : goal.returns
returns c = is_done (mark_at c.args.code.now) (map mark_of c.marks.marks.items) c.in_ok-count.count c.marks._i c.marks.rest.now
    (list_at (mark_at c.args.code.now) c.args.bytes.now) c.marks-test.false c.marks.invariant
