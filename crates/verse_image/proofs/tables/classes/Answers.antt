use Rattle.std.proofs.lemmas.Result.{err_from_is_err_and}
use Rattle.verse_image.specs.Reading.{class_at, table_at}
use Rattle.verse_image.proofs.ReadingSteps.{table_begins, table_fails, goes_on, ends, is_done}
use Rattle.verse_image.proofs.tables.classes.Goals as goal

pub returns-in_err-count : goal.returns-in_err-count
returns-in_err-count c =
    let p = err_from_is_err_and c.from_residual.result c.from_residual.ensures.1 in
    rw (p.1, p.2) (table_fails (class_at c.args.functions) c.in_err-count.field-0.0 c.args.bytes.now c.in_err-count.ensures)

pub entries-init : goal.entries-init
entries-init c = rw c.new-entries.ensures (table_begins (class_at c.args.functions) c.args.bytes.now c.in_ok-count.count
    c.in_ok-count.rest.now c.in_ok-count.ensures)

pub returns-in_err-entry : goal.returns-in_err-entry
returns-in_err-entry c =
    let p = err_from_is_err_and c.from_residual-in_err-entry.result c.from_residual-in_err-entry.ensures.1 in
    rw (p.1, p.2) (ends (class_at c.args.functions) c.in_err-entry.field-0.0 c.entries.entries c.in_ok-count.count c.entries._i
    c.entries.rest.now (table_at (class_at c.args.functions) c.args.bytes.now) c.entries-test.true c.in_err-entry.ensures
    c.entries.invariant)

pub entries-preserved : goal.entries-preserved
entries-preserved c =
    rw c.in_ok-push.ensures.ok (goes_on (class_at c.args.functions) c.entries.entries c.in_ok-count.count c.entries._i c.entries.rest.now
    c.in_ok-entry.entry c.in_ok-entry.after.now (table_at (class_at c.args.functions) c.args.bytes.now) c.entries-test.true
    c.in_ok-entry.ensures c.entries.invariant)

pub returns : goal.returns
returns c = is_done (class_at c.args.functions) c.entries.entries c.in_ok-count.count c.entries._i c.entries.rest.now
    (table_at (class_at c.args.functions) c.args.bytes.now) c.entries-test.false c.entries.invariant
