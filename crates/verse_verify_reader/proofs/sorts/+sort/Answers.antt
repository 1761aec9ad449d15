use Rattle.std.proofs.Common.{arith}
use Rattle.std.proofs.lemmas.Result.{err_from_is_err_and}
use Rattle.verse_image.specs.Reading.{many_at}
use Rattle.verse_image.proofs.ReadingSteps.{ends, is_done}
use Rattle.verse_verify_faults.specs.Reading.{sort_in}
use Rattle.verse_verify_notes.specs.View.{sort_of, sorts_of}
use Rattle.verse_verify_reader.proofs.Steps.{no_level, a_level, no_tag, of_tuple}
use Rattle.verse_verify_reader.proofs.ListSteps.{many_begins, many_goes_on}
use Rattle.verse_verify_reader.proofs.sorts.+sort.Goals as goal

-- ---- a sort

pub sort_part-returns-in_err-tag : goal.sort_part-returns-in_err-tag
sort_part-returns-in_err-tag t c =
    let p = err_from_is_err_and c.from_residual.result c.from_residual.ensures.1 in
    rw (p.1, p.2) (no_tag c.args.code.now c.args.levels c.args.bytes.now c.in_err-tag.field-0.0 c.in_err-tag.ensures)

pub sort_part-returns-then-levels-eq0 : goal.sort_part-returns-then-levels-eq0
sort_part-returns-then-levels-eq0 t c =
    rw c.bad.ensures (no_level c.args.code.now c.args.levels c.args.bytes.now _ c.in_ok-tag.tag c.in_ok-tag.rest.now
    (omega arith) (omega arith) c.in_ok-tag.ensures)

pub sort_part-returns : goal.sort_part-returns
sort_part-returns t c =
    rw (a_level c.args.code.now c.args.levels c.args.bytes.now c.in_ok-tag.tag c.in_ok-tag.rest.now (omega arith) c.in_ok-tag.ensures)
    c.sort_of_tag.ensures

pub sort_of_tag-returns-in_default : goal.sort_of_tag-returns-in_default
sort_of_tag-returns-in_default t c =
    rw (of_tuple c.args.code.now c.args.tag (sort_in c.args.code.now c.args.levels) c.args.bytes.now (omega arith)) c.tuple_sort.ensures

-- ---- parts

pub parts-parts-init : goal.parts-parts-init
parts-parts-init t c =
    rw c.new-parts.ensures.items (many_begins (sort_in c.args.code.now c.args.levels) c.args.count c.args.bytes.now)

pub parts-returns-in_err-part : goal.parts-returns-in_err-part
parts-returns-in_err-part t c =
    let p = err_from_is_err_and c.from_residual.result c.from_residual.ensures.1 in
    rw (p.1, p.2) (ends (sort_in c.args.code.now c.args.levels) c.in_err-part.field-0.0 (sorts_of c.parts.parts.items) c.args.count
    c.parts._i c.parts.rest.now (many_at (sort_in c.args.code.now c.args.levels) c.args.count c.args.bytes.now) c.parts-test.true
    c.in_err-part.ensures c.parts.invariant)

pub parts-parts-preserved : goal.parts-parts-preserved
parts-parts-preserved t c =
    rw c.in_ok-push.ensures.items (many_goes_on sort_of (sort_in c.args.code.now c.args.levels) c.parts.parts.items c.args.count
    c.parts._i c.parts.rest.now c.in_ok-part.part c.in_ok-part.after.now
    (many_at (sort_in c.args.code.now c.args.levels) c.args.count c.args.bytes.now) c.parts-test.true c.in_ok-part.ensures
    c.parts.invariant)

pub parts-returns : goal.parts-returns
parts-returns t c =
    is_done (sort_in c.args.code.now c.args.levels) (sorts_of c.parts.parts.items) c.args.count c.parts._i c.parts.rest.now
    (many_at (sort_in c.args.code.now c.args.levels) c.args.count c.args.bytes.now) c.parts-test.false c.parts.invariant
