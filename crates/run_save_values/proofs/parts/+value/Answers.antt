use Rattle.std.proofs.Common.{arith}
use Rattle.std.proofs.lemmas.Result.{err_from_is_err_and}
use Rattle.verse_value.specs.View.{val_of, vals_of}
use Rattle.run_save_format.specs.Values.{part_value_at, parts_at, pairs_at}
use Rattle.run_save_values.proofs.ListSteps.{each_goes_on, each_ends, each_is_done}
use Rattle.run_save_values.proofs.Steps.{no_level, a_level, no_form, parts_begin, parts_fail}
use Rattle.run_save_values.proofs.Steps.{pairs_begin, pairs_fail, pairs_go_on, pairs_end, pairs_are_done}
use Rattle.run_save_values.proofs.parts.+value.Goals as goal

-- ---- a value

pub value_part-returns-in_err-form : goal.value_part-returns-in_err-form
value_part-returns-in_err-form t c =
    let p = err_from_is_err_and c.from_residual.result c.from_residual.ensures.1 in
    rw (p.1, p.2) (no_form c.args.place c.args.levels c.args.load c.args.bytes.now c.in_err-form.field-0.0 c.in_err-form.ensures)

pub value_part-returns-then-levels-eq0 : goal.value_part-returns-then-levels-eq0
value_part-returns-then-levels-eq0 t c =
    rw c.bad.ensures (no_level c.args.place c.args.levels c.args.load c.args.bytes.now _ c.in_ok-form.form c.in_ok-form.load
    c.in_ok-form.rest.now (omega arith) (omega arith) c.in_ok-form.ensures)

pub value_part-returns : goal.value_part-returns
value_part-returns t c =
    rw (a_level c.args.place c.args.levels c.args.load c.args.bytes.now c.in_ok-form.form c.in_ok-form.load c.in_ok-form.rest.now
    (omega arith) c.in_ok-form.ensures) c.value_of_form.ensures

-- ---- parts

pub all_parts-returns-in_err-count : goal.all_parts-returns-in_err-count
all_parts-returns-in_err-count t c =
    let p = err_from_is_err_and c.from_residual.result c.from_residual.ensures.1 in
    rw (p.1, p.2) (parts_fail (part_value_at c.args.place c.args.levels) c.args.load c.args.bytes.now c.in_err-count.field-0.0
    c.in_err-count.ensures)

pub all_parts-parts-init : goal.all_parts-parts-init
all_parts-parts-init t c = rw c.new-parts.ensures.items (parts_begin (part_value_at c.args.place c.args.levels) c.args.load
    c.args.bytes.now c.in_ok-count.count c.in_ok-count.rest.now c.in_ok-count.ensures)

pub all_parts-returns-in_err-part : goal.all_parts-returns-in_err-part
all_parts-returns-in_err-part t c =
    let p = err_from_is_err_and c.from_residual-in_err-part.result c.from_residual-in_err-part.ensures.1 in
    rw (p.1, p.2) (each_ends (part_value_at c.args.place c.args.levels) c.in_err-part.field-0.0 (vals_of c.parts.parts.items)
    c.in_ok-count.count c.parts._i c.parts.load c.parts.rest.now
    (parts_at (part_value_at c.args.place c.args.levels) c.args.load c.args.bytes.now) c.parts-test.true c.in_err-part.ensures
    c.parts.invariant)

pub all_parts-parts-preserved : goal.all_parts-parts-preserved
all_parts-parts-preserved t c =
    rw c.in_ok-push.ensures.items (each_goes_on val_of (part_value_at c.args.place c.args.levels) c.parts.parts.items c.in_ok-count.count
    c.parts._i c.parts.load c.parts.rest.now c.in_ok-part.part c.in_ok-part.more c.in_ok-part.after.now
    (parts_at (part_value_at c.args.place c.args.levels) c.args.load c.args.bytes.now) c.parts-test.true c.in_ok-part.ensures
    c.parts.invariant)

pub all_parts-returns : goal.all_parts-returns
all_parts-returns t c =
    each_is_done (part_value_at c.args.place c.args.levels) (vals_of c.parts.parts.items) c.in_ok-count.count c.parts._i c.parts.load
    c.parts.rest.now (parts_at (part_value_at c.args.place c.args.levels) c.args.load c.args.bytes.now) c.parts-test.false
    c.parts.invariant

-- ---- pairs

pub all_pairs-returns-in_err-count : goal.all_pairs-returns-in_err-count
all_pairs-returns-in_err-count t c =
    let p = err_from_is_err_and c.from_residual.result c.from_residual.ensures.1 in
    rw (p.1, p.2) (pairs_fail c.args.place c.args.levels (part_value_at c.args.place c.args.levels) c.args.load c.args.bytes.now
    c.in_err-count.field-0.0 c.in_err-count.ensures)

pub all_pairs-pairs-init : goal.all_pairs-pairs-init
all_pairs-pairs-init t c = rw c.new-entries.ensures (pairs_begin c.args.place c.args.levels (part_value_at c.args.place c.args.levels)
    c.args.load c.args.bytes.now c.in_ok-count.count c.in_ok-count.rest.now c.in_ok-count.ensures)

pub all_pairs-returns-in_err-more : goal.all_pairs-returns-in_err-more
all_pairs-returns-in_err-more t c =
    let p = err_from_is_err_and c.from_residual-in_err-more.result c.from_residual-in_err-more.ensures.1 in
    rw (p.1, p.2) (pairs_end c.args.place c.args.levels (part_value_at c.args.place c.args.levels) c.in_err-more.field-0.0
    c.in_ok-count.count c.pairs._i c.pairs.entries c.pairs.load c.pairs.rest.now
    (pairs_at c.args.place c.args.levels (part_value_at c.args.place c.args.levels) c.args.load c.args.bytes.now) c.pairs-test.true
    c.in_err-more.ensures c.pairs.invariant)

pub all_pairs-pairs-preserved : goal.all_pairs-pairs-preserved
all_pairs-pairs-preserved t c =
    pairs_go_on c.args.place c.args.levels (part_value_at c.args.place c.args.levels) c.in_ok-count.count c.pairs._i c.pairs.entries
    c.pairs.load c.pairs.rest.now _ c.in_ok-more.more c.in_ok-more.after.now
    (pairs_at c.args.place c.args.levels (part_value_at c.args.place c.args.levels) c.args.load c.args.bytes.now) c.pairs-test.true
    c.in_ok-more.ensures c.pairs.invariant

pub all_pairs-returns : goal.all_pairs-returns
all_pairs-returns t c =
    pairs_are_done c.args.place c.args.levels (part_value_at c.args.place c.args.levels) c.in_ok-count.count c.pairs._i c.pairs.entries
    c.pairs.load c.pairs.rest.now
    (pairs_at c.args.place c.args.levels (part_value_at c.args.place c.args.levels) c.args.load c.args.bytes.now) c.pairs-test.false
    c.pairs.invariant
