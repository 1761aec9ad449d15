-- The fields by now, and those of the numbers that are left.
use Rattle.std.proofs.Common.{arith, rules}
use Rattle.std.proofs.lemmas.Result.{err_from_is_err_and}
use Rattle.verse_listing_lines.proofs.NumberSteps.{fields_on, fields_stop, fields_end}
use Rattle.verse_listing_lines.proofs.fields.fields.Goals as goal

pub returns-in_err-field : goal.returns-in_err-field
returns-in_err-field c =
    let p = err_from_is_err_and c.from_residual.result c.from_residual.ensures.1 in
    rw (p.1, p.2) (fields_stop c.in_err-field.field-0.0 c.args.end c.numbers.number-index c.numbers.all c.args.numbers.now _ (omega arith)
    c.in_err-field.ensures c.numbers.invariant)

pub numbers-preserved : goal.numbers-preserved
numbers-preserved c =
    fields_on c.args.end c.numbers.number-index c.numbers.all c.push.new.self c.in_ok-field.field-0 c.args.numbers.now _ (omega arith)
    c.in_ok-field.ensures (search rules) c.numbers.invariant

pub returns : goal.returns
returns c = fields_end c.args.end c.numbers.number-index c.numbers.all c.args.numbers.now _ (omega arith) c.numbers.invariant
