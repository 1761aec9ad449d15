use Rattle.std.proofs.Common.{arith, inl, inr}
use Rattle.verse_image.proofs.ReadingSteps.{digits_last, digits_whole, digits_wrong}
use Rattle.run_save_values.proofs.numbers.+digits.Goals as goal
use Rattle.run_save_values.proofs.numbers.+digits.Goals.{else-high-gt0-via-then-high-gt0+else-number-limit, else-high-gt0-via-else-high-gt0}

pub returns-then-first-lt128 : goal.returns-then-first-lt128
returns-then-first-lt128 t c =
    digits_last c.args.most 18446744073709551616 c.args.left c.args.bytes.now c.in_ok-first.first c.in_ok-first.rest.now
    (omega arith) c.in_ok-first.ensures (omega arith)

pub returns-then-number-limit : goal.returns-then-number-limit
returns-then-number-limit t c =
    digits_whole c.args.most 18446744073709551616 c.args.left c.args.bytes.now c.in_ok-first.first c.in_ok-first.rest.now c.in_ok-high.high
    c.in_ok-high.rest.now (omega arith) c.in_ok-first.ensures (omega arith) c.in_ok-high.ensures (omega arith) (omega arith)

pub returns-else-high-gt0 : goal.returns-else-high-gt0
returns-else-high-gt0 t c =
    rw c.bad-else-high-gt0.ensures (digits_wrong c.args.most 18446744073709551616 c.args.left c.args.bytes.now c.in_ok-first.first
    c.in_ok-first.rest.now c.in_ok-high.high c.in_ok-high.rest.now (omega arith) c.in_ok-first.ensures
    (omega arith) c.in_ok-high.ensures
    (elim c.else-high-gt0.branch [
      | else-high-gt0-via-then-high-gt0+else-number-limit w ↦ inr (omega arith)
      | else-high-gt0-via-else-high-gt0 w ↦ inl (omega arith)
    ]))
