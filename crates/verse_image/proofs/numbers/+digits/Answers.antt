use Rattle.std.proofs.Common.{arith, inl, inr}
use Rattle.verse_image.proofs.ReadingSteps.{digits_last, digits_whole, digits_wrong}
use Rattle.verse_image.proofs.numbers.+digits.Goals as goal
use Rattle.verse_image.proofs.numbers.+digits.Goals.{else-high-gt0-via-then-high-gt0+else-number-limit, else-high-gt0-via-else-high-gt0}

pub returns-then-first-lt128-clause-reads : goal.returns-then-first-lt128-clause-reads
returns-then-first-lt128-clause-reads t c =
    digits_last c.args.most c.args.end c.args.left c.args.bytes.now c.in_ok-first.first c.in_ok-first.rest.now
    (omega arith) c.in_ok-first.ensures (omega arith)

pub returns-then-number-limit-clause-reads : goal.returns-then-number-limit-clause-reads
returns-then-number-limit-clause-reads t c =
    digits_whole c.args.most c.args.end c.args.left c.args.bytes.now c.in_ok-first.first c.in_ok-first.rest.now c.in_ok-high.high
    c.in_ok-high.rest.now (omega arith) c.in_ok-first.ensures (omega arith) c.in_ok-high.ensures.reads (omega arith) (omega arith)

pub returns-else-high-gt0-clause-reads : goal.returns-else-high-gt0-clause-reads
returns-else-high-gt0-clause-reads t c =
    rw c.bad-else-high-gt0.ensures (digits_wrong c.args.most c.args.end c.args.left c.args.bytes.now c.in_ok-first.first
    c.in_ok-first.rest.now c.in_ok-high.high c.in_ok-high.rest.now (omega arith) c.in_ok-first.ensures
    (omega arith) c.in_ok-high.ensures.reads
    (elim c.else-high-gt0.branch [
      | else-high-gt0-via-then-high-gt0+else-number-limit w ↦ inr (omega arith)
      | else-high-gt0-via-else-high-gt0 w ↦ inl (omega arith)
    ]))
