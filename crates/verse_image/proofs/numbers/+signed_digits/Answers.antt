use Rattle.std.proofs.Common.{◌+◌, ◌*◌, arith, inl, inr, refl}
use Rattle.verse_image.proofs.ReadingSteps.{signed_last, signed_turned, signed_whole, signed_wrong}
use Rattle.verse_image.proofs.numbers.+signed_digits.Goals as goal
use Rattle.verse_image.proofs.numbers.+signed_digits.Goals.{else-size-ge64-via-then-size-ge64+else-size-limit}
use Rattle.verse_image.proofs.numbers.+signed_digits.Goals.{else-size-ge64-via-else-size-ge64}

pub returns-then-first-lt64-clause-reads : goal.returns-then-first-lt64-clause-reads
returns-then-first-lt64-clause-reads t c =
    signed_last c.args.most c.args.end c.args.left c.args.bytes.now c.in_ok-first.first c.in_ok-first.rest.now
    (omega arith) c.in_ok-first.ensures (omega arith)

pub returns-then-first-lt128-clause-reads : goal.returns-then-first-lt128-clause-reads
returns-then-first-lt128-clause-reads t c =
    signed_turned c.args.most c.args.end c.args.left c.args.bytes.now c.in_ok-first.first c.in_ok-first.rest.now
    (omega arith) c.in_ok-first.ensures (omega arith) (omega arith)

pub returns-then-size-limit-clause-reads : goal.returns-then-size-limit-clause-reads
returns-then-size-limit-clause-reads t c =
    signed_whole c.args.most c.args.end c.args.left c.args.bytes.now c.in_ok-first.first c.in_ok-first.rest.now c.in_ok-negative.negative
    c.in_ok-negative.high c.seven_bits-low.result _ c.in_ok-negative.rest.now
    (omega arith) c.in_ok-first.ensures (omega arith) c.in_ok-negative.ensures.reads c.seven_bits-low.ensures refl (omega arith)
    (omega arith)

pub returns-else-size-ge64-clause-reads : goal.returns-else-size-ge64-clause-reads
returns-else-size-ge64-clause-reads t c =
    rw c.bad-else-size-ge64.ensures (signed_wrong c.args.most c.args.end c.args.left c.args.bytes.now c.in_ok-first.first
    c.in_ok-first.rest.now c.in_ok-negative.negative c.in_ok-negative.high c.seven_bits-low.result
    (c.in_ok-negative.high * 128 + c.seven_bits-low.result) c.in_ok-negative.rest.now
    (omega arith) c.in_ok-first.ensures (omega arith) c.in_ok-negative.ensures.reads c.seven_bits-low.ensures refl
    (elim c.else-size-ge64.branch [
      | else-size-ge64-via-then-size-ge64+else-size-limit w ↦ inr (omega arith)
      | else-size-ge64-via-else-size-ge64 w ↦ inl (omega arith)
    ]))
