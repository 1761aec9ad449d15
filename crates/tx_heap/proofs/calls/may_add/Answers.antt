use Rattle.std.proofs.Common.{arith}
use Rattle.tx_heap.proofs.calls.may_add.Goals as goal

pub returns-then-len-lt4294967295 : goal.returns-then-len-lt4294967295
returns-then-len-lt4294967295 c = (
  λ h. (omega (arith, c.len.ensures, c.if-len-lt4294967295.true), (c.has_room.ensures c.args.kind).0 h),
  λ p. (c.has_room.ensures c.args.kind).1 p.1,
)
