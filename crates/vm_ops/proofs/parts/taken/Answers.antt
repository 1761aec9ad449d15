use Rattle.std.proofs.Common.{arith}
use Rattle.vm_ops.proofs.Elements.{no_element}
use Rattle.vm_ops.proofs.parts.taken.Goals as goal

pub returns-else-at-len : goal.returns-else-at-len
returns-else-at-len c = record { answers = no_element c.args.parts.now c.args.at (omega (arith, c.len.ensures, c.if-at-len.false)) }
