use Rattle.std.proofs.Common.{arith, refl}
use Rattle.verse_image.specs.Format.{operation}
use Rattle.verse_image.proofs.WritingLemmas.{writes_entry, writes_end}
use Rattle.verse_image.proofs.encoding.push_operations.Goals as goal

pub entries-preserved : goal.entries-preserved
entries-preserved c = λ new w.
    c.entries.invariant new (writes_entry operation c.args.ops.now c.entries.op-index _ _ _ _ _
    (omega arith) refl c.in_ok-push_operation.ensures w)

pub returns : goal.returns
returns c = c.entries.invariant _ (writes_end operation c.args.ops.now c.entries.op-index _ (omega arith))
