use Rattle.std.proofs.Common.{arith, refl}
use Rattle.verse_code.specs.declared.operations.Op.{Op}
use Rattle.verse_code.specs.Operations.{operands_of}
use Rattle.verse_listing_format.specs.Format.{AreSized}
use Rattle.verse_listing_writer.proofs.LineLemmas.{all_of_them, one_more, operation_written}
use Rattle.verse_listing_writer.proofs.listings.push_operations.Goals as goal

pub entries-preserved : goal.entries-preserved
entries-preserved c = record {
  written = operation_written c.args.ops.now c.entries.at _ _ _ _ _ (omega arith) refl c.in_ok-push_operation.ensures.written
      c.entries.invariant.written;
  sized = one_more c.args.ops.now c.entries.at _ _ (omega arith) refl (λ (op : Op). AreSized (operands_of op))
      c.in_ok-push_operation.ensures.sized
      c.entries.invariant.sized;
}

pub returns-clause-sized : goal.returns-clause-sized
returns-clause-sized c =
    all_of_them (λ (op : Op). AreSized (operands_of op)) c.args.ops.now c.entries.at (omega arith) c.entries.invariant.sized
