use Rattle.std.proofs.Common.{arith}
use Rattle.verse_code.specs.declared.codes.Class.{Class}
use Rattle.verse_listing_format.specs.Format.{IsNumber, class_line}
use Rattle.verse_listing_writer.proofs.LineLemmas.{all_of_them, entry_written, one_more}
use Rattle.verse_listing_writer.proofs.listings.push_classes.Goals as goal

pub entries-preserved : goal.entries-preserved
entries-preserved c = record {
  written = entry_written c.args.classes.now c.entries.class-index _ _ (omega arith) c.class-item.is class_line _ _ _
      c.in_ok-push_class.ensures.written
      c.entries.invariant.written;
  sized = one_more c.args.classes.now c.entries.class-index _ _ (omega arith) c.class-item.is (λ (k : Class). IsNumber k.slots)
      c.in_ok-push_class.ensures.sized
      c.entries.invariant.sized;
}

pub returns-clause-sized : goal.returns-clause-sized
returns-clause-sized c =
    all_of_them (λ (k : Class). IsNumber k.slots) c.args.classes.now c.entries.class-index (omega arith) c.entries.invariant.sized
