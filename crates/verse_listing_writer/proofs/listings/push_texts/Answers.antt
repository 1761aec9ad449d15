use Rattle.std.proofs.Common.{List, ℕ, ap, arith, subst, ◌++◌, ◌∙◌}
use Rattle.verse_listing_format.specs.Format.{AreBytes, text_line}
use Rattle.verse_listing_writer.specs.Writing.{line_text}
use Rattle.verse_listing_writer.proofs.LineLemmas.{all_of_them, entry_written, one_more}
use Rattle.verse_listing_writer.proofs.listings.push_texts.Goals as goal

pub entries-preserved : goal.entries-preserved
entries-preserved c = record {
  written = entry_written c.args.texts.now c.entries.text-index _ _ (omega arith) c.text-item.is text_line _ _ _
      (c.in_ok-push_text.ensures.written ∙
      ap (λ (bytes : List ℕ). c.entries.out.items ++ line_text (text_line bytes)) c.as_slice.ensures)
      c.entries.invariant.written;
  sized = one_more c.args.texts.now c.entries.text-index _ _ (omega arith) c.text-item.is AreBytes
      (subst AreBytes c.as_slice.ensures c.in_ok-push_text.ensures.sized)
      c.entries.invariant.sized;
}

pub returns-clause-sized : goal.returns-clause-sized
returns-clause-sized c = all_of_them AreBytes c.args.texts.now c.entries.text-index (omega arith) c.entries.invariant.sized
