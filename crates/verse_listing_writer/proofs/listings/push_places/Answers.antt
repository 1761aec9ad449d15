use Rattle.std.proofs.Common.{arith, refl}
use Rattle.verse_listing_format.specs.Format.{IsSizedPlace, place_line}
use Rattle.verse_listing_writer.proofs.LineLemmas.{all_of_them, entry_written, one_more}
use Rattle.verse_listing_writer.proofs.listings.push_places.Goals as goal

pub entries-preserved : goal.entries-preserved
entries-preserved c = record {
  written = entry_written c.args.places.now c.entries.place-index _ _ (omega arith) refl place_line _ _ _ c.in_ok-push_place.ensures.written
      c.entries.invariant.written;
  sized = one_more c.args.places.now c.entries.place-index _ _ (omega arith) refl IsSizedPlace c.in_ok-push_place.ensures.sized
      c.entries.invariant.sized;
}

pub returns-clause-sized : goal.returns-clause-sized
returns-clause-sized c = all_of_them IsSizedPlace c.args.places.now c.entries.place-index (omega arith) c.entries.invariant.sized
