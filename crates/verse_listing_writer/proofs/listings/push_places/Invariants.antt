-- What is written and what is left are all the lines.
use Rattle.std.proofs.Common.{◌≡◌, ◌++◌, All, drop, map, take}
use Rattle.verse_listing_format.specs.Format.{IsSizedPlace, spelled, place_line}
use Rattle.verse_listing_writer.proofs.listings.push_places.Given as goal

abbrev pub invariant-entries : goal.invariant-entries
invariant-entries l = record {
  written : l.out.items ++ spelled (map place_line (drop l.place-index l.places)) ≡ l.fn.out.items ++ spelled (map place_line l.places);
  sized : All IsSizedPlace (take l.place-index l.places);
}
