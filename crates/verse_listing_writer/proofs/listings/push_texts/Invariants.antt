-- What is written and what is left are all the lines.
use Rattle.std.proofs.Common.{◌≡◌, ◌++◌, All, drop, map, take}
use Rattle.verse_listing_format.specs.Format.{AreBytes, spelled, text_line}
use Rattle.verse_listing_writer.proofs.listings.push_texts.Given as goal

abbrev pub invariant-entries : goal.invariant-entries
invariant-entries l = record {
  written : l.out.items ++ spelled (map text_line (drop l.text-index l.texts)) ≡ l.fn.out.items ++ spelled (map text_line l.texts);
  sized : All AreBytes (take l.text-index l.texts);
}
