-- What is written and what is left are all the lines.
use Rattle.std.proofs.Common.{◌≡◌, ◌++◌, All, drop, map, take}
use Rattle.verse_listing_format.specs.Format.{IsNumber, spelled, class_line}
use Rattle.verse_listing_writer.proofs.listings.push_classes.Given as goal

abbrev pub invariant-entries : goal.invariant-entries
invariant-entries l = record {
  written : l.out.items ++ spelled (map class_line (drop l.class-index l.classes)) ≡ l.fn.out.items ++ spelled (map class_line l.classes);
  sized : All (λ c. IsNumber c.slots) (take l.class-index l.classes);
}
