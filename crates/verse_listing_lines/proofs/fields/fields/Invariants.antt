use Rattle.std.proofs.Common.{◌≡◌, drop}
use Rattle.verse_listing_lines.specs.Lines.{fields}
use Rattle.verse_listing_lines.proofs.NumberSteps.{with_front}
use Rattle.verse_listing_lines.proofs.fields.fields.Given as goal

abbrev pub invariant-numbers : goal.invariant-numbers
invariant-numbers l = with_front l.all (fields l.end (drop l.number-index l.numbers)) ≡ fields l.end l.numbers
