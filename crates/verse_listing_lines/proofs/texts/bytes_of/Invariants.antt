use Rattle.std.proofs.Common.{◌≡◌, length}
use Rattle.verse_listing_lines.specs.Lines.{bytes_of}
use Rattle.verse_listing_lines.proofs.NumberSteps.{with_front}
use Rattle.verse_listing_lines.proofs.texts.bytes_of.Given as goal

abbrev pub invariant-digits : goal.invariant-digits
invariant-digits l = with_front l.all (bytes_of l.left) ≡ bytes_of l.word

abbrev pub decreases-digits : goal.decreases-digits
decreases-digits l = length l.left
