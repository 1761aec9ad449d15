use Rattle.std.proofs.Common.{◌≡◌, drop}
use Rattle.verse_listing_lines.specs.Lines.{are_letters}
use Rattle.verse_listing_lines.proofs.words.is_name.Given as goal

abbrev pub invariant-letters : goal.invariant-letters
invariant-letters l = are_letters (drop l.byte-index l.word) ≡ are_letters l.word
