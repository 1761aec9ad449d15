-- What is written and what is left are the whole text.
use Rattle.std.proofs.Common.{◌≡◌, ◌++◌, drop}
use Rattle.verse_listing_format.specs.Format.{hex}
use Rattle.verse_listing_writer.proofs.words.push_hex.Given as goal

abbrev pub invariant-bytes : goal.invariant-bytes
invariant-bytes l = l.out.items ++ hex (drop l.byte-index l.bytes) ≡ l.fn.out.items ++ hex l.bytes
