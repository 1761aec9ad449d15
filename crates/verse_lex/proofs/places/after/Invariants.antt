use Rattle.std.proofs.Common.{◌≡◌, drop}
use Rattle.verse_lex.specs.Cut.{after, IsNear}
use Rattle.verse_lex.proofs.places.after.Given as goal

abbrev pub invariant-bytes : goal.invariant-bytes
invariant-bytes l = (after l.here (drop l.byte-index l.bytes) ≡ after l.fn.place l.bytes) × IsNear l.fn.place l.byte-index l.here
