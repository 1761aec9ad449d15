-- What is written and what is left are the whole text.
use Rattle.std.proofs.Common.{◌≡◌, ◌++◌, drop}
use Rattle.verse_base.specs.TraceLine.{escaped}
use Rattle.verse_base.proofs.texts.escaped.Given as goal

abbrev pub invariant-loop-byte : goal.invariant-loop-byte
invariant-loop-byte l = l.out.items ++ escaped (drop l.byte-index l.text) ≡ l.fn.out.items ++ escaped l.text
