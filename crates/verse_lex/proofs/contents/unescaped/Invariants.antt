use Rattle.std.proofs.Common.{◌≡◌, ◌++◌, length}
use Rattle.verse_lex.specs.Contents.{unescaped}
use Rattle.verse_lex.proofs.contents.unescaped.Given as goal

abbrev pub invariant-chars : goal.invariant-chars
invariant-chars l = l.out.items ++ unescaped l.rest ≡ unescaped l.chars

abbrev pub decreases-chars : goal.decreases-chars
decreases-chars l = length l.rest
