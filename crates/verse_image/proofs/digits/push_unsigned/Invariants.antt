use Rattle.std.proofs.Common.{List, ℕ}
use Rattle.verse_image.specs.Format.{Spelled}
use Rattle.verse_image.specs.Writing.{Writes}
use Rattle.verse_image.proofs.digits.push_unsigned.Given as goal

-- what writes the rest of the number completes it
abbrev pub invariant-digits : goal.invariant-digits
invariant-digits l = (new : List ℕ) → Writes (Spelled l.left) l.out.items new → Writes (Spelled l.value) l.fn.out.items new

abbrev pub decreases-digits : goal.decreases-digits
decreases-digits l = l.left
