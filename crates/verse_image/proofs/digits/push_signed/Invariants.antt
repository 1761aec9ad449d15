use Rattle.std.proofs.Common.{List, ℕ}
use Rattle.verse_image.specs.Format.{SignedSpelled}
use Rattle.verse_image.specs.Writing.{Writes}
use Rattle.verse_image.proofs.digits.push_signed.Given as goal

-- what writes the rest of the number completes it
abbrev pub invariant-digits : goal.invariant-digits
invariant-digits l = (new : List ℕ) → Writes (SignedSpelled l.negative l.left) l.out.items new →
    Writes (SignedSpelled l.negative l.size) l.fn.out.items new

abbrev pub decreases-digits : goal.decreases-digits
decreases-digits l = l.left
