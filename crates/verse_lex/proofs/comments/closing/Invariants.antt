use Rattle.std.proofs.Common.{◌≡◌, ◌+◌, ◌≤◌, length}
use Rattle.verse_lex.specs.Comments.{beyond, closing}
use Rattle.verse_lex.proofs.comments.closing.Given as goal

abbrev pub invariant-inside : goal.invariant-inside
invariant-inside l = (beyond l.count (closing l.depth l.rest) ≡ closing 1 l.bytes) × (l.count + length l.rest ≡ length l.bytes) ×
    (l.depth ≤ l.count + 1)

abbrev pub decreases-inside : goal.decreases-inside
decreases-inside l = length l.rest
