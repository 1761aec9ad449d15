-- The bytes are cut where the search ends.
use Rattle.std.proofs.Common.{arith, rules}
use Rattle.verse_listing_lines.proofs.Cuts.{cut_end, cut_byte}
use Rattle.verse_listing_lines.proofs.words.cut.Goals as goal
use Rattle.verse_listing_lines.proofs.words.cut.Goals.{then-bytes-test+else-bytes-at, else-bytes-test}

pub returns-in-empty-clause-parts : goal.returns-in-empty-clause-parts
returns-in-empty-clause-parts c =
    cut_end c.args.end c.bytes.at c.args.bytes.now c.split_at.result.1.now c.bytes.invariant.1 c.bytes.invariant.0 c.split_at.ensures.back
    (omega arith)

pub returns-in-len1-up-clause-parts : goal.returns-in-len1-up-clause-parts
returns-in-len1-up-clause-parts c = elim c.bytes-test.branch [
  | then-bytes-test+else-bytes-at w ↦ cut_byte c.args.end c.bytes.at c.args.bytes.now c.split_at.result.0.now c.split_at.result.1.now
      c.bytes.invariant.1 (omega arith) (search rules) c.split_at.ensures.front c.split_at.ensures.back
  | else-bytes-test w ↦ absurd (omega arith)
]
