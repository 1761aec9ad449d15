use Rattle.std.proofs.Common.{◌≡◌, ◌≤◌, length}
use Rattle.verse_listing_lines.specs.Lines.{no_tables}
use Rattle.verse_listing.specs.Reading.{among_tables}
use Rattle.verse_listing.specs.Answers.{IsCounted, left_gives}
use Rattle.verse_listing.proofs.assembling.tables.Given as goal

-- what is left goes on with the tables by now
abbrev pub invariant-lines : goal.invariant-lines
invariant-lines l =
    (left_gives (among_tables l.files l.ops no_tables) l.left ≡ left_gives (among_tables l.files l.ops l.tables) l.here) ×
    IsCounted l.here × (length l.tables.functions ≤ 4294967295)

abbrev pub decreases-lines : goal.decreases-lines
decreases-lines l = length l.here.bytes.now
