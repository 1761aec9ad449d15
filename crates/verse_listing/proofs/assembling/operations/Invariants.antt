use Rattle.std.proofs.Common.{◌≡◌, ℕ, length, []}
use Rattle.verse_listing_lines.specs.declared.tables.Tables.{Tables}
use Rattle.verse_listing_lines.specs.Lines.{sizes_with}
use Rattle.verse_listing.specs.Reading.{among_operations}
use Rattle.verse_listing.specs.Answers.{IsCounted, left_gives}
use Rattle.verse_listing.proofs.assembling.operations.Given as goal

-- what is left goes on with the operations by now
abbrev pub invariant-lines : goal.invariant-lines
invariant-lines l =
    ((files main : ℕ) (t : Tables) → sizes_with l.count t ≡ l.sizes →
    left_gives (among_operations files l.count t main []) l.left ≡ left_gives (among_operations files l.count t main l.ops) l.here) ×
    IsCounted l.here × (length l.ops ≡ l.at)
