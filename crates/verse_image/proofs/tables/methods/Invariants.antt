use Rattle.std.proofs.Common.{◌≡◌, ◌-◌}
use Rattle.verse_image.specs.Reading.{within_at, many_at, table_at}
use Rattle.verse_image.proofs.ReadingSteps.{with_front}
use Rattle.verse_image.proofs.tables.methods.Given as goal

abbrev pub invariant-entries : goal.invariant-entries
invariant-entries l = with_front l.entries (many_at (within_at 0 l.functions) (l.count - l._i) l.rest) ≡
    table_at (within_at 0 l.functions) l.bytes
