use Rattle.std.proofs.Common.{◌≤◌, ◌-◌, length}
use Rattle.verse_outside.proofs.standard.read_file.Given as goal

abbrev pub invariant-reads : goal.invariant-reads
invariant-reads g l = length l.bytes.items ≤ l.most

abbrev pub decreases-reads : goal.decreases-reads
decreases-reads g l = l.most - length l.bytes.items
