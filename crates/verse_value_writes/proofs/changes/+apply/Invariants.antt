use Rattle.std.proofs.Common.{length, ◌*◌, ◌+◌}
use Rattle.verse_value_writes.proofs.changes.+apply.Given as goal

abbrev pub decreases-apply : goal.decreases-apply
decreases-apply l = 2 * length l.path.now

abbrev pub decreases-apply_to_part : goal.decreases-apply_to_part
decreases-apply_to_part l = 2 * length l.path.now + 1

abbrev pub decreases-apply_to_entry : goal.decreases-apply_to_entry
decreases-apply_to_entry l = 2 * length l.path.now + 1
