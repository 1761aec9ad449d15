use Rattle.std.proofs.Common.{length}
use Rattle.note_sorts.proofs.classes.+add_slots.Given as goal

abbrev pub decreases-add_slots : goal.decreases-add_slots
decreases-add_slots l = length l.fields.now
