use Rattle.std.proofs.Common.{length}
use Rattle.lower_items.proofs.classes.+add_methods.Given as goal

abbrev pub decreases-add_methods : goal.decreases-add_methods
decreases-add_methods l = length l.methods.now
