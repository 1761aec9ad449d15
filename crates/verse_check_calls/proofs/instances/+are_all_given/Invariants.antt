use Rattle.std.proofs.Common.{length}
use Rattle.verse_check_calls.proofs.instances.+are_all_given.Given as goal

abbrev pub decreases-are_all_given : goal.decreases-are_all_given
decreases-are_all_given l = length l.lacking.now
