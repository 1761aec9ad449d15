-- The laws of single operations.
use Rattle.note_stretches.proofs.Laws.{walked_then, walked_nothing, walked_one, walked_last, walked_ends, walked_leave_loop}

pub ruleset plain = (walked_then, walked_nothing, walked_one, walked_last, walked_ends, walked_leave_loop)
