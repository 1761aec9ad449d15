-- The lemmas that the goals of a function want, by its name.
use Rattle.note_blocks.proofs.Inner.{nothing_returned, nothing_chosen, nothing_slept, nothing_awaited}

pub ruleset of_parts = (nothing_returned, nothing_chosen, nothing_slept, nothing_awaited)
