-- The lemmas that the goals of a function want, by its name.
use Rattle.vm_exec_loops.proofs.Values.{no_entry, entry_is, key_place}

pub ruleset of_entry_at = (no_entry, entry_is, key_place)
