-- The lemmas that the goals of a function want, by its name.
use Rattle.vm_group.proofs.Gave.{with_none, all_did_last, all_runs_last, first_none, first_did_last, first_runs_last}

pub ruleset of_values_of = (with_none, all_did_last, all_runs_last)

pub ruleset of_first_value = (first_none, first_did_last, first_runs_last)
