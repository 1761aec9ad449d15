-- The lemmas that the goals of a function want, by its name.
use Rattle.lower_calls.proofs.NoParts.{object_returns, object_chooses, object_sleeps, object_event}
use Rattle.lower_calls.proofs.NoParts.{chained_returns, chained_chooses, chained_sleeps, chained_event}
use Rattle.lower_calls.proofs.NoParts.{called_returns, called_chooses, called_sleeps, called_event}
use Rattle.lower_calls.proofs.NoParts.{aims_returns, aims_chooses, aims_sleeps, aims_event}
use Rattle.lower_calls.proofs.NoParts.{levels_returns, levels_chooses, levels_sleeps, levels_event}

pub ruleset of_objects = (object_returns, object_chooses, object_sleeps, object_event)

pub ruleset of_chains = (chained_returns, chained_chooses, chained_sleeps, chained_event)

pub ruleset of_calls = (called_returns, called_chooses, called_sleeps, called_event)

pub ruleset of_aims = (aims_returns, aims_chooses, aims_sleeps, aims_event)

pub ruleset of_levels = (levels_returns, levels_chooses, levels_sleeps, levels_event)
