-- The lemmas that the goals of a function want, by its name.
use Rattle.lower_lookup.proofs.NoCallees.{callee_returns, callee_chooses, callee_sleeps, callee_event}
use Rattle.lower_lookup.proofs.NoBases.{base_returns, base_chooses, base_sleeps, base_event}
use Rattle.lower_lookup.proofs.PlainStatements.{returns_plainly, chooses_plainly, sleeps_plainly, event_plainly}
use Rattle.lower_lookup.proofs.PlainStatements.{returns_at_once, chooses_at_once, sleeps_at_once, event_at_once}
use Rattle.lower_lookup.proofs.Targeting.{operands_returns, operands_chooses, operands_sleeps, operands_event}
use Rattle.lower_lookup.proofs.Targeting.{target_returns, target_chooses, target_sleeps, target_event}

pub ruleset of_callees = (callee_returns, callee_chooses, callee_sleeps, callee_event)

pub ruleset of_bases = (base_returns, base_chooses, base_sleeps, base_event)

pub ruleset of_statements = (returns_plainly, chooses_plainly, sleeps_plainly, event_plainly)

pub ruleset of_defers = (returns_at_once, chooses_at_once, sleeps_at_once, event_at_once)

pub ruleset of_operands = (operands_returns, operands_chooses, operands_sleeps, operands_event)

pub ruleset of_targets = (target_returns, target_chooses, target_sleeps, target_event)
