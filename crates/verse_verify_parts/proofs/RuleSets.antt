-- The lemmas that the goals of a function want, by its name.
use Rattle.verse_verify_parts.proofs.Naming.{from_name, past_names, ended, same_from, end_yes, end_no}

pub ruleset of_names = (from_name, past_names, ended)

pub ruleset of_numbers = (same_from, end_yes, end_no)
