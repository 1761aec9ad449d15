-- The lemmas that the goals of a function want, by its name.
use Rattle.verse_rules_tests.proofs.OneFile.{one_file, counted, numbered}

pub ruleset of_program_of = (one_file, counted, numbered)
