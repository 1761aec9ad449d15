-- The lemmas that the goals of a function want, by its name.
use Rattle.verse_tree.proofs.Leaves.{sleep_nodes, sleep_numbered}

pub ruleset of_number_form = (sleep_nodes, sleep_numbered)
