use Rattle.std.proofs.Common.{rules}
use Rattle.std.proofs.lemmas.List.{map-set}
use Rattle.verse_cells.proofs.slots.put_part.Goals as goal

pub returns-clause-new : goal.returns-clause-new
returns-clause-new c = search (rules, map-set)
