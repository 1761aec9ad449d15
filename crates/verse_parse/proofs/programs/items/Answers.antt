use Rattle.verse_parse.proofs.programs.items.Goals as goal
use Rattle.verse_parse.specs.StopsWith.{left_behind}

pub returns-in-Some-clause-stops : goal.returns-in-Some-clause-stops
returns-in-Some-clause-stops c left bad = left_behind c.in_ok-items.ensures.eats c.in-Some.ensures (cc)
