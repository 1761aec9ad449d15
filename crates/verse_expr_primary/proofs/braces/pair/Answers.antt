use Rattle.verse_expr_reader.proofs.Faults.{same_fault}
use Rattle.verse_expr_primary.proofs.braces.pair.Goals as goal
use Rattle.verse_expr_primary.proofs.Parts.{sticks_pair_by}

pub returns-in-Err-clause-sticks : goal.returns-in-Err-clause-sticks
returns-in-Err-clause-sticks g c = λ left bad. sticks_pair_by left _ _ _ _ c.in_ok-key.ensures.eats c.in-Some.ensures.0 c.in-Some.ensures.1
    (c.in-Err.ensures.sticks left (same_fault _ _ bad))
