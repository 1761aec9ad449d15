use Rattle.std.proofs.lemmas.Result.{err_from_is_err_and}
use Rattle.verse_expr_reader.proofs.Faults.{same_fault}
use Rattle.verse_expr_primary.proofs.brackets.event.Goals as goal
use Rattle.verse_expr_primary.proofs.BracketEnds.{eats_event_by}
use Rattle.verse_expr_primary.proofs.BracketStops.{event_made, event_stuck}

pub returns-in_err-rest-clause-sticks : goal.returns-in_err-rest-clause-sticks
returns-in_err-rest-clause-sticks g c = λ left bad.
    let p = err_from_is_err_and c.from_residual-in_err-rest.result c.from_residual-in_err-rest.ensures.1 in
    let told = same_fault _ _ (rw (p.1, p.2) at bad) in
    event_stuck _ _ _ _ _ _ c.requires.start c.in_ok-ty.ensures.eats c.in_ok-behind.ensures.found c.in_ok-behind.ensures.kind
    (c.in_err-rest.ensures.left left told) (c.in_err-rest.ensures.other left told)

pub returns-clause-spelled : goal.returns-clause-spelled
returns-clause-spelled g c =
    event_made c.in_ok-ty.ty c.requires.start c.in_ok-ty.ensures.spelled c.in_ok-behind.ensures.found c.in_ok-behind.ensures.kind
    c.in_ok-rest.ensures.found c.in_ok-rest.ensures.kind c.in_ok-event.ensures

pub returns-clause-eats : goal.returns-clause-eats
returns-clause-eats g c =
    eats_event_by _ _ _ _ _ _ _ c.requires.start c.in_ok-ty.ensures.eats c.in_ok-behind.ensures.found c.in_ok-behind.ensures.kind
    c.in_ok-rest.ensures.found c.in_ok-rest.ensures.kind
