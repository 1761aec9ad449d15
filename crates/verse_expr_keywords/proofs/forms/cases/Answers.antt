use Rattle.verse_expr_reader.proofs.Faults.{same_fault}
use Rattle.verse_expr_keywords.proofs.forms.cases.Goals as goal
use Rattle.verse_expr_keywords.proofs.Cases.{cases_made, cases_eaten, cases_stuck}

pub returns-in_ok-cases-in-Ok-closed-clause-spelled : goal.returns-in_ok-cases-in-Ok-closed-clause-spelled
returns-in_ok-cases-in-Ok-closed-clause-spelled g c =
    cases_made c.requires.start c.in_ok-behind.ensures.found c.in_ok-behind.ensures.kind c.in_ok-subject.ensures.spelled
    c.in-Ok.ensures.found c.in-Ok.ensures.kinds.0 c.in-Ok.ensures.kinds.1 c.in-Ok-closed.ensures.spelled c.in_ok-cases-in-Ok-closed.ensures

pub returns-in_ok-cases-in-Ok-closed-clause-eats : goal.returns-in_ok-cases-in-Ok-closed-clause-eats
returns-in_ok-cases-in-Ok-closed-clause-eats g c =
    cases_eaten _ _ _ _ _ _ _ _ _ c.requires.start c.in_ok-behind.ensures.found c.in_ok-behind.ensures.kind c.in_ok-subject.ensures.eats
    c.in-Ok.ensures.found c.in-Ok.ensures.kinds.0 c.in-Ok.ensures.kinds.1 c.in-Ok-closed.ensures.eats

pub returns-in-Err-closed-clause-sticks : goal.returns-in-Err-closed-clause-sticks
returns-in-Err-closed-clause-sticks g c = λ left bad.
    cases_stuck left _ _ _ _ _ _ _ _ c.requires.start c.in_ok-behind.ensures.found c.in_ok-behind.ensures.kind c.in_ok-subject.ensures.eats
    c.in-Ok.ensures.found c.in-Ok.ensures.kinds.0 c.in-Ok.ensures.kinds.1 (c.in-Err-closed.ensures.sticks left (same_fault _ _ bad))
