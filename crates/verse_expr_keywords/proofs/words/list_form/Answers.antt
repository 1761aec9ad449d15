use Rattle.std.proofs.lemmas.Result.{err_from_is_err_and}
use Rattle.verse_expr_reader.proofs.Faults.{same_fault}
use Rattle.verse_expr_keywords.proofs.words.list_form.Goals as goal
use Rattle.verse_expr_keywords.proofs.WordForms.{list_stuck_inside}

pub returns-in_err-parts-clause-sticks : goal.returns-in_err-parts-clause-sticks
returns-in_err-parts-clause-sticks g c = λ left bad.
    let p = err_from_is_err_and c.from_residual-in_err-parts.result c.from_residual-in_err-parts.ensures.1 in
    let told = same_fault _ _ (rw (p.1, p.2) at bad) in
    rw c.in_ok-behind.ensures.found (list_stuck_inside c.args.word left _ _ _ c.requires.start c.in_ok-behind.ensures.kind
    (c.in_err-parts.ensures.sticks left told))
