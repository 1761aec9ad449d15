use Rattle.std.proofs.Common.{◌≡◌, sym, ◌∙◌, length, arith}
use Rattle.std.proofs.lemmas.List.{length-map}
use Rattle.verse_verify_notes.specs.View.{class_of, classes_of}
use Rattle.verse_verify_sorts.proofs.Climbing.{one_up}
use Rattle.verse_verify_sorts.proofs.classes.is_heir.Goals as goal

pub parents-preserved : goal.parents-preserved
parents-preserved c =
    let cs = classes_of c.args.classes.now in
    let count : length cs ≡ length c.args.classes.now = length-map c.args.classes.now class_of in
    sym (one_up cs c.args.other (length cs) c.parents._i c.parents.at c.in-Some.up (omega (arith, count, c.parents-test.true))
    (sym c.is_number.ensures ∙ c.if-is_number.false) (sym c.parent.ensures ∙ c.in-Some.is)) ∙ c.parents.invariant
