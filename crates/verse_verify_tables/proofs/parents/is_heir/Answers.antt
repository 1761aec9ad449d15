use Rattle.std.proofs.Common.{◌≡◌, sym, ◌∙◌, length, arith}
use Rattle.std.proofs.lemmas.List.{length-map}
use Rattle.verse_verify_notes.specs.View.{class_of, table_of}
use Rattle.verse_verify_sorts.proofs.Climbing.{one_up}
use Rattle.verse_verify_tables.proofs.parents.is_heir.Goals as goal

pub up-preserved : goal.up-preserved
up-preserved c =
    let cs = (table_of c.args.table.now).classes in
    let count : length cs ≡ length c.args.table.now.classes.items = length-map c.args.table.now.classes.items class_of in
    sym (one_up cs c.args.other (length cs) c.up._i c.up.at c.in-Some.up (omega (arith, count, c.up-test.true)) (sym
    c.is_same_number.ensures ∙ c.if-is_same_number.false) (sym c.parent.ensures ∙ c.in-Some.is)) ∙ c.up.invariant
