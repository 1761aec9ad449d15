use Rattle.std.proofs.Common.{◌≡◌, ◌+◌, ◌-◌, sym, ap, ◌∙◌, length, arith}
use Rattle.std.proofs.lemmas.List.{length-map}
use Rattle.verse_verify_faults.specs.Faults.{comes_back}
use Rattle.verse_verify_notes.specs.View.{class_of, table_of}
use Rattle.verse_verify_tables.proofs.Chains.{further}
use Rattle.verse_verify_tables.proofs.parents.does_come_back.Goals as goal

pub up-preserved : goal.up-preserved
up-preserved c =
    let t = table_of c.args.table.now in
    let n = length t.classes in
    let count : n ≡ length c.args.table.now.classes.items = length-map c.args.table.now.classes.items class_of in
    ap (comes_back c.args.code.now t (n - (c.up._i + 1)) c.args.class) c.parent-next.ensures ∙ sym (further c.args.code.now t c.args.class n
    c.up._i c.in-Some.at (omega (arith, count, c.up-test.true)) (sym c.is_same_number.ensures ∙ c.if-is_same_number.false)) ∙ ap (comes_back
    c.args.code.now t (n - c.up._i) c.args.class) (sym c.in-Some.is) ∙ c.up.invariant
