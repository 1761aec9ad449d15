use Rattle.std.proofs.Common.{◌≡◌, suc, ◌+◌, true, sym, ap, ◌∙◌, arith}
use Rattle.std.specs.Prelude.{not, slice_get}
use Rattle.verse_code_machine.specs.Acts.{label_of}
use Rattle.verse_verify_faults.specs.Faults.{is_none}
use Rattle.verse_verify_parts.specs.Heres.{code_in, table_in}
use Rattle.verse_verify_keeps.proofs.Arms.{further}
use Rattle.verse_verify_keeps.proofs.waits.are_arms.Goals as goal

pub arms-preserved : goal.arms-preserved
arms-preserved c =
    let h = c.args.here.now in
    let this : not (is_none (label_of (slice_get (code_in h).ops (suc h.index + c.arms.i)))) ≡ true =
    ap (λ n. not (is_none (label_of (slice_get (code_in h).ops n)))) (sym c.behind.ensures) ∙ sym c.is_arm.ensures ∙
    c.if-not-is_arm.false in
    further (code_in h) (table_in h) h.index c.args.count c.arms.i (omega (arith, c.arms-test.true)) this ∙ c.arms.invariant
