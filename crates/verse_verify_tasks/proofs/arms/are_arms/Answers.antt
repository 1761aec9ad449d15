use Rattle.std.proofs.Common.{◌≡◌, suc, ◌+◌, true, false, sym, ap, ◌∙◌, arith}
use Rattle.verse_verify_tasks.specs.Arms.{is_arm}
use Rattle.verse_verify_tasks.proofs.Counting.{stops, further, ends}
use Rattle.verse_verify_tasks.proofs.arms.are_arms.Goals as goal

pub returns-then-not-is_arm : goal.returns-then-not-is_arm
returns-then-not-is_arm c =
    let h = c.args.here.now in
    let i = c.arms.i in
    let no : is_arm h (suc h.index + i) ≡ false =
    ap (λ n. is_arm h n) (sym c.behind.ensures) ∙ sym c.is_arm.ensures ∙ c.if-not-is_arm.true in
    sym (stops (is_arm h) (suc h.index + i) c.args.count i (omega (arith, c.arms-test.true)) no) ∙ c.arms.invariant

pub arms-preserved : goal.arms-preserved
arms-preserved c =
    let h = c.args.here.now in
    let i = c.arms.i in
    let yes : is_arm h (suc h.index + i) ≡ true =
    ap (λ n. is_arm h n) (sym c.behind.ensures) ∙ sym c.is_arm.ensures ∙ c.if-not-is_arm.false in
    further (is_arm h) (suc h.index) c.args.count i (omega (arith, c.arms-test.true)) yes ∙ c.arms.invariant

pub returns : goal.returns
returns c =
    let h = c.args.here.now in
    sym (ends (is_arm h) (suc h.index + c.arms.i) c.args.count c.arms.i (omega (arith, c.arms-test.false))) ∙ c.arms.invariant
