use Rattle.std.proofs.Common.{◌≡◌, suc, ◌+◌, true, false, sym, ap, ◌∙◌, arith}
use Rattle.verse_verify_notes.specs.View.{sort_of}
use Rattle.verse_verify_tasks.specs.Arms.{arm_fits}
use Rattle.verse_verify_tasks.proofs.Counting.{stops, further, ends}
use Rattle.verse_verify_tasks.proofs.arms.do_fit.Goals as goal

pub returns-then-not-does_arm_fit : goal.returns-then-not-does_arm_fit
returns-then-not-does_arm_fit c =
    let h = c.args.here.now in
    let i = c.arms.i in
    let no : arm_fits h (suc h.index + i) (sort_of c.args.sort.now) ≡ false =
    ap (λ n. arm_fits h n (sort_of c.args.sort.now)) (sym c.behind.ensures) ∙ sym c.does_arm_fit.ensures ∙ c.if-not-does_arm_fit.true in
    sym (stops (λ n. arm_fits h n (sort_of c.args.sort.now)) (suc h.index + i) c.args.count i (omega (arith, c.arms-test.true)) no) ∙
    c.arms.invariant

pub arms-preserved : goal.arms-preserved
arms-preserved c =
    let h = c.args.here.now in
    let i = c.arms.i in
    let yes : arm_fits h (suc h.index + i) (sort_of c.args.sort.now) ≡ true =
    ap (λ n. arm_fits h n (sort_of c.args.sort.now)) (sym c.behind.ensures) ∙ sym c.does_arm_fit.ensures ∙
    c.if-not-does_arm_fit.false in
    further (λ n. arm_fits h n (sort_of c.args.sort.now)) (suc h.index) c.args.count i (omega (arith, c.arms-test.true)) yes ∙
    c.arms.invariant

pub returns : goal.returns
returns c =
    let h = c.args.here.now in
    sym (ends (λ n. arm_fits h n (sort_of c.args.sort.now)) (suc h.index + c.arms.i) c.args.count c.arms.i
    (omega (arith, c.arms-test.false))) ∙ c.arms.invariant
