use Rattle.std.proofs.Common.{◌≡◌, suc, ◌+◌, true, false, sym, ap, ◌∙◌, arith}
use Rattle.verse_verify_tasks.specs.Arms.{may_begin}
use Rattle.verse_verify_tasks.proofs.Counting.{stops, further, ends}
use Rattle.verse_verify_tasks.proofs.arms.do_begin.Goals as goal

pub returns-then-not-may_begin : goal.returns-then-not-may_begin
returns-then-not-may_begin c =
    let h = c.args.here.now in
    let i = c.arms.i in
    let no : may_begin h (suc h.index + i) ≡ false =
    ap (λ n. may_begin h n) (sym c.behind.ensures) ∙ sym c.may_begin.ensures ∙ c.if-not-may_begin.true in
    sym (stops (may_begin h) (suc h.index + i) c.args.count i (omega (arith, c.arms-test.true)) no) ∙ c.arms.invariant

pub arms-preserved : goal.arms-preserved
arms-preserved c =
    let h = c.args.here.now in
    let i = c.arms.i in
    let yes : may_begin h (suc h.index + i) ≡ true =
    ap (λ n. may_begin h n) (sym c.behind.ensures) ∙ sym c.may_begin.ensures ∙ c.if-not-may_begin.false in
    further (may_begin h) (suc h.index) c.args.count i (omega (arith, c.arms-test.true)) yes ∙ c.arms.invariant

pub returns : goal.returns
returns c =
    let h = c.args.here.now in
    sym (ends (may_begin h) (suc h.index + c.arms.i) c.args.count c.arms.i (omega (arith, c.arms-test.false))) ∙ c.arms.invariant
