use Rattle.std.proofs.Common.{◌+◌, sym, ap, ◌∙◌, arith}
use Rattle.verse_verify_parts.specs.Heres.{operands, rule_by}
use Rattle.verse_verify_flow.proofs.Written.{taken_past, taken_far, three_rule}
use Rattle.verse_verify_flow.proofs.taking.write_taken.Goals as goal

pub returns-then-next-count : goal.returns-then-next-count
returns-then-next-count c =
    let h = c.args.here.now in
    sym (ap (rule_by h) (taken_past h (operands c.args.st.now) c.args.domain c.args.value c.args.label c.args.taking (omega (
      arith,
      c.if-next-count.true,
    ))))

pub returns-then-last-count : goal.returns-then-last-count
returns-then-last-count c =
    let h = c.args.here.now in
    sym (ap (rule_by h) (taken_far h (operands c.args.st.now) c.args.domain c.args.value c.args.label c.args.taking (omega (
      arith,
      c.if-next-count.false,
    )) (omega (arith, c.if-last-count.true))))

pub returns : goal.returns
returns c = c.settle.ensures ∙ three_rule c.args.here.now c.args.st.now c.do_lead_back-suits.result c.args.domain c.args.value c.args.label
    c.args.taking (c.args.domain + 1) (c.args.value + 1) (omega arith) (omega arith) (omega (arith, c.if-next-count.false)) (omega (
      arith,
      c.if-last-count.false,
    )) c.do_lead_back-suits.ensures
