use Rattle.std.proofs.Common.{◌+◌, suc, [], ◌∷◌, sym, ap, ◌∙◌, arith}
use Rattle.verse_verify_parts.specs.Heres.{operands, rule_by}
use Rattle.verse_verify_parts.specs.Mades.{made_of}
use Rattle.verse_verify_flow.specs.Writing.{wrote}
use Rattle.verse_verify_flow.proofs.Written.{two_past, two_rule}
use Rattle.verse_verify_flow.proofs.writing.write_two.Goals as goal

pub returns-then-next-count : goal.returns-then-next-count
returns-then-next-count c =
    let h = c.args.here.now in
    let l = c.args.local in
    sym (ap (rule_by h) (two_past h.spot.now.locals.value.items l (made_of c.args.made) (made_of c.args.behind)
    (λ ls. wrote h ls (l ∷ suc l ∷ []) (operands c.args.st.now)) (omega (arith, c.if-next-count.true))))

pub returns : goal.returns
returns c = c.settle.ensures ∙ two_rule c.args.here.now c.args.st.now c.next.result c.does_lead_written-suits.result c.args.local
    (c.args.local + 1) c.args.made c.args.behind (omega arith) (omega (arith, c.if-next-count.false)) c.next.ensures
    c.does_lead_written-suits.ensures
