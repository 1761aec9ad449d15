use Rattle.std.proofs.Common.{[], ◌∷◌, sym, ap, ◌∙◌, arith}
use Rattle.verse_verify_parts.specs.Heres.{operands, rule_by}
use Rattle.verse_verify_parts.specs.Mades.{made_of}
use Rattle.verse_verify_flow.specs.Writing.{wrote}
use Rattle.verse_verify_flow.proofs.Written.{one_past, one_rule}
use Rattle.verse_verify_flow.proofs.writing.write_one.Goals as goal

pub returns-then-local-count : goal.returns-then-local-count
returns-then-local-count c =
    let h = c.args.here.now in
    let l = c.args.local in
    sym (ap (rule_by h) (one_past h.spot.now.locals.value.items l (made_of c.args.made) (λ ls. wrote h ls (l ∷ []) (operands c.args.st.now))
    (omega (arith, c.if-local-count.true))))

pub returns : goal.returns
returns c = c.settle.ensures ∙ one_rule c.args.here.now c.args.st.now c.next.result c.does_lead_written-suits.result c.args.local
    c.args.made (omega (arith, c.if-local-count.false)) c.next.ensures c.does_lead_written-suits.ensures
