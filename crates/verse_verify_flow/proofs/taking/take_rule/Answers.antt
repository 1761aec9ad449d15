use Rattle.std.proofs.Common.{◌≡◌, suc, Bor, true, sym, ap, ◌∙◌}
use Rattle.std.specs.Option.{option_map}
use Rattle.verse_sorts.specs.Typing.{at}
use Rattle.verse_verify_faults.specs.Stepping as t
use Rattle.verse_verify_notes.specs.declared.sorts.Sort.{Sort}
use Rattle.verse_verify_notes.specs.View.{sort_of}
use Rattle.verse_verify_parts.specs.Heres.{classes_in, spot_in, operands, rule_by}
use Rattle.verse_verify_operands.specs.Finds.{writes_of}
use Rattle.verse_verify_flow.proofs.Taken.{sort_there, next, no_number, takes_this}
use Rattle.verse_verify_flow.proofs.taking.take_rule.Goals as goal

pub returns-then-not-may_number : goal.returns-then-not-may_number
returns-then-not-may_number c =
    let h = c.args.here.now in
    let l = c.args.domain in
    let high : option_map (λ (b : Bor Sort). sort_of b.now) c.readable-high.result ≡ t.readable (at (spot_in h).locals (suc l)) =
    c.readable-high.ensures ∙ ap (λ n. t.readable (at (spot_in h).locals n)) (next l) in
    sym (ap (rule_by h) (no_number h l c.args.value c.args.label (operands c.args.st.now) (t.readable (at (spot_in h).locals l)) (t.readable
    (at (spot_in h).locals (suc l))) (ap (t.may_take (classes_in h)) (sym c.readable-low.ensures) ∙ sym c.may_take.ensures ∙
    c.if-not-may_take.false) (ap (t.may_number (classes_in h)) (sym high) ∙ sym c.may_number.ensures ∙ c.if-not-may_number.true)))

pub returns : goal.returns
returns c =
    let h = c.args.here.now in
    let l = c.args.domain in
    let high : option_map (λ (b : Bor Sort). sort_of b.now) c.readable-high.result ≡ t.readable (at (spot_in h).locals (suc l)) =
    c.readable-high.ensures ∙ ap (λ n. t.readable (at (spot_in h).locals n)) (next l) in
    let takes : t.may_take (classes_in h) (t.readable (at (spot_in h).locals l)) ≡ true =
    ap (t.may_take (classes_in h)) (sym c.readable-low.ensures) ∙ sym c.may_take.ensures ∙ c.if-not-may_take.false in
    let numbers : t.may_number (classes_in h) (t.readable (at (spot_in h).locals (suc l))) ≡ true =
    ap (t.may_number (classes_in h)) (sym high) ∙ sym c.may_number.ensures ∙ c.if-not-may_number.false in
    c.write_taken.ensures ∙ sym (ap (rule_by h) (takes_this h l c.args.value c.args.label (operands c.args.st.now) (t.readable (at (spot_in
    h).locals l)) (t.readable (at (spot_in h).locals (suc l))) (sort_of c.in-Some.sort.now) (sort_of c.in-Some-high.field-0.now) (writes_of
    c.in-Some-taken.taking) (sort_there c.readable-low.result c.in-Some.sort (t.readable (at (spot_in h).locals l)) c.readable-low.ensures
    c.in-Some.is) (sort_there c.readable-high.result c.in-Some-high.field-0 (t.readable (at (spot_in h).locals (suc l))) high
    c.in-Some-high.is) takes numbers (ap (option_map writes_of) (sym c.in-Some-taken.is) ∙ c.taken.ensures)))
