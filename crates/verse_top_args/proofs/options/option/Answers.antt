-- Each option is read as the words that give it.
use Rattle.std.proofs.Common.{◌≡◌, ◌∷◌, map, string_bytes, sym, ◌∙◌, ap}
use Rattle.verse_top_args.proofs.OptionLemmas.{on_heap, on_inputs, on_steps, on_until}
use Rattle.verse_top_args.proofs.options.option.Goals as goal

pub returns-then-is-clause-gives : goal.returns-then-is-clause-gives
returns-then-is-clause-gives c = on_heap _ _ c.args.word.now _ (c.is.ensures.0 c.if-is.true) c.in_ok-heap.ensures.0 c.in_ok-heap.ensures.1

pub returns-in_ok-steps-clause-gives : goal.returns-in_ok-steps-clause-gives
returns-in_ok-steps-clause-gives c =
    let split : map string_bytes c.args.behind.now ≡ c.as_str-value.result.now ∷ map string_bytes c.in_ok-value.rest.now
    = ap (map string_bytes) c.in_ok-value.ensures.cases.0 ∙
    ap (λ v. v ∷ map string_bytes c.in_ok-value.rest.now) (sym c.as_str-value.ensures.value) in
    let taken = c.in_ok-steps.ensures in
    on_steps _ _ c.args.word.now c.as_str-value.result.now _ _ taken.0 (c.is-2.ensures.0 c.if-is-2.true) split taken.1 taken.2 taken.3

pub returns-in_ok-until-clause-gives : goal.returns-in_ok-until-clause-gives
returns-in_ok-until-clause-gives c =
    let split : map string_bytes c.args.behind.now ≡ c.as_str-value.result.now ∷ map string_bytes c.in_ok-value.rest.now
    = ap (map string_bytes) c.in_ok-value.ensures.cases.0 ∙
    ap (λ v. v ∷ map string_bytes c.in_ok-value.rest.now) (sym c.as_str-value.ensures.value) in
    let taken = c.in_ok-until.ensures in
    on_until _ _ c.args.word.now c.as_str-value.result.now _ _ taken.0 (c.is-else-is-2.ensures.0 c.if-is-3.true) split taken.1 taken.2
    taken.3

pub returns-in_ok-inputs-clause-gives : goal.returns-in_ok-inputs-clause-gives
returns-in_ok-inputs-clause-gives c =
    let split : map string_bytes c.args.behind.now ≡ c.as_str-value.result.now ∷ map string_bytes c.in_ok-value.rest.now
    = ap (map string_bytes) c.in_ok-value.ensures.cases.0 ∙
    ap (λ v. v ∷ map string_bytes c.in_ok-value.rest.now) (sym c.as_str-value.ensures.value) in
    let taken = c.in_ok-inputs.ensures in
    on_inputs _ _ c.args.word.now c.as_str-value.result.now _ _ (c.is-else-is-3.ensures.0 c.if-is-4.true) split taken.0 taken.1
