use Rattle.std.proofs.Common.{length, sym, ap, ◌∙◌}
use Rattle.verse_tree.specs.View.{tree_of}
use Rattle.verse_meaning.specs.Programs.{program_of}
use Rattle.verse_meaning.specs.Evaluating.{base_of, number_of}
use Rattle.lower_code.specs.Arounds.{up, raised}
use Rattle.lower_code.specs.Lowering.{target_operands, has_base, keeps}
use Rattle.lower_code.specs.Applied.{slot_of}
use Rattle.lower_lookup.specs.Members.{base_view}
use Rattle.lower_lookup.specs.Types.{differ_of}
use Rattle.lower_expr.specs.Building.{built}
use Rattle.lower_expr.specs.Locals.{scope_of}
use Rattle.lower_parts.specs.Parts.{tree_code}
use Rattle.verse_tree.proofs.Shapes.{tree_is}
use Rattle.lower_calls.specs.Aims.{target_code}
use Rattle.lower_calls.proofs.Steps.{three_steps, same_made}
use Rattle.lower_calls.proofs.Storing.{stored, store_is}
use Rattle.lower_calls.proofs.targets.assigned.Goals as goal

pub returns-clause-code : goal.returns-clause-code
returns-clause-code g c =
    let p = c.args.lowering.now.tables.now.program.now in
    let sc = scope_of c.args.scopes.now in
    let a = c.args.around in
    let b = tree_of c.args.part.now in
    let v = tree_of c.args.value.now in
    let base = base_of (program_of p) b in
    let n = target_operands b in
    let is_base = c.base_of-base.ensures in
    let same = c.in_ok-part.ensures.scopes ∙ c.in_ok-indices.ensures.scopes in
    three_steps (target_code p b base sc a) (tree_code p v sc (up (raised n a)))
    (stored p c.args.assign b v c.args.place base n sc)
    (built c.args.builder.now) _ _ _
    (same_made _ (target_code p b base sc a) _ _ c.in_ok-indices.ensures.code
    (ap (λ base. target_code p b base sc a) is_base))
    (same_made _ (tree_code p v sc (up (raised n a))) _ _ c.in_ok-part.ensures.code
    (ap (λ s. tree_code p v s c.in_ok-above.above) c.in_ok-indices.ensures.scopes
    ∙ ap (tree_code p v sc)
    (c.in_ok-above.ensures ∙ ap up (c.in_ok-raised.ensures ∙ ap (λ n. raised n a) c.in_ok-indices.ensures.count))))
    (same_made _ (stored p c.args.assign b v c.args.place base n sc) _ _ c.in_ok-ending.ensures
    (store_is p c.args.assign b v c.args.place base n sc c.in_ok-has_base.field-0 c.slot_of.result
    c.in_ok-indices.indices c.mode_number.result c.keeps.result c.in_ok-count.field-0
    (c.in_ok-has_base.ensures (program_of p) (differ_of p)
    ∙ ap (has_base (program_of p) (differ_of p) b (base_view c.base_of-base.result)) same
    ∙ ap (λ base. has_base (program_of p) (differ_of p) b base sc) is_base)
    (c.slot_of.ensures ∙ ap slot_of is_base) c.in_ok-indices.ensures.count c.mode_number.ensures
    (c.keeps.ensures ∙ ap (keeps c.args.assign) (c.differ.ensures
    ∙ ap (λ m. differ_of p m c.args.value.now.node) (sym (ap number_of (tree_is c.args.part.now)))
    ∙ ap (differ_of p (number_of b)) (sym (ap number_of (tree_is c.args.value.now)))))
    (c.in_ok-count.ensures ∙ ap length same)))
