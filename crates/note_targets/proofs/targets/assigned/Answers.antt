use Rattle.std.proofs.Common.{length, ap, ◌∙◌}
use Rattle.verse_tree.specs.View.{tree_of}
use Rattle.verse_meaning.specs.Programs.{program_of}
use Rattle.verse_meaning.specs.Evaluating as e
use Rattle.lower_code.specs.Arounds.{up, raised}
use Rattle.lower_code.specs.Lowering.{target_operands, has_base, keeps}
use Rattle.lower_lookup.specs.Members.{base_view}
use Rattle.lower_lookup.specs.Types.{differ_of}
use Rattle.lower_expr.specs.Locals.{scope_of}
use Rattle.note_stretches.specs.Noted.{noted}
use Rattle.note_parts.specs.Parts.{tree_walk}
use Rattle.note_targets.specs.Targets.{target_walk}
use Rattle.note_targets.proofs.Storing.{next_is, set_is, store_is}
use Rattle.note_targets.proofs.targets.assigned.Goals as goal

pub returns-clause-states : goal.returns-clause-states
returns-clause-states g c =
    let p = c.args.noter.now.tables.now.program.now in
    let sc = scope_of c.args.scopes.now in
    let a = c.args.around in
    let b = tree_of c.args.part.now in
    let v = tree_of c.args.value.now in
    let n = target_operands b in
    let is_base = c.base_of-base.ensures in
    let same = c.in_ok-part.ensures.scopes ∙ c.in_ok-beneath.ensures.scopes in
    set_is p c.args.assign b v sc a _ _ _ (noted c.args.noting.now) _ _ _
    c.in_ok-beneath.ensures.states c.in_ok-part.ensures.states c.in_ok-stored.ensures
    (ap (λ base. target_walk p b base sc a) is_base)
    (ap (λ s. tree_walk p v s c.in_ok-above.above) c.in_ok-beneath.ensures.scopes
    ∙ ap (tree_walk p v sc)
    (c.in_ok-above.ensures ∙ ap up (c.in_ok-raised.ensures ∙ ap (λ n. raised n a) c.in_ok-beneath.ensures.count)))
    (store_is p c.args.assign b v sc a _ _ _ _ _ _
    (c.in_ok-there.ensures (program_of p) (differ_of p)
    ∙ ap (has_base (program_of p) (differ_of p) b (base_view c.base_of-base.result)) same
    ∙ ap (λ base. has_base (program_of p) (differ_of p) b base sc) is_base)
    (c.keeps.ensures ∙ ap (keeps c.args.assign) (c.differ.ensures
    ∙ ap (λ m. differ_of p m c.number_of-2.result) c.number_of.ensures
    ∙ ap (differ_of p (e.number_of b)) c.number_of-2.ensures))
    (c.in_ok-count.ensures ∙ ap length same)
    (next_is _ _ _ c.in_ok-next.ensures c.in_ok-beneath.ensures.count) c.number_of-3.ensures c.number_of-4.ensures)
