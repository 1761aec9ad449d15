use Rattle.std.proofs.Common.{◌≡◌, false, map, is_some, sym, ap, subst, ◌∙◌, rules}
use Rattle.verse_value.specs.View.{val_of, vals_of}
use Rattle.verse_value.specs.Operations.{tuple_of}
use Rattle.verse_code_machine.specs.Ends.{all_did}
use Rattle.vm_ops.specs.Answers.{IsAnswerOrMemory}
use Rattle.vm_tasks.specs.View.{part_of}
use Rattle.vm_group.proofs.Settling.{settles_not_all, tuple_ok}
use Rattle.vm_group.proofs.Downs.{task_runs}
use Rattle.vm_group.proofs.groups.settle_sync.Goals as goal

pub returns-then-not-all_gave-clause-settles : goal.returns-then-not-all_gave-clause-settles
returns-then-not-all_gave-clause-settles g c =
    let not_so : c.all_gave.result ≡ false = search rules in
    settles_not_all g.W.Waits.pending c.args.begins _ _ _ _ c.requires.kind
    (sym (c.all_gave.ensures ∙ ap (λ z. is_some (all_did (map part_of z))) c.as_slice.ensures.value) ∙ not_so) c.stand.ensures.stands

pub returns-in-Ok-clause-settles : goal.returns-in-Ok-clause-settles
returns-in-Ok-clause-settles g c =
    tuple_ok g.W.Waits.pending c.resume.result c.args.begins (vals_of c.in_ok-values.values.items)
    (val_of c.in-Ok.value) _ _ _ _ c.requires.kind c.in_ok-values.ensures
    (subst (λ z. IsAnswerOrMemory (tuple_of (vals_of c.in_ok-values.values.items)) z) c.in-Ok.is c.op_tuple.ensures.answers)
    c.is_nested.ensures c.resume.ensures

pub returns-in-Ok-clause-above : goal.returns-in-Ok-clause-above
returns-in-Ok-clause-above g c = task_runs g.W.Waits.pending c.resume.result _ c.args.begins
    (val_of c.in-Ok.value) _ _ _ _ c.is_nested.ensures c.requires.hand c.resume.ensures
