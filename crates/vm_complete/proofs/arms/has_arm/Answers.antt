use Rattle.std.proofs.Common.{map, is_some, sym, ap, ◌∙◌}
use Rattle.vm_tasks.specs.View.{part_of}
use Rattle.vm_complete.specs.Arms.{run_at, has_run}
use Rattle.vm_complete.proofs.Runs.{is_there}
use Rattle.vm_complete.proofs.arms.has_arm.Goals as goal

pub returns-in-AtGroup : goal.returns-in-AtGroup
returns-in-AtGroup c =
    c.is_some.ensures ∙
    (ap (λ z. is_some z) (c.run_at.ensures ∙ ap (λ z. run_at c.args.number 0 (map part_of z)) c.as_slice.ensures.value) ∙
    (is_there c.args.number (map part_of c.in-AtGroup.group.arms.items) ∙ sym (ap (λ h. has_run c.args.number h) c.in-AtGroup.is)))
