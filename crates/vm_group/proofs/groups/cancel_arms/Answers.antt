use Rattle.std.proofs.Common.{Some, sym, ap, ◌∙◌}
use Rattle.std.specs.Option.{option_copied}
use Rattle.vm_running.specs.Runners.{view_of}
use Rattle.vm_group.proofs.Racing.{group_live, live_none, began_of, arms_unguarded, race_runs, race_resumes, resumes_as}
use Rattle.vm_group.proofs.groups.cancel_arms.Goals as goal

pub unreachable-requires : goal.unreachable-requires
unreachable-requires g c =
    live_none c.args.id c.args.tasks.now.tree (group_live g.W.Waits.pending c.args.id c.args.thread _ _ c.is_nested.ensures c.requires)
    (sym (ap (λ o. option_copied o) c.in-None.is) ∙ c.get.ensures)

pub run_blocks-requires-clause-unguarded : goal.run_blocks-requires-clause-unguarded
run_blocks-requires-clause-unguarded g c =
    arms_unguarded g.W.Waits.pending c.args.id c.in-Some.slot.now.since c.args.thread _ c.args.tasks.now _
    (began_of g.W.Waits.pending c.args.id c.in-Some.slot.now c.args.tasks.now (sym (ap (λ o. option_copied o) c.in-Some.is) ∙
    c.get.ensures)) c.requires
    c.in_ok-cancel.ensures.ok

pub returns-in_default : goal.returns-in_default
returns-in_default g c =
    race_runs g.W.Waits.pending c.args.id c.in-Some.slot.now.since c.args.thread c.args.value _ c.args.tasks.now _
    (began_of g.W.Waits.pending c.args.id c.in-Some.slot.now c.args.tasks.now (sym (ap (λ o. option_copied o) c.in-Some.is) ∙
    c.get.ensures)) c.is_nested-2.ensures
    c.in_ok-cancel.ensures.ok _ _ _ c.in_default.not-Down c.run_blocks.ensures.blocks

pub returns : goal.returns
returns g c =
    race_resumes g.W.Waits.pending c.args.id c.in-Some.slot.now.since c.args.thread c.args.value
    (view_of g.H.Heap.state c.args.run.now) c.args.tasks.now c.cancel.new.tasks
    (began_of g.W.Waits.pending c.args.id c.in-Some.slot.now c.args.tasks.now (sym (ap (λ o. option_copied o) c.in-Some.is) ∙
    c.get.ensures)) c.is_nested-2.ensures c.in_ok-cancel.ensures.ok c.resume.result c.run_blocks.result
    (view_of g.H.Heap.state c.run_blocks.new.run) _
    c.run_blocks.new.tasks _ _ c.in-Down.is c.run_blocks.ensures.blocks
    (ap (λ o. record c.run_blocks.new.tasks { after = o }) c.take.ensures.after)
    (resumes_as g.W.Waits.pending c.resume.result c.args.id c.args.thread c.in-Some-Resuming.thread c.args.value c.in-Some-Resuming.value _
    _ _ _
    (ap (λ a. Some a) (sym c.in-Some-Resuming.field-0-is) ∙
    (sym c.in-Some-Resuming.is ∙ (c.take.ensures.value ∙ c.run_blocks.ensures.after))) c.resume.ensures)
