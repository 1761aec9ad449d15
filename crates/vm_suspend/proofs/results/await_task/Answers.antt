use Rattle.std.proofs.Common.{Some, ap, ◌∙◌}
use Rattle.verse_meaning_state.specs.Waits.{nth}
use Rattle.vm_suspend.proofs.Giving.{none_of, unset_of, await_sticks, await_suspends, gone_on, frames_some}
use Rattle.vm_suspend.proofs.results.await_task.Goals as goal

pub returns-in-None : goal.returns-in-None
returns-in-None g c =
    await_sticks g.W.Waits.pending c.args.entry _ c.args.tasks.now
    (none_of c.in_ok-known.known (nth c.args.tasks.now.results.items c.args.entry) c.in-None.is c.in_ok-known.ensures)

pub suspend-requires-clause-untold : goal.suspend-requires-clause-untold
suspend-requires-clause-untold g c = unset_of c.in_ok-known.known (nth c.args.tasks.now.results.items c.args.entry)
    (c.in-Some-None.is ∙ ap (λ o. Some o) c.in-Some-None.field-0-is) c.in_ok-known.ensures

pub returns-in-Some-None : goal.returns-in-Some-None
returns-in-Some-None g c =
    await_suspends g.W.Waits.pending c.suspend.result c.args.entry _ _ c.args.tasks.now _
    (unset_of c.in_ok-known.known (nth c.args.tasks.now.results.items c.args.entry)
    (c.in-Some-None.is ∙ ap (λ o. Some o) c.in-Some-None.field-0-is) c.in_ok-known.ensures) c.suspend.ensures

pub resume-requires : goal.resume-requires
resume-requires g c = frames_some g.W.Waits.pending _ c.args.tasks.now _ c.requires.there c.replace-thread.ensures.value

pub returns-in-Some-Some : goal.returns-in-Some-Some
returns-in-Some-Some g c =
    gone_on g.W.Waits.pending c.resume.result c.args.entry c.in_ok-known.known c.in-Some-Some.value _ _ c.args.tasks.now _ _ _
    (c.in-Some-Some.is ∙ ap (λ o. Some o) c.in-Some-Some.field-0-is) c.in_ok-known.ensures c.requires.free
    c.replace-thread.ensures.value (c.replace-thread.ensures.after ∙ c.empty.ensures) c.resume.ensures
