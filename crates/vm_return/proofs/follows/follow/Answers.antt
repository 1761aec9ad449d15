use Rattle.std.proofs.Common.{Some, sym, ap, ◌∙◌}
use Rattle.vm_return.proofs.Following.{never_none, frames_some, follows_resuming, part_at_end, follows_closing, root_at_end}
use Rattle.vm_return.proofs.Following.{follows_finishing}
use Rattle.vm_return.proofs.follows.follow.Goals as goal

pub resume-requires : goal.resume-requires
resume-requires g c =
    frames_some g.W.Waits.pending c.in-Some-Resuming.thread c.in-Some-Resuming.value _ c.args.tasks.now
    (sym c.take.ensures.value ∙ (c.in-Some-Resuming.is ∙ ap (λ a. Some a) c.in-Some-Resuming.field-0-is)) c.requires

pub returns-in-Some-Resuming : goal.returns-in-Some-Resuming
returns-in-Some-Resuming g c =
    follows_resuming g.W.Waits.pending c.resume.result c.in-Some-Resuming.thread c.in-Some-Resuming.value _ _ c.args.tasks.now _ _
    (sym c.take.ensures.value ∙ (c.in-Some-Resuming.is ∙ ap (λ a. Some a) c.in-Some-Resuming.field-0-is))
    (ap (λ o. record c.args.tasks.now { after = o }) c.take.ensures.after) c.resume.ensures

pub part_over-requires : goal.part_over-requires
part_over-requires g c =
    part_at_end g.W.Waits.pending c.in-Some-Closing.value _ c.args.tasks.now _
    (sym c.take.ensures.value ∙ (c.in-Some-Closing.is ∙ ap (λ a. Some a) c.in-Some-Closing.field-0-is))
    (ap (λ o. record c.args.tasks.now { after = o }) c.take.ensures.after) c.requires

pub returns-in-Some-Closing : goal.returns-in-Some-Closing
returns-in-Some-Closing g c =
    follows_closing g.W.Waits.pending c.part_over.result c.in-Some-Closing.value _ _ c.args.tasks.now _ _
    (sym c.take.ensures.value ∙ (c.in-Some-Closing.is ∙ ap (λ a. Some a) c.in-Some-Closing.field-0-is))
    (ap (λ o. record c.args.tasks.now { after = o }) c.take.ensures.after)
    c.part_over.ensures

pub root_over-requires : goal.root_over-requires
root_over-requires g c =
    root_at_end g.W.Waits.pending c.in-Some-Finishing.value _ c.args.tasks.now _
    (sym c.take.ensures.value ∙ (c.in-Some-Finishing.is ∙ ap (λ a. Some a) c.in-Some-Finishing.field-0-is))
    (ap (λ o. record c.args.tasks.now { after = o }) c.take.ensures.after) c.requires

pub returns-in-Some-Finishing : goal.returns-in-Some-Finishing
returns-in-Some-Finishing g c =
    follows_finishing g.W.Waits.pending c.root_over.result c.in-Some-Finishing.value _ _ c.args.tasks.now _ _
    (sym c.take.ensures.value ∙ (c.in-Some-Finishing.is ∙ ap (λ a. Some a) c.in-Some-Finishing.field-0-is))
    (ap (λ o. record c.args.tasks.now { after = o }) c.take.ensures.after)
    c.root_over.ensures

pub unreachable-requires : goal.unreachable-requires
unreachable-requires g c = never_none g.W.Waits.pending _ c.args.tasks.now c.requires (sym c.take.ensures.value ∙ c.in-None.is)
