use Rattle.std.proofs.Common.{reverse, sym, ◌∙◌}
use Rattle.std.proofs.lemmas.List.{reverse-reverse}
use Rattle.verse_value.specs.View.{vals_of}
use Rattle.vm_frames.specs.Calls.{framed_at}
use Rattle.vm_shot_frames.proofs.Looking.{frame_made, stack_turned}
use Rattle.vm_shot_frames.proofs.frames.frame_shot.Goals as goal

pub returns : goal.returns
returns c =
    frame_made (framed_at c.args.i c.args.thread.now) c.args.arms c.frame_place.result (vals_of c.frame_locals.result.now)
    (vals_of (reverse c.frame_stack.result.now)) (reverse c.frame_defers.result.now) _ c.frame_place.ensures c.frame_locals.ensures
    c.frame_stack.ensures c.frame_defers.ensures c.operation_before-place.ensures c.in_ok-locals.ensures
    (c.in_ok-stack.ensures ∙ sym (stack_turned c.frame_stack.result.now))
    (c.in_ok-defers.ensures.items ∙ sym (reverse-reverse c.frame_defers.result.now))
