use Rattle.fiber.specs.Frames.{Frame}
use Rattle.vm_frames.proofs.Anywhere.{part_in, here}
use Rattle.vm_frames.proofs.threads.Thread.frame_stack.Goals as goal

pub frame_stack-requires : goal.frame_stack-requires
frame_stack-requires c = here _ _ _ _ c.self.view_is c.requires

pub returns : goal.returns
returns c = part_in (λ (f : Frame). f.stack) _ _ _ _ _ c.self.view_is c.frame_stack.ensures
