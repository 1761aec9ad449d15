use Rattle.fiber.specs.Frames.{Frame}
use Rattle.vm_frames.proofs.Anywhere.{part_in, here}
use Rattle.vm_frames.proofs.threads.Thread.frame_defers.Goals as goal

pub frame_defers-requires : goal.frame_defers-requires
frame_defers-requires c = here _ _ _ _ c.self.view_is c.requires

pub returns : goal.returns
returns c = part_in (λ (f : Frame). f.defers) _ _ _ _ _ c.self.view_is c.frame_defers.ensures
