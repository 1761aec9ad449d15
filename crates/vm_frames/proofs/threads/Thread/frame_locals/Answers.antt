use Rattle.fiber.specs.Frames.{Frame}
use Rattle.vm_frames.proofs.Anywhere.{part_in, here}
use Rattle.vm_frames.proofs.threads.Thread.frame_locals.Goals as goal

pub frame_locals-requires : goal.frame_locals-requires
frame_locals-requires c = here _ _ _ _ c.self.view_is c.requires

pub returns : goal.returns
returns c = part_in (λ (f : Frame). f.locals) _ _ _ _ _ c.self.view_is c.frame_locals.ensures
