use Rattle.fiber.specs.Frames.{Frame}
use Rattle.vm_frames.proofs.Anywhere.{part_in, here}
use Rattle.vm_frames.proofs.threads.Thread.frame_place.Goals as goal

pub frame_place-requires : goal.frame_place-requires
frame_place-requires c = here _ _ _ _ c.self.view_is c.requires

pub returns : goal.returns
returns c = part_in (λ (f : Frame). f.place) _ _ _ _ _ c.self.view_is c.frame_place.ensures
