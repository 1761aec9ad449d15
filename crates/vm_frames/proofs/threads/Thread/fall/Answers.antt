use Rattle.vm_frames.proofs.Unwound.{fallen_in, falls}
use Rattle.vm_frames.proofs.threads.Thread.fall.Goals as goal

pub unreachable-requires : goal.unreachable-requires
unreachable-requires c = falls _ _ _ c.self.view_is c.requires c.in-None.ensures.none

pub returns : goal.returns
returns c = fallen_in _ _ _ _ _ c.self.view_is c.requires c.in-Some.ensures.some
