use Rattle.std.proofs.Common.{◌∙◌}
use Rattle.vm_frames.proofs.Whole.{size_in}
use Rattle.vm_frames.proofs.threads.Thread.depth.Goals as goal

pub returns : goal.returns
returns c = c.depth.ensures ∙ size_in _ _ _ c.self.view_is
