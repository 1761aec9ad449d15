use Rattle.std.proofs.Common.{◌∙◌}
use Rattle.vm_frames.proofs.Whole.{guards_in}
use Rattle.vm_frames.proofs.threads.Thread.is_guarded.Goals as goal

pub returns : goal.returns
returns c = c.guarded.ensures ∙ guards_in _ _ _ c.self.view_is
