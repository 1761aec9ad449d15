use Rattle.std.proofs.Common.{arith}
use Rattle.vm_frames.proofs.Whole.{size_in}
use Rattle.vm_frames.proofs.threads.Thread.add_frame.Goals as goal

pub add_frame-requires : goal.add_frame-requires
add_frame-requires c =
    let size = size_in _ _ _ c.self.view_is in
    let few = c.requires in
    omega (arith, size, few)
