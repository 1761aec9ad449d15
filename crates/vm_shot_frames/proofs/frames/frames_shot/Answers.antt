use Rattle.std.proofs.Common.{◌≡◌, rules}
use Rattle.vm_shot_frames.specs.Frames.{from_top}
use Rattle.vm_shot_frames.proofs.Looking.{frames_step, frames_over}
use Rattle.vm_shot_frames.proofs.frames.frames_shot.Goals as goal

pub frames-preserved : goal.frames-preserved
frames-preserved c = (
  search rules,
  frames_step c.args.thread.now c.frames.at c.frames.behind c.frames.frames.items _ (from_top c.args.arms c.args.thread.now)
      c.in_ok-frame.frame (search rules) c.frames.invariant.0 c.in_ok-frame.ensures (search rules) c.frames.invariant.1,
)

pub returns : goal.returns
returns c =
    let none : c.frames.at ≡ 0 = search rules in
    frames_over c.args.thread.now c.frames.at c.args.arms c.frames.behind c.frames.frames.items _ none c.reverse.ensures.items
    c.frames.invariant.1
