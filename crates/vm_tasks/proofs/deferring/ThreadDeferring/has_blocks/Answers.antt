use Rattle.std.proofs.Common.{rules, ◌≡◌, length}
use Rattle.vm_tasks.proofs.Blocks.{looked_none, looked_some}
use Rattle.vm_tasks.proofs.deferring.ThreadDeferring.has_blocks.Goals as goal

pub returns-then-not-is_empty : goal.returns-then-not-is_empty
returns-then-not-is_empty c =
    looked_some c.args.self.now c.frames.at c.frame_defers.result.now (search rules) c.frames.invariant.0 c.frame_defers.ensures
    (λ none. (search rules)) c.frames.invariant.1

pub frames-preserved : goal.frames-preserved
frames-preserved c =
    let none : length c.frame_defers.result.now ≡ 0 = search rules in (
      search rules,
      looked_none c.args.self.now c.frames.at c.frame_defers.result.now (search rules) c.frames.invariant.0 c.frame_defers.ensures none
          c.frames.invariant.1,
    )
