use Rattle.std.proofs.Common.{sym, ◌∙◌}
use Rattle.vm_cancel.proofs.Blocks.{gone_at, left_at, goes_at}
use Rattle.vm_cancel.proofs.frames.clear_frames.Goals as goal

pub returns-in-Some-true : goal.returns-in-Some-true
returns-in-Some-true g c =
    c.frames.invariant.1 _ _ (gone_at c.frames.thread c.leave.new.self _ c.in-Some-true.field-0 c.in-Some-true.field-0-test
    c.frames.invariant.0 (sym c.defers.ensures ∙ c.frames-test.true) c.in-Some-true.ensures.some)

pub frames-preserved : goal.frames-preserved
frames-preserved g c = (
  left_at c.frames.thread c.leave.new.self c.in-Some-false.field-0 c.in-Some-false.field-0-test c.frames.invariant.0
      c.in-Some-false.ensures.some,
  λ r u more. c.frames.invariant.1 r u (goes_at c.frames.thread c.leave.new.self r _ u c.in-Some-false.field-0 c.in-Some-false.field-0-test
      c.frames.invariant.0 (sym c.defers.ensures ∙ c.frames-test.true) c.in-Some-false.ensures.some more),
)
