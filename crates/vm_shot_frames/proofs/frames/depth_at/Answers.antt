use Rattle.std.proofs.Common.{◌≡◌, ◌<◌, ◌≤◌, ◌-◌, ap, ◌∙◌, arith, rules}
use Rattle.std.specs.Prelude.{pred}
use Rattle.vm_shot_frames.proofs.Looking.{one_before, one_later, depth_over, depth_is, pred_is}
use Rattle.vm_shot_frames.proofs.frames.depth_at.Goals as goal

pub frames-preserved-then-number-frame_born : goal.frames-preserved-then-number-frame_born
frames-preserved-then-number-frame_born c =
    let some : 0 < c.frames.at = search rules in
    let low : c.args.number < c.frame_born.result = search rules in
    let most = c.frames.invariant.0 in
    let sum = c.frames.invariant.1 in (
      omega (arith, most),
      omega (arith, some, sum),
      one_before c.args.number c.args.thread.now c.frames.at c.frame_born.result some most c.frame_born.ensures c.frames.before low
          c.frames.invariant.2,
    )

pub frames-preserved : goal.frames-preserved
frames-preserved c =
    let some : 0 < c.frames.at = search rules in
    let high : c.frame_born.result ≤ c.args.number = search rules in
    let most = c.frames.invariant.0 in
    let sum = c.frames.invariant.1 in (
      omega (arith, most),
      omega (arith, some, sum),
      one_later c.args.number c.args.thread.now c.frames.at c.frame_born.result some most c.frame_born.ensures c.frames.before high
          c.frames.invariant.2,
    )

pub returns : goal.returns
returns c =
    let none : c.frames.at ≡ 0 = search rules in
    let less : c.saturating_sub.result ≡ c.frames.before - 1 = search rules in
    less ∙
    (pred_is c.frames.before ∙
    (ap pred (depth_over c.args.number c.args.thread.now c.frames.at c.frames.before none c.frames.invariant.2) ∙
    depth_is c.args.number c.args.thread.now))
