use Rattle.std.proofs.Common.{◌<◌, length, ◌∙◌, rules}
use Rattle.sim_clock.proofs.Making.{allowed_next, left_next, made_next}
use Rattle.sim_clock.proofs.calls.run.Goals as goal

pub calls-preserved : goal.calls-preserved
calls-preserved g c =
    let pending = g.W.Waits.pending in
    let calls = c.args.calls.now in
    let within : c.calls.call-index < length calls = search rules in
    let goes = c.in_ok-apply.ensures.ok in
    record {
      allowed = allowed_next calls _ _ within _ _ goes c.calls.invariant.allowed;
      left = left_next calls _ _ within _ _ goes ∙ c.calls.invariant.left;
      made = made_next calls _ _ within _ _ goes (pending c.args.waits.now) c.calls.invariant.made;
    }
