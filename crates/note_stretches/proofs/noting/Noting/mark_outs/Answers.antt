use Rattle.note_states.specs.View.{standing_of}
use Rattle.note_stretches.specs.Noted.{noted}
use Rattle.note_stretches.proofs.Steps.{out_next, out_last}
use Rattle.note_stretches.proofs.noting.Noting.mark_outs.Goals as goal

pub drops-preserved : goal.drops-preserved
drops-preserved c =
    out_next c.drops.height (standing_of c.args.before.now) (noted c.drops.self) _ _ c.drops-test.true
    c.in_ok-mark_out.ensures c.drops.invariant

pub returns : goal.returns
returns c =
    out_last c.drops.height (standing_of c.args.before.now) (noted c.drops.self) _ _ c.drops-test.false
    c.in_ok-mark_out-2.ensures c.drops.invariant
