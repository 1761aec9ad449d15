use Rattle.std.proofs.Common.{sym}
use Rattle.vm_run.proofs.Reaching.{begins_wholly, begins_over}
use Rattle.vm_run.proofs.stages.begin.Goals as goal

pub follow-requires-clause-whole : goal.follow-requires-clause-whole
follow-requires-clause-whole g c =
    let can = c.requires.can in
    begins_wholly g.W.Waits.pending c.args.code.now can.ns c.args.steps _ _ _ _ _ c.in-On.is
    (sym c.in-Some.ensures.value) can.left can.whole (c.in_ok-start_main.ensures can.ns can.inputs_are)

pub returns-in-Over : goal.returns-in-Over
returns-in-Over g c ns is =
    begins_over g.W.Waits.pending c.args.code.now ns c.args.steps _ _ _ _ _ _ _ c.in-Over.is
    (sym c.in-Some.ensures.value) c.requires.can.left (c.in_ok-start_main.ensures ns is) c.close.ensures
