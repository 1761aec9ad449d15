use Rattle.std.proofs.lemmas.Result.{IfOk-weaker}
use Rattle.vm_run.proofs.Reaching.{turns_wholly, turns_on, turns_over, turns_not_down}
use Rattle.vm_run.proofs.stages.go.Goals as goal

pub follow-requires-clause-whole : goal.follow-requires-clause-whole
follow-requires-clause-whole g c = turns_wholly g.W.Waits.pending c.args.code.now c.args.bounds.steps c.args.bounds.until _ _ _ _ _
    c.in-On.is c.requires.can c.in_ok-take_turn.ensures

pub unreachable-requires : goal.unreachable-requires
unreachable-requires g c = turns_not_down g.W.Waits.pending c.args.code.now c.args.bounds.steps c.args.bounds.until _ _ _ _ _ c.in-Down.is
    c.requires.can c.in_ok-take_turn.ensures

pub returns-in-On : goal.returns-in-On
returns-in-On g c =
    IfOk-weaker c.follow.result _ _
    (λ p h. turns_on g.W.Waits.pending c.args.code.now c.args.bounds.steps c.args.bounds.until _ p _ _ _ _ _ _
    c.in-On.is c.in_ok-take_turn.ensures h) c.follow.ensures

pub returns-in-Over : goal.returns-in-Over
returns-in-Over g c = turns_over g.W.Waits.pending c.args.code.now c.args.bounds.steps c.args.bounds.until _ _ _ _ _ _ c.in-Over.is
    c.in_ok-take_turn.ensures
