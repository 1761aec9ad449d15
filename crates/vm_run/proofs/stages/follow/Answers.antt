use Rattle.vm_run.proofs.stages.follow.Goals as goal

pub unreachable-requires : goal.unreachable-requires
unreachable-requires g c = c.in_ok-carry.ensures.not_on c.in-On.is
