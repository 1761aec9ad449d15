use Rattle.vm_suspend.proofs.Above.{group_above, group_up, branch_some, branch_up, branch_over, spawn_some, spawn_up, spawn_over}
use Rattle.vm_suspend.proofs.idle.go_up.Goals as goal

pub go_arms-requires : goal.go_arms-requires
go_arms-requires g c = group_above g.W.Waits.pending c.args.up c.in-Begins.begins _ _ c.in-Begins.is c.requires

pub returns-in-Begins-clause-goes : goal.returns-in-Begins-clause-goes
returns-in-Begins-clause-goes g c = group_up g.W.Waits.pending c.go_arms.result c.args.up c.in-Begins.begins _ _ _ _ c.in-Begins.is
    c.go_arms.ensures.goes

pub resume-requires : goal.resume-requires
resume-requires g c = branch_some g.W.Waits.pending c.args.up c.in-Branching.id c.in-Branching.thread _ _ c.in-Branching.is c.requires

pub returns-in-Branching-clause-goes : goal.returns-in-Branching-clause-goes
returns-in-Branching-clause-goes g c = branch_up g.W.Waits.pending c.resume.result c.args.up c.in-Branching.id c.in-Branching.thread _ _ _ _
    c.in-Branching.is c.resume.ensures

pub returns-in-Branching-clause-above : goal.returns-in-Branching-clause-above
returns-in-Branching-clause-above g c = branch_over g.W.Waits.pending c.resume.result _ c.args.up c.in-Branching.id c.in-Branching.thread _
    _ _ _ c.in-Branching.is c.requires c.resume.ensures

pub resume-requires-in-Spawning : goal.resume-requires-in-Spawning
resume-requires-in-Spawning g c = spawn_some g.W.Waits.pending c.args.up c.in-Spawning.id c.in-Spawning.thread c.in-Spawning.entry _ _
    c.in-Spawning.is c.requires

pub returns-in-Spawning-clause-goes : goal.returns-in-Spawning-clause-goes
returns-in-Spawning-clause-goes g c =
    spawn_up g.W.Waits.pending c.resume-in-Spawning.result c.args.up c.in-Spawning.id c.in-Spawning.thread c.in-Spawning.entry _ _ _ _
    c.in-Spawning.is c.resume-in-Spawning.ensures

pub returns-in-Spawning-clause-above : goal.returns-in-Spawning-clause-above
returns-in-Spawning-clause-above g c =
    spawn_over g.W.Waits.pending c.resume-in-Spawning.result _ c.args.up c.in-Spawning.id c.in-Spawning.thread c.in-Spawning.entry _ _ _ _
    c.in-Spawning.is c.requires c.resume-in-Spawning.ensures
