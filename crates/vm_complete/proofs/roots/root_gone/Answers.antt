use Rattle.vm_complete.proofs.Above.{spawner_frames, spawner_goes_at, beginner_stuck_at, brancher_stuck_at}
use Rattle.vm_complete.proofs.roots.root_gone.Goals as goal

pub resume-requires : goal.resume-requires
resume-requires g c = spawner_frames g.W.Waits.pending c.args.up c.in-Spawning.id c.in-Spawning.thread c.in-Spawning.entry _ _
    c.in-Spawning.is c.requires

pub returns-in-Spawning : goal.returns-in-Spawning
returns-in-Spawning g c = spawner_goes_at g.W.Waits.pending c.resume.result c.args.up c.in-Spawning.id c.in-Spawning.thread
    c.in-Spawning.entry _ _ _ _ c.in-Spawning.is c.resume.ensures

pub returns-in-Begins : goal.returns-in-Begins
returns-in-Begins g c = beginner_stuck_at g.W.Waits.pending c.args.up _ _ _ _ c.in-Begins.is

pub returns : goal.returns
returns g c = brancher_stuck_at g.W.Waits.pending c.args.up _ _ _ _ _ c.in-Branching.is
