use Rattle.verse_value.specs.View.{val_of}
use Rattle.vm_complete.proofs.Above.{some_frames, arm_hand_at, arm_goes_at, branch_goes_at, spawner_stuck_at}
use Rattle.vm_complete.proofs.parts.part_gone.Goals as goal

pub arm_ends_on-requires : goal.arm_ends_on-requires
arm_ends_on-requires g c = arm_hand_at g.W.Waits.pending c.args.up c.in-Begins.begins c.push.new.self c.args.value _ _ c.in-Begins.is
    c.in_ok-push-in-Begins.ensures.items c.requires

pub returns-in-Begins : goal.returns-in-Begins
returns-in-Begins g c = arm_goes_at g.W.Waits.pending c.arm_ends_on.result c.args.up c.in-Begins.begins c.push.new.self c.args.value _ _ _ _
    c.in-Begins.is c.in_ok-push-in-Begins.ensures.items c.arm_ends_on.ensures

pub resume-requires : goal.resume-requires
resume-requires g c = some_frames g.W.Waits.pending c.args.up c.in-Branching.id c.in-Branching.thread _ _ c.in-Branching.is c.requires

pub returns-in-Branching : goal.returns-in-Branching
returns-in-Branching g c = branch_goes_at g.W.Waits.pending c.resume.result c.args.up c.in-Branching.id c.in-Branching.thread
    (val_of c.args.value) _ _ _ _ c.in-Branching.is c.resume.ensures

pub returns : goal.returns
returns g c = spawner_stuck_at g.W.Waits.pending c.args.up _ _ _ (val_of c.args.value) _ _ _ c.in-Spawning.is
