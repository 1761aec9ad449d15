use Rattle.vm_running.specs.Runners.{view_of}
use Rattle.vm_shot.proofs.Parts.{spelled}
use Rattle.vm_shot.proofs.parts_spell.Goals as goal

pub returns : goal.returns
returns g c x parts a trees resting apart =
    spelled g.W.Waits.pending x (view_of g.H.Heap.state c.args.run.now) c.args.tasks.now c.is_nested.ensures parts a trees resting apart
