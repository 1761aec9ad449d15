use Rattle.std.proofs.Common.{[]}
use Rattle.run_save_shots.specs.Spelling.{state, trees}
use Rattle.run_save_shots.specs.View.{shot_of}
use Rattle.vm_running.specs.Runners.{view_of}
use Rattle.vm_resume.proofs.Resuming.{rested, resumable}
use Rattle.vm_resume.proofs.machines.from_shot.Goals as goal

pub returns : goal.returns
returns g c =
    c.from_parts.ensures (state (shot_of c.args.shot)) (trees c.args.code.now (shot_of c.args.shot)) []
    (rested g.W.Waits.pending (state (shot_of c.args.shot)) (trees c.args.code.now (shot_of c.args.shot))
    (view_of g.H.Heap.state c.in_ok-run.run') c.in_ok-run.tasks c.in_ok-run.ensures)
    (resumable c.args.code.now (shot_of c.args.shot)
    (c.fitting_is_resumable.ensures c.args.code.now (shot_of c.args.shot) c.requires.fits))
