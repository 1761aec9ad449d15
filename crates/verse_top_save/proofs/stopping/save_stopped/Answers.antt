-- What is kept of the run is its shot.
use Rattle.std.proofs.Common.{◌≡◌, ◌≤◌, Err, IsErrOf, refl, sym, subst, ◌∙◌, rules}
use Rattle.run_save_shots.specs.View.{shot_of}
use Rattle.verse_value.specs.declared.runs.Ending.TheVariants as ending
use Rattle.vm_run.specs.Origins.{from_inputs}
use Rattle.vm_run.specs.Standing.{stands}
use Rattle.vm_run.specs.declared.saving.ShotFault.TheVariants as fault
use Rattle.verse_top_exec.specs.declared.stops.Stop.TheVariants as stop
use Rattle.verse_top_exec.specs.Courses.{course_of}
use Rattle.verse_top_exec.specs.Executions.{run_with}
use Rattle.verse_top_exec.specs.Leaving.{Leaves}
use Rattle.verse_top_exec.proofs.InsideRuns.{live_is}
use Rattle.verse_top_exec.proofs.Leaving.{at_error}
use Rattle.verse_top_exec.proofs.TurnLemmas.{counts_of}
use Rattle.verse_top_save.specs.Saving.{SavesRun, SavesRunSoFar, saved_line, without_heap}
use Rattle.verse_top_save.proofs.Stops.{leaves_saved, leaves_trace, line_same}
use Rattle.verse_top_save.proofs.stopping.save_stopped.Goals as goal

pub returns-in_err-line-clause-leaves : goal.returns-in_err-line-clause-leaves
returns-in_err-line-clause-leaves g c o before old low ended =
    let at = g.S.Sink.faults c.args.out.now in
    let mid = g.S.Sink.taken c.args.out.now in
    at_error c.from_residual.result (Leaves (SavesRun c.args.code.now o) (SavesRunSoFar c.args.code.now o) before at old mid) stop.Memory
    c.from_residual.ensures.1
    (leaves_trace c.args.code.now o before at at old mid mid low ended.taken refl)

pub shot-requires-clause-belongs : goal.shot-requires-clause-belongs
shot-requires-clause-belongs g c =
    let o = c.requires.ended.0 in
    let e = c.requires.ended.2 in
    stands (from_inputs o.inputs) o.steps o.until e.calls e.past e.at

pub write_saved-requires-clause-fits : goal.write_saved-requires-clause-fits
write_saved-requires-clause-fits g c =
    let o = c.requires.ended.0 in
    let e = c.requires.ended.2 in
    (c.in-Ok.ensures.kept (from_inputs o.inputs) o.steps o.until e.calls e.past tt e.at).shown.fits

pub returns-in-Ok-clause-leaves : goal.returns-in-Ok-clause-leaves
returns-in-Ok-clause-leaves g c o before old low ended =
    let state = g.H.Heap.state in
    let pending = g.W.Waits.pending in
    let code = c.args.code.now in
    let w = course_of (without_heap o) in
    let at = g.S.Sink.faults c.args.out.now in
    let mid = g.S.Sink.taken c.args.out.now in
    let shot = c.in-Ok.ensures.kept (from_inputs o.inputs) o.steps o.until ended.calls ended.past tt ended.at in
    let live = live_is code w c.live.result (c.runs_hold.ensures code w.origin w.steps w.until c.requires.valid ended.at.bound.can)
    (counts_of state pending c.args.vm.now (run_with code o).live c.live.result c.live.ensures ended.shown.live) in
    let line : c.as_slice.result.now ≡ saved_line (run_with code o) =
    c.as_slice.ensures.value ∙ c.in_ok-line.ensures ∙
    line_same (run_with code o) c.now.result c.steps.result c.live.result ended.ending (c.now.ensures ∙ sym ended.shown.moment)
    (c.steps.ensures ∙ sym ended.shown.steps) live in
    leaves_saved code o before at (g.S.Sink.faults c.write_saved.new.out) old mid (g.S.Sink.taken c.write_saved.new.out) low ended.taken
    (shot_of c.in-Ok.shot) c.as_slice.result.now c.write_saved.result shot line c.write_saved.ensures.leaves

pub returns-in-Err-Memory-clause-leaves : goal.returns-in-Err-Memory-clause-leaves
returns-in-Err-Memory-clause-leaves g c o before old low ended =
    let at = g.S.Sink.faults c.args.out.now in
    let mid = g.S.Sink.taken c.args.out.now in
    leaves_trace c.args.code.now o before at at old mid mid low ended.taken refl

pub unreachable-requires : goal.unreachable-requires
unreachable-requires g c =
    let is : c.shot.result ≡ Err fault.NotStopped = search rules in
    c.shot.ensures.not_stopped (subst (λ r. IsErrOf r fault.NotStopped) (sym is) refl) c.requires.ended.2.over
