-- The run from the state that is spelled.
use Rattle.std.proofs.Common.{refl}
use Rattle.run_save_shots.specs.View.{shot_of}
use Rattle.verse_top_texts.specs.Streams.{nothing}
use Rattle.verse_top_exec.specs.declared.stops.Stop.TheVariants as stop
use Rattle.verse_top_exec.specs.Courses.{Comes, ComesSoFar}
use Rattle.verse_top_exec.specs.Leaving.{Leaves}
use Rattle.verse_top_exec.proofs.Leaving.{at_error, leaves_nothing}
use Rattle.verse_top_resume.specs.Resuming.{course_from}
use Rattle.verse_top_resume.proofs.runs.go_on.Goals as goal

pub returns-in_err-vm-clause-leaves : goal.returns-in_err-vm-clause-leaves
returns-in_err-vm-clause-leaves g c =
    let code = c.args.code.now in
    let w = course_from code (shot_of c.args.shot) c.args.until c.args.lines in
    let faults = g.S.Sink.faults c.args.out.now in
    let taken = g.S.Sink.taken c.args.out.now in
    at_error c.from_residual.result (Leaves (Comes code w) (ComesSoFar code w) faults faults taken taken) stop.Memory
    c.from_residual.ensures.1
    (leaves_nothing (Comes code w) (ComesSoFar code w) faults faults taken taken nothing refl)

pub stream_on-requires-clause-begun : goal.stream_on-requires-clause-begun
stream_on-requires-clause-begun g c =
    (course_from c.args.code.now (shot_of c.args.shot) c.args.until c.args.lines, refl, c.in_ok-vm.ensures)

pub returns-clause-leaves : goal.returns-clause-leaves
returns-clause-leaves g c =
    c.stream_on.ensures.leaves (course_from c.args.code.now (shot_of c.args.shot) c.args.until c.args.lines) refl refl c.in_ok-vm.ensures
