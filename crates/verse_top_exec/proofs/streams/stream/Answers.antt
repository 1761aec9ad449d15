-- The run from the inputs.
use Rattle.std.proofs.Common.{refl}
use Rattle.verse_top_texts.specs.Streams.{nothing}
use Rattle.verse_top_exec.specs.declared.stops.Stop.TheVariants as stop
use Rattle.verse_top_exec.specs.Asking.{options_of}
use Rattle.verse_top_exec.specs.Courses.{course_of}
use Rattle.verse_top_exec.specs.Executions.{Runs, RunsSoFar}
use Rattle.verse_top_exec.specs.Leaving.{Leaves}
use Rattle.verse_top_exec.proofs.Leaving.{at_error, leaves_nothing}
use Rattle.verse_top_exec.proofs.streams.stream.Goals as goal

pub returns-in_err-vm-clause-leaves : goal.returns-in_err-vm-clause-leaves
returns-in_err-vm-clause-leaves g c =
    let o = options_of c.args.asked in
    let runs = Runs c.args.code.now o in
    let so_far = RunsSoFar c.args.code.now o in
    let faults = g.S.Sink.faults c.args.out.now in
    let taken = g.S.Sink.taken c.args.out.now in
    at_error c.from_residual.result (Leaves runs so_far faults faults taken taken) stop.Memory c.from_residual.ensures.1
    (leaves_nothing runs so_far faults faults taken taken nothing refl)

pub stream_on-requires-clause-begun : goal.stream_on-requires-clause-begun
stream_on-requires-clause-begun g c = (course_of (options_of c.args.asked), refl, c.in_ok-vm.ensures)

pub returns-clause-leaves : goal.returns-clause-leaves
returns-clause-leaves g c = c.stream_on.ensures.leaves (course_of (options_of c.args.asked)) refl refl c.in_ok-vm.ensures
