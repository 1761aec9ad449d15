-- What is told of the load is written at once.
use Rattle.std.proofs.Common.{refl}
use Rattle.verse_top_exec.specs.declared.stops.Stop.TheVariants as stop
use Rattle.verse_top_exec.specs.Executions.{IsNothing}
use Rattle.verse_top_exec.specs.Leaving.{Leaves}
use Rattle.verse_top_exec.proofs.Leaving.{at_error, leaves_as, leaves_nothing}
use Rattle.verse_top.specs.Answers.{IsAnswer, Loads}
use Rattle.verse_top.proofs.loads.load.Goals as goal

pub returns-in_err-answer-clause-leaves : goal.returns-in_err-answer-clause-leaves
returns-in_err-answer-clause-leaves g c =
    let whole = Loads c.args.functions in
    let faults = g.S.Sink.faults c.args.out.now in
    let taken = g.S.Sink.taken c.args.out.now in
    at_error c.from_residual.result (Leaves whole IsNothing faults faults taken taken) stop.Memory c.from_residual.ensures.1
    (leaves_nothing whole IsNothing faults faults taken taken refl refl)

pub returns-clause-leaves : goal.returns-clause-leaves
returns-clause-leaves g c =
    let answer = c.in_ok-answer.answer in
    leaves_as (IsAnswer answer.status answer.text.items) (Loads c.args.functions) IsNothing IsNothing
    (g.S.Sink.faults c.args.out.now) (g.S.Sink.faults c.write_answer.new.out) (g.S.Sink.taken c.args.out.now)
    (g.S.Sink.taken c.write_answer.new.out) c.write_answer.result (λ s t m. rw (m.0, m.1) c.in_ok-answer.ensures) (λ t m. m)
    c.write_answer.ensures.leaves
