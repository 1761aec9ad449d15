-- One case for each command over a program.
use Rattle.std.proofs.Common.{map, string_bytes, refl, subst}
use Rattle.verse_top_args.specs.Requests.{AsksFor}
use Rattle.verse_top_args.specs.declared.commands.Request.{Request}
use Rattle.verse_top_exec.specs.declared.stops.Stop.TheVariants as stop
use Rattle.verse_top_exec.specs.Leaving.{Leaves}
use Rattle.verse_top_exec.proofs.Leaving.{at_error, leaves_nothing}
use Rattle.verse_top.specs.Answers.{Answers, Begins, nothing}
use Rattle.verse_top.proofs.ProgramLaws.{leaves_built, leaves_checked, leaves_noted, leaves_ran}
use Rattle.verse_top.proofs.programs.proceed.Goals as goal

pub returns-in_err-answer-in-Check-clause-leaves : goal.returns-in_err-answer-in-Check-clause-leaves
returns-in_err-answer-in-Check-clause-leaves g c held d files asks loaded accepted =
    let faults = g.S.Sink.faults c.args.out.now in
    let taken = g.S.Sink.taken c.args.out.now in
    at_error c.from_residual.result (Leaves (Answers held d) (Begins held d) faults faults taken taken) stop.Memory
    c.from_residual.ensures.1
    (leaves_nothing (Answers held d) (Begins held d) faults faults taken taken (nothing d) refl)

pub returns-in-Run-clause-leaves : goal.returns-in-Run-clause-leaves
returns-in-Run-clause-leaves g c held d files asks loaded accepted =
    let a = subst (λ (q : Request). AsksFor q d) c.in-Run.is asks in
    leaves_ran (g.S.Sink.faults c.args.out.now) (g.S.Sink.faults c.run.new.out) (g.S.Sink.taken c.args.out.now)
    (g.S.Sink.taken c.run.new.out) c.run.result held files c.args.program accepted c.in-Run.running d a loaded
    (c.run.ensures.leaves a.ints a.lists)

pub returns-in_ok-answer-in-Check-clause-leaves : goal.returns-in_ok-answer-in-Check-clause-leaves
returns-in_ok-answer-in-Check-clause-leaves g c held d files asks loaded accepted =
    let answer = c.in_ok-answer-in-Check.answer in
    let told = c.in_ok-answer-in-Check.ensures in
    leaves_checked (g.S.Sink.faults c.args.out.now) (g.S.Sink.faults c.write_answer.new.out) (g.S.Sink.taken c.args.out.now)
    (g.S.Sink.taken c.write_answer.new.out) c.write_answer.result held files c.args.program accepted d
    (map string_bytes c.in-Check.field-0.now) answer.status answer.text.items
    (subst (λ (q : Request). AsksFor q d) c.in-Check.is asks) loaded told.0 told.1 c.write_answer.ensures.leaves

pub returns-in-Build-clause-leaves : goal.returns-in-Build-clause-leaves
returns-in-Build-clause-leaves g c held d files asks loaded accepted =
    leaves_built (g.S.Sink.faults c.args.out.now) (g.S.Sink.faults c.build.new.out) (g.S.Sink.taken c.args.out.now)
    (g.S.Sink.taken c.build.new.out) c.build.result held files c.args.program accepted d (map string_bytes c.in-Build.field-0.now)
    (subst (λ (q : Request). AsksFor q d) c.in-Build.is asks) loaded c.build.ensures.leaves

pub returns-in-Note-clause-leaves : goal.returns-in-Note-clause-leaves
returns-in-Note-clause-leaves g c held d files asks loaded accepted =
    leaves_noted (g.S.Sink.faults c.args.out.now) (g.S.Sink.faults c.note.new.out) (g.S.Sink.taken c.args.out.now)
    (g.S.Sink.taken c.note.new.out) c.note.result held files c.args.program accepted d (map string_bytes c.in-Note.field-0.now)
    (subst (λ (q : Request). AsksFor q d) c.in-Note.is asks) loaded c.note.ensures.leaves
