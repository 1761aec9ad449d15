-- One case for each command over one file.
use Rattle.std.proofs.Common.{map, string_bytes, refl, subst}
use Rattle.verse_top_args.specs.Requests.{AsksFor}
use Rattle.verse_top_args.specs.declared.commands.Request.{Request}
use Rattle.verse_top_exec.specs.declared.stops.Stop.TheVariants as stop
use Rattle.verse_top_exec.specs.Leaving.{Leaves}
use Rattle.verse_top_exec.proofs.Leaving.{at_error, leaves_nothing}
use Rattle.verse_top.specs.Answers.{Answers, Begins, nothing}
use Rattle.verse_top.proofs.ExecuteLaws.{leaves_assembled, leaves_executed, leaves_listed, leaves_resumed, leaves_saved}
use Rattle.verse_top.proofs.executing.over_bytes.Goals as goal

pub returns-in-Exec-clause-leaves : goal.returns-in-Exec-clause-leaves
returns-in-Exec-clause-leaves g c held d name asks named read =
    let a = subst (λ (q : Request). AsksFor q d) c.in-Exec.is asks in
    leaves_executed held (g.S.Sink.faults c.args.out.now) (g.S.Sink.faults c.run_image.new.out) (g.S.Sink.taken c.args.out.now)
    (g.S.Sink.taken c.run_image.new.out) c.run_image.result name c.args.bytes.now read c.in-Exec.running d a named
    (c.run_image.ensures.leaves a.ints a.lists)

pub returns-in-Save-clause-leaves : goal.returns-in-Save-clause-leaves
returns-in-Save-clause-leaves g c held d name asks named read =
    let a = subst (λ (q : Request). AsksFor q d) c.in-Save.is asks in
    leaves_saved held (g.S.Sink.faults c.args.out.now) (g.S.Sink.faults c.save_run.new.out) (g.S.Sink.taken c.args.out.now)
    (g.S.Sink.taken c.save_run.new.out) c.save_run.result name c.args.bytes.now read c.in-Save.running d a named
    (c.save_run.ensures.leaves a.ints a.lists)

pub returns-in-Resume-clause-leaves : goal.returns-in-Resume-clause-leaves
returns-in-Resume-clause-leaves g c held d name asks named read =
    let a = subst (λ (q : Request). AsksFor q d) c.in-Resume.is asks in
    leaves_resumed held (g.S.Sink.faults c.args.out.now) (g.S.Sink.faults c.resume_file.new.out) (g.S.Sink.taken c.args.out.now)
    (g.S.Sink.taken c.resume_file.new.out) c.resume_file.result name c.args.bytes.now read c.in-Resume.resuming d a named
    c.resume_file.ensures.leaves

pub returns-in_err-answer-in-List-clause-leaves : goal.returns-in_err-answer-in-List-clause-leaves
returns-in_err-answer-in-List-clause-leaves g c held d name asks named read =
    let faults = g.S.Sink.faults c.args.out.now in
    let taken = g.S.Sink.taken c.args.out.now in
    at_error c.from_residual.result (Leaves (Answers held d) (Begins held d) faults faults taken taken) stop.Memory
    c.from_residual.ensures.1
    (leaves_nothing (Answers held d) (Begins held d) faults faults taken taken (nothing d) refl)

pub returns-in_ok-answer-in-List-clause-leaves : goal.returns-in_ok-answer-in-List-clause-leaves
returns-in_ok-answer-in-List-clause-leaves g c held d name asks named read =
    let answer = c.in_ok-answer-in-List.answer in
    leaves_listed held (g.S.Sink.faults c.args.out.now) (g.S.Sink.faults c.write_answer.new.out) (g.S.Sink.taken c.args.out.now)
    (g.S.Sink.taken c.write_answer.new.out) c.write_answer.result name c.args.bytes.now read
    (map string_bytes c.in-List.field-0.now) d answer.status answer.text.items
    (subst (λ (q : Request). AsksFor q d) c.in-List.is asks) named c.in_ok-answer-in-List.ensures c.write_answer.ensures.leaves

pub returns-in_err-answer-in-Assemble-clause-leaves : goal.returns-in_err-answer-in-Assemble-clause-leaves
returns-in_err-answer-in-Assemble-clause-leaves g c held d name asks named read =
    let faults = g.S.Sink.faults c.args.out.now in
    let taken = g.S.Sink.taken c.args.out.now in
    at_error c.from_residual-in_err-answer-in-Assemble.result (Leaves (Answers held d) (Begins held d) faults faults taken taken)
    stop.Memory c.from_residual-in_err-answer-in-Assemble.ensures.1
    (leaves_nothing (Answers held d) (Begins held d) faults faults taken taken (nothing d) refl)

pub returns-in_ok-answer-in-Assemble-clause-leaves : goal.returns-in_ok-answer-in-Assemble-clause-leaves
returns-in_ok-answer-in-Assemble-clause-leaves g c held d name asks named read =
    let answer = c.in_ok-answer-in-Assemble.answer in
    leaves_assembled held (g.S.Sink.faults c.args.out.now) (g.S.Sink.faults c.write_answer-in-Assemble.new.out)
    (g.S.Sink.taken c.args.out.now)
    (g.S.Sink.taken c.write_answer-in-Assemble.new.out) c.write_answer-in-Assemble.result name c.args.bytes.now
    read (map string_bytes c.in-Assemble.field-0.now) d answer.status answer.text.items
    (subst (λ (q : Request). AsksFor q d) c.in-Assemble.is asks) named c.in_ok-answer-in-Assemble.ensures
    c.write_answer-in-Assemble.ensures.leaves
