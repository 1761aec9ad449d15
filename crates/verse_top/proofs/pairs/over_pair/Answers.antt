-- What the notes show is written.
use Rattle.std.proofs.Common.{refl}
use Rattle.verse_top_exec.specs.declared.stops.Stop.TheVariants as stop
use Rattle.verse_top_exec.specs.Leaving.{Leaves}
use Rattle.verse_top_exec.proofs.Leaving.{at_error, leaves_nothing}
use Rattle.verse_top.specs.Answers.{Begins, nothing}
use Rattle.verse_top.specs.Ends.{Replies}
use Rattle.verse_top.proofs.ExecuteLaws.{leaves_answer}
use Rattle.verse_top.proofs.pairs.over_pair.Goals as goal

pub returns-in_err-answer-clause-leaves : goal.returns-in_err-answer-clause-leaves
returns-in_err-answer-clause-leaves g c d asks =
    let held = g.F.Files.holds c.args.files.now in
    let replies = Replies d held (g.F.Files.faults c.args.files.now) (g.F.Files.faults c.tested.new.files) in
    let faults = g.S.Sink.faults c.args.out.now in
    let taken = g.S.Sink.taken c.args.out.now in
    at_error c.from_residual.result (Leaves replies (Begins held d) faults faults taken taken) stop.Memory c.from_residual.ensures.1
    (leaves_nothing replies (Begins held d) faults faults taken taken (nothing d) refl)

pub returns-clause-leaves : goal.returns-clause-leaves
returns-clause-leaves g c d asks =
    let answer = c.in_ok-answer.answer in
    leaves_answer d (g.F.Files.holds c.args.files.now) (g.F.Files.faults c.args.files.now) (g.F.Files.faults c.tested.new.files)
    (g.S.Sink.faults c.args.out.now) (g.S.Sink.faults c.write_answer.new.out) (g.S.Sink.taken c.args.out.now)
    (g.S.Sink.taken c.write_answer.new.out) c.write_answer.result answer.status answer.text.items
    (c.in_ok-answer.ensures.replies d asks) c.write_answer.ensures.leaves
