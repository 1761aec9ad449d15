-- The notes, written at once.
use Rattle.std.proofs.Common.{map}
use Rattle.verse_tree.specs.ItemView.{item_of}
use Rattle.verse_top_exec.specs.Executions.{IsNothing}
use Rattle.verse_top_exec.proofs.Leaving.{leaves_as}
use Rattle.verse_top.specs.Answers.{AreNoted, IsAnswer}
use Rattle.verse_top.proofs.programs.note.Goals as goal

pub returns-clause-leaves : goal.returns-clause-leaves
returns-clause-leaves g c =
    let answer = c.in_ok-answer.answer in
    leaves_as (IsAnswer answer.status answer.text.items) (AreNoted (map item_of c.args.program.tree.items) c.args.program.tree.files)
    IsNothing IsNothing (g.S.Sink.faults c.args.out.now) (g.S.Sink.faults c.write_answer.new.out) (g.S.Sink.taken c.args.out.now)
    (g.S.Sink.taken c.write_answer.new.out) c.write_answer.result (λ s t m. rw (m.0, m.1) c.in_ok-answer.ensures) (λ t m. m)
    c.write_answer.ensures.leaves
