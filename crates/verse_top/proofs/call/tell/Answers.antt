-- The status of a whole text, of want of memory, and of a fault.
use Rattle.std.proofs.Common.{◌≡◌, Ok, Err, rules}
use Rattle.verse_top_exec.specs.declared.stops.Stop.TheVariants as stop
use Rattle.verse_top.proofs.CallLaws.{ends_failed, ends_whole, ends_without}
use Rattle.verse_top.proofs.call.tell.Goals as goal

pub returns-in-Ok-clause-ends : goal.returns-in-Ok-clause-ends
returns-in-Ok-clause-ends g c words d says asks =
    let is : c.answer.result ≡ Ok c.in-Ok.status = search rules in
    ends_whole words d says (g.F.Files.holds c.args.files.now) (g.F.Files.faults c.args.files.now) (g.F.Files.faults c.answer.new.files)
    (g.S.Sink.faults c.args.out.now) (g.S.Sink.taken c.args.out.now) (g.S.Sink.faults c.answer.new.out)
    (g.S.Sink.taken c.answer.new.out)
    c.answer.result c.in-Ok.status is (c.answer.ensures.leaves d asks)

pub returns-in-Err-Memory-clause-ends : goal.returns-in-Err-Memory-clause-ends
returns-in-Err-Memory-clause-ends g c words d says asks =
    let is : c.answer.result ≡ Err stop.Memory = search rules in
    ends_without words d says (g.F.Files.holds c.args.files.now) (g.F.Files.faults c.args.files.now) (g.F.Files.faults c.answer.new.files)
    (g.S.Sink.faults c.args.out.now) (g.S.Sink.taken c.args.out.now) (g.S.Sink.faults c.answer.new.out)
    (g.S.Sink.faults c.finish.new.out) (g.S.Sink.taken c.answer.new.out) (g.S.Sink.taken c.finish.new.out)
    c.answer.result c.finish.result is c.answer.ensures.sink_faults (c.answer.ensures.leaves d asks) c.finish.ensures.either

pub returns-in-Err-Failed-clause-ends : goal.returns-in-Err-Failed-clause-ends
returns-in-Err-Failed-clause-ends g c words d says asks =
    let is : c.answer.result ≡ Err stop.Failed = search rules in
    ends_failed words d says (g.F.Files.holds c.args.files.now) (g.F.Files.faults c.args.files.now) (g.F.Files.faults c.answer.new.files)
    (g.S.Sink.faults c.args.out.now) (g.S.Sink.taken c.args.out.now) (g.S.Sink.faults c.answer.new.out)
    (g.S.Sink.taken c.answer.new.out)
    c.answer.result is (c.answer.ensures.leaves d asks)
