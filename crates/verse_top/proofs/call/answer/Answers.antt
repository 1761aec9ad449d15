-- A case for the command over no file, and one for that over two; the others are over one file, or over those of a program.
use Rattle.std.proofs.Common.{subst}
use Rattle.verse_top_args.specs.Requests.{AsksFor}
use Rattle.verse_top_args.specs.declared.commands.Request.{Request}
use Rattle.verse_top.proofs.ExecuteLaws.{leaves_loaded}
use Rattle.verse_top.proofs.call.answer.Goals as goal

pub returns-in-Load-clause-leaves : goal.returns-in-Load-clause-leaves
returns-in-Load-clause-leaves g c d asks =
    let a = subst (λ (q : Request). AsksFor q d) c.in-Load.is asks in
    leaves_loaded (g.F.Files.holds c.args.files.now) (g.F.Files.faults c.args.files.now) (g.F.Files.faults c.args.files.now)
    (g.S.Sink.faults c.args.out.now) (g.S.Sink.faults c.load.new.out) (g.S.Sink.taken c.args.out.now) (g.S.Sink.taken c.load.new.out)
    c.load.result c.in-Load.functions d a.is c.load.ensures.leaves

pub returns-in-Verify-clause-leaves : goal.returns-in-Verify-clause-leaves
returns-in-Verify-clause-leaves g c d asks =
    c.over_pair.ensures.leaves d (subst (λ (q : Request). AsksFor q d) c.in-Verify.is asks)

pub over_pair-requires : goal.over_pair-requires
over_pair-requires g c = record {
  asks = (c.requires.asks.0, subst (λ (q : Request). AsksFor q c.requires.asks.0) c.in-Verify.is c.requires.asks.1);
}
