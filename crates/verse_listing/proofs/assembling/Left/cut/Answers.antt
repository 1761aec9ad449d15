-- A line is cut off for every stage.
use Rattle.std.proofs.Common.{arith}
use Rattle.verse_listing.proofs.Going.{line_cut, line_none}
use Rattle.verse_listing.proofs.assembling.Left.cut.Goals as goal

pub returns-in-Some-clause-cut : goal.returns-in-Some-clause-cut
returns-in-Some-clause-cut c = λ stage.
    line_cut c.args.self.bytes.now c.in-Some.line.now c.in-Some.bytes.now c.args.self.line _ c.in-Some.ensures.parts (omega arith) stage

pub returns-in-None-clause-cut : goal.returns-in-None-clause-cut
returns-in-None-clause-cut c = λ stage o.
    line_none c.args.self.bytes.now c.args.self.line c.broken.result c.in-None.ensures.parts c.broken.ensures stage o
