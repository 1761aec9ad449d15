use Rattle.std.proofs.Common.{arith}
use Rattle.verse_layout.proofs.Holes.{hole_least, hole_set, hole_sum}
use Rattle.verse_layout.proofs.loads.last_hole.Goals as goal

pub returns-then-frames-i-clause-found : goal.returns-then-frames-i-clause-found
returns-then-frames-i-clause-found c = λ d g.
    hole_set c.args.frames.now c.frames.i _ d _ (omega arith) g c.if-frames-i.true c.frames.invariant

pub returns-then-frames-i-clause-sum : goal.returns-then-frames-i-clause-sum
returns-then-frames-i-clause-sum c = λ d g.
    hole_sum c.args.frames.now c.frames.i _ d _ (omega arith) g c.if-frames-i.true c.frames.invariant

pub returns-then-frames-i-clause-least : goal.returns-then-frames-i-clause-least
returns-then-frames-i-clause-least c = λ d g. hole_least c.args.frames.now c.frames.i _ d (omega arith) g
