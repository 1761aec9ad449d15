use Rattle.std.proofs.Common.{◌≡◌, List, length}
use Rattle.verse_layout.specs.Frames.{Open, Walk, leave}
use Rattle.verse_layout.specs.Rests.{rest_of}
use Rattle.verse_layout.specs.States.{stack}
use Rattle.verse_layout.proofs.steps.leave.Given as goal

abbrev pub invariant-leaving : goal.invariant-leaving
invariant-leaving l = (go : List Open → Walk) →
    rest_of l.writer (leave (stack l.frames.items) l.token l.text go) ≡
    rest_of l.fn.writer (leave (stack l.fn.frames.items) l.fn.token l.fn.text go)

abbrev pub decreases-leaving : goal.decreases-leaving
decreases-leaving l = length l.frames.items
