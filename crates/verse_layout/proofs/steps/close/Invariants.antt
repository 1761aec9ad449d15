use Rattle.std.proofs.Common.{◌≡◌, length}
use Rattle.verse_layout.specs.Frames.{Context, Walk, close}
use Rattle.verse_layout.specs.Rests.{rest_of}
use Rattle.verse_layout.specs.States.{stack}
use Rattle.verse_layout.proofs.steps.close.Given as goal

abbrev pub invariant-closing : goal.invariant-closing
invariant-closing l = (go : Context → Walk) →
    rest_of l.writer (close l.region (stack l.frames.items) l.token go) ≡
    rest_of l.fn.writer (close l.fn.region (stack l.fn.frames.items) l.fn.token go)

abbrev pub decreases-closing : goal.decreases-closing
decreases-closing l = length l.frames.items
