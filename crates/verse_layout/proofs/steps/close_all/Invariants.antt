use Rattle.std.proofs.Common.{◌≡◌, length}
use Rattle.verse_layout.specs.Frames.{closes}
use Rattle.verse_layout.specs.Rests.{rest_of}
use Rattle.verse_layout.specs.States.{stack}
use Rattle.verse_layout.proofs.steps.close_all.Given as goal

abbrev pub invariant-closing : goal.invariant-closing
invariant-closing l = rest_of l.writer (closes l.end (stack l.frames.items)) ≡
    rest_of l.fn.writer (closes l.fn.end (stack l.fn.frames.items))

abbrev pub decreases-closing : goal.decreases-closing
decreases-closing l = length l.frames.items
