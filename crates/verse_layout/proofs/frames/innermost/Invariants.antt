use Rattle.std.proofs.Common.{◌≡◌, take}
use Rattle.verse_layout.specs.Frames.{innermost}
use Rattle.verse_layout.specs.States.{stack}
use Rattle.verse_layout.proofs.frames.innermost.Given as goal

abbrev pub invariant-frames : goal.invariant-frames
invariant-frames l = innermost (stack (take l.i l.frames)) ≡ innermost (stack l.frames)
