use Rattle.std.proofs.Common.{◌≡◌, ◌++◌, reverse, take, drop}
use Rattle.verse_layout.specs.Loads.{reset_hole}
use Rattle.verse_layout.proofs.loads.last_hole.Given as goal

abbrev pub invariant-frames : goal.invariant-frames
invariant-frames l = reset_hole (reverse l.frames) ≡ reverse (drop l.i l.frames) ++ reset_hole (reverse (take l.i l.frames))
