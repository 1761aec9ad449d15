-- The frames of a thread.
use Rattle.std.specs.Prelude.{List, reverse}
use Rattle.vm_frames.specs.Framed.{Framed, framed}
use Rattle.vm_frames.specs.declared.threads.Thread.TheInside.{Inside}

abbrev pub frames_of : Inside → List Framed
frames_of t = framed (reverse t.births.items) t.fiber
