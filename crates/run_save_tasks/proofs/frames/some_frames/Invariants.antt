use Rattle.std.proofs.Common.{◌≡◌, ◌-◌, map}
use Rattle.verse_image.proofs.ReadingSteps.{with_front}
use Rattle.run_save_shots.specs.View.{frame_of}
use Rattle.run_save_format.specs.Reading.{frames_from}
use Rattle.run_save_tasks.specs.View.{known_of}
use Rattle.run_save_tasks.proofs.frames.some_frames.Given as goal

abbrev pub invariant-frames : goal.invariant-frames
invariant-frames l = with_front (map frame_of l.frames.items) (frames_from (known_of l.known) (l.count - l.i) l.rest) ≡
    frames_from (known_of l.known) l.count l.bytes
