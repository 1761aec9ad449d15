use Rattle.std.proofs.Common.{List, ℕ, drop, map}
use Rattle.verse_image.specs.Format.{each}
use Rattle.verse_image.specs.Writing.{Writes}
use Rattle.run_save_shots.specs.View.{frame_of}
use Rattle.run_save_format.specs.Format.{frame, list}
use Rattle.run_save_shots.specs.declared.shots.FrameShot.{FrameShot}
use Rattle.run_save_writer.proofs.frames.push_frames.Given as goal

-- what writes the entries that are left completes them
abbrev pub invariant-entries : goal.invariant-entries
invariant-entries l = (new : List ℕ) → Writes (each (λ (x : FrameShot). frame (frame_of x)) (drop l.entry-index l.frames))
    l.out.items new →
    Writes (list frame (map frame_of l.frames)) l.fn.out.items new
