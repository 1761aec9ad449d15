use Rattle.std.proofs.Common.{arith}
use Rattle.run_save_shots.specs.declared.shots.FrameShot.{FrameShot}
use Rattle.run_save_shots.specs.View.{frame_of}
use Rattle.run_save_format.specs.Format.{frame}
use Rattle.verse_image.proofs.WritingLemmas.{writes_entry, writes_end}
use Rattle.run_save_writer.proofs.Writing.{writes_list}
use Rattle.run_save_writer.proofs.frames.push_frames.Goals as goal

pub entries-init : goal.entries-init
entries-init c = λ new w. writes_list frame frame_of c.args.frames.now _ _ _ c.in_ok-push_count.ensures w

pub entries-preserved : goal.entries-preserved
entries-preserved c = λ new w.
    c.entries.invariant new (writes_entry (λ (x : FrameShot). frame (frame_of x)) c.args.frames.now c.entries.entry-index _ _ _ _ _
    (omega arith) c.entry-item.is c.in_ok-push_frame.ensures w)

pub returns : goal.returns
returns c = c.entries.invariant _ (writes_end (λ (x : FrameShot). frame (frame_of x)) c.args.frames.now c.entries.entry-index _
    (omega arith))
