use Rattle.std.proofs.Common.{List, map, subst}
use Rattle.verse_image.specs.Writing.{Writes}
use Rattle.verse_image.proofs.WritingLemmas.{writes_four}
use Rattle.run_save_shots.specs.declared.shots.FrameShot.{FrameShot}
use Rattle.run_save_shots.specs.View.{frame_of, rest_of}
use Rattle.run_save_format.specs.Format.{optional, standing, list, frame, rest_field}
use Rattle.run_save_writer.proofs.tasks.push_task.Goals as goal

pub returns : goal.returns
returns c =
    let t = c.args.task.now in
    let frames : Writes (list frame (map frame_of t.frames.items)) c.push_standing.new.out.items c.push_frames.new.out.items =
    subst (λ (xs : List FrameShot). Writes (list frame (map frame_of xs)) c.push_standing.new.out.items c.push_frames.new.out.items)
    c.as_slice.ensures.value c.in_ok-push_frames.ensures in
    writes_four (optional t.parent) (standing t.parent t.role t.root) (list frame (map frame_of t.frames.items))
    (rest_field (rest_of t.rest)) _ _ _ _ _ c.in_ok-push_optional.ensures c.in_ok-push_standing.ensures frames
    c.in_ok-push_rest.ensures
