use Rattle.std.proofs.Common.{map, arith}
use Rattle.std.proofs.lemmas.Result.{err_from_is_err_and}
use Rattle.run_save_shots.specs.View.{frame_of}
use Rattle.run_save_format.specs.Reading.{frames_from}
use Rattle.run_save_tasks.specs.View.{known_of}
use Rattle.run_save_tasks.proofs.ManySteps.{frames_begin, frames_go_on, frames_end, frames_are_done}
use Rattle.run_save_tasks.proofs.frames.some_frames.Goals as goal

pub frames-init : goal.frames-init
frames-init c = rw c.new-frames.ensures.items (frames_begin (known_of c.args.known.now) c.args.count c.args.bytes.now)

pub returns-in_err-frame : goal.returns-in_err-frame
returns-in_err-frame c =
    let p = err_from_is_err_and c.from_residual.result c.from_residual.ensures.1 in
    rw (p.1, p.2) (frames_end (known_of c.args.known.now) c.in_err-frame.field-0.0 (map frame_of c.frames.frames.items) c.args.count
    c.frames.i _ c.frames.rest.now (frames_from (known_of c.args.known.now) c.args.count c.args.bytes.now) c.frames-test.true
    (omega arith) c.in_err-frame.ensures c.frames.invariant)

pub frames-preserved : goal.frames-preserved
frames-preserved c =
    rw c.in_ok-push.ensures.items (frames_go_on frame_of (known_of c.args.known.now) c.frames.frames.items c.args.count c.frames.i _
    c.frames.rest.now c.in_ok-frame.frame c.in_ok-frame.after.now
    (frames_from (known_of c.args.known.now) c.args.count c.args.bytes.now) c.frames-test.true (omega arith) c.in_ok-frame.ensures
    c.frames.invariant)

pub returns : goal.returns
returns c = frames_are_done (known_of c.args.known.now) (map frame_of c.frames.frames.items) c.args.count c.frames.i c.frames.rest.now
    (frames_from (known_of c.args.known.now) c.args.count c.args.bytes.now) c.frames-test.false c.frames.invariant
