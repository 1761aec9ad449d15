-- The line and the saved run are written, or a prefix of them, or there is no memory for it.
use Rattle.std.proofs.Common.{◌≡◌, ◌++◌, List, ℕ, inl, refl, ap, subst, ◌∙◌}
use Rattle.verse_outside.specs.Held.{TookPrefix, with_more}
use Rattle.run_save_shots.specs.View.{shot_of}
use Rattle.verse_top_exec.specs.declared.stops.Stop.TheVariants as stop
use Rattle.verse_top_exec.specs.Executions.{IsNothing}
use Rattle.verse_top_exec.specs.Leaving.{Leaves}
use Rattle.verse_top_exec.proofs.Leaving.{at_error, leaves_nothing}
use Rattle.verse_top_exec.proofs.Takes.{more_then, rose_from, took_behind, took_front}
use Rattle.verse_top_save.specs.Saving.{IsWritten}
use Rattle.verse_top_save.proofs.stopping.write_saved.Goals as goal

pub returns-in_err-bytes-clause-leaves : goal.returns-in_err-bytes-clause-leaves
returns-in_err-bytes-clause-leaves g c =
    let taken = g.S.Sink.taken c.args.out.now in
    let faults = g.S.Sink.faults c.args.out.now in
    let written = IsWritten c.args.code.now (shot_of c.args.shot.now) c.args.line.now in
    at_error c.from_residual.result (Leaves written IsNothing faults faults taken taken) stop.Memory c.from_residual.ensures.1
    (leaves_nothing written IsNothing faults faults taken taken refl refl)

pub returns-in_err-write_all-clause-leaves : goal.returns-in_err-write_all-clause-leaves
returns-in_err-write_all-clause-leaves g c =
    let bytes = c.in_ok-bytes.bytes.items in
    let line = c.args.line.now in
    at_error c.from_residual-in_err-write_all.result
    (Leaves (IsWritten c.args.code.now (shot_of c.args.shot.now) line) IsNothing (g.S.Sink.faults c.args.out.now)
    (g.S.Sink.faults c.write_all.new.out) (g.S.Sink.taken c.args.out.now) (g.S.Sink.taken c.write_all.new.out)) stop.Failed
    c.from_residual-in_err-write_all.ensures.1 (
      c.in_err-write_all.ensures.failed,
      (
        line ++ bytes,
        (
          inl (3, (refl, bytes, c.in_ok-bytes.ensures, refl)),
          took_front (g.S.Sink.taken c.args.out.now) (g.S.Sink.taken c.write_all.new.out) line bytes c.in_err-write_all.ensures.part,
        ),
      ),
    )

pub returns-in_err-write_all-2-clause-leaves : goal.returns-in_err-write_all-2-clause-leaves
returns-in_err-write_all-2-clause-leaves g c =
    let bytes = c.in_ok-bytes.bytes.items in
    let line = c.args.line.now in
    let old = g.S.Sink.taken c.args.out.now in
    let mid = g.S.Sink.taken c.write_all.new.out in
    let new = g.S.Sink.taken c.write_all-2.new.out in
    let part : TookPrefix mid bytes new =
    subst (λ (l : List ℕ). TookPrefix mid l new) c.as_slice.ensures.value c.in_err-write_all-2.ensures.part in
    at_error c.from_residual-in_err-write_all-2.result
    (Leaves (IsWritten c.args.code.now (shot_of c.args.shot.now) line) IsNothing (g.S.Sink.faults c.args.out.now)
    (g.S.Sink.faults c.write_all-2.new.out) old new) stop.Failed c.from_residual-in_err-write_all-2.ensures.1 (
      rose_from (g.S.Sink.faults c.args.out.now) (g.S.Sink.faults c.write_all.new.out) (g.S.Sink.faults c.write_all-2.new.out)
          c.write_all.ensures.later c.in_err-write_all-2.ensures.failed,
      (
        line ++ bytes,
        (inl (3, (refl, bytes, c.in_ok-bytes.ensures, refl)), took_behind old mid new line bytes c.in_ok-write_all.ensures.whole part),
      ),
    )

pub returns-clause-leaves : goal.returns-clause-leaves
returns-clause-leaves g c =
    let bytes = c.in_ok-bytes.bytes.items in
    let line = c.args.line.now in
    let old = g.S.Sink.taken c.args.out.now in
    let mid = g.S.Sink.taken c.write_all.new.out in
    let new = g.S.Sink.taken c.write_all-2.new.out in
    let whole : new ≡ with_more mid bytes = c.in_ok-write_all-2.ensures.whole ∙ ap (with_more mid) c.as_slice.ensures.value in
    (line ++ bytes, ((refl, bytes, c.in_ok-bytes.ensures, refl), more_then old mid new line bytes c.in_ok-write_all.ensures.whole whole))
