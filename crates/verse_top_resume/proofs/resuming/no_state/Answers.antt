-- The line is written, or a prefix of it, or there is no memory for it.
use Rattle.std.proofs.Common.{◌≡◌, List, ℕ, inl, refl, ap, subst, ◌∙◌}
use Rattle.verse_outside.specs.Held.{TookPrefix, with_more}
use Rattle.verse_top_resume.specs.Resuming.{IsFault, state_line}
use Rattle.verse_top_exec.specs.declared.stops.Stop.TheVariants as stop
use Rattle.verse_top_exec.specs.Executions.{IsNothing}
use Rattle.verse_top_exec.specs.Leaving.{Leaves}
use Rattle.verse_top_exec.proofs.Leaving.{at_error, leaves_nothing}
use Rattle.verse_top_resume.proofs.resuming.no_state.Goals as goal

pub returns-in_err-line-clause-leaves : goal.returns-in_err-line-clause-leaves
returns-in_err-line-clause-leaves g c =
    let taken = g.S.Sink.taken c.args.out.now in
    let faults = g.S.Sink.faults c.args.out.now in
    at_error c.from_residual.result (Leaves (IsFault c.args.rule c.args.at) IsNothing faults faults taken taken) stop.Memory
    c.from_residual.ensures.1
    (leaves_nothing (IsFault c.args.rule c.args.at) IsNothing faults faults taken taken refl refl)

pub returns-in_err-write_all-clause-leaves : goal.returns-in_err-write_all-clause-leaves
returns-in_err-write_all-clause-leaves g c =
    let text : c.as_slice.result.now ≡ state_line c.args.rule c.args.at = rw c.in_ok-line.ensures at c.as_slice.ensures.value in
    at_error c.from_residual-in_err-write_all.result
    (Leaves (IsFault c.args.rule c.args.at) IsNothing (g.S.Sink.faults c.args.out.now) (g.S.Sink.faults c.write_all.new.out)
    (g.S.Sink.taken c.args.out.now) (g.S.Sink.taken c.write_all.new.out)) stop.Failed c.from_residual-in_err-write_all.ensures.1 (
      c.in_err-write_all.ensures.failed,
      (
        state_line c.args.rule c.args.at,
        (
          inl (1, (refl, refl)),
          subst (λ (l : List ℕ). TookPrefix (g.S.Sink.taken c.args.out.now) l (g.S.Sink.taken c.write_all.new.out))
              text c.in_err-write_all.ensures.part,
        ),
      ),
    )

pub returns-clause-leaves : goal.returns-clause-leaves
returns-clause-leaves g c =
    let text : c.as_slice.result.now ≡ state_line c.args.rule c.args.at = rw c.in_ok-line.ensures at c.as_slice.ensures.value in (
      state_line c.args.rule c.args.at,
      (
        (refl, refl),
        c.in_ok-write_all.ensures.whole ∙
            ap (with_more (g.S.Sink.taken c.args.out.now)) text,
      ),
    )
