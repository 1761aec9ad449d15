-- The trace, and then the rest.
use Rattle.std.proofs.Common.{◌≡◌, ◌≤◌, Result, List, ℕ, Ok, Err, inr, refl, subst}
use Rattle.verse_top_exec.specs.Courses.{Course, Comes, ComesSoFar}
use Rattle.verse_top_exec.specs.Leaving.{Either, Leaves}
use Rattle.verse_top_exec.specs.Turns.{Ended, Goes}
use Rattle.verse_top_exec.proofs.Leaving.{at_error, stopped_as}
use Rattle.verse_top_exec.proofs.streams.stream_on.Goals as goal

pub returns-in_err-ending-clause-leaves : goal.returns-in_err-ending-clause-leaves
returns-in_err-ending-clause-leaves g c w steps lines at =
    let code = c.args.code.now in
    let so_far = ComesSoFar code w in
    let before = g.S.Sink.faults c.args.out.now in
    let now = g.S.Sink.faults c.all_turns.new.out in
    let old = g.S.Sink.taken c.args.out.now in
    let new = g.S.Sink.taken c.all_turns.new.out in
    let goes = subst (λ r. Goes g.H.Heap.state g.W.Waits.pending code w before now old new c.all_turns.new.vm r) c.in_err-ending.was
    (c.all_turns.ensures.goes w steps at) in
    at_error c.from_residual.result (Leaves (Comes code w) so_far before now old new) c.in_err-ending.field-0.0
    c.from_residual.ensures.1
    (stopped_as so_far so_far so_far (Either (Comes code w) so_far) before now old new c.in_err-ending.field-0.0 (λ t p. p)
    (λ t p. inr p) goes)

pub finish-requires-clause-ended : goal.finish-requires-clause-ended
finish-requires-clause-ended g c =
    let begun = c.requires.begun in
    let old = g.S.Sink.taken c.args.out.now in (
      begun.0,
      old,
      subst (λ r. Goes g.H.Heap.state g.W.Waits.pending c.args.code.now begun.0 (g.S.Sink.faults c.args.out.now)
          (g.S.Sink.faults c.all_turns.new.out) old (g.S.Sink.taken c.all_turns.new.out) c.all_turns.new.vm r) c.in_ok-ending.was
          (c.all_turns.ensures.goes begun.0 begun.1 begun.2),
    )

pub returns-clause-leaves : goal.returns-clause-leaves
returns-clause-leaves g c w steps lines at =
    let before = g.S.Sink.faults c.args.out.now in
    let old = g.S.Sink.taken c.args.out.now in
    c.finish.ensures.leaves w before old lines c.all_turns.ensures.later
    (subst (λ r. Goes g.H.Heap.state g.W.Waits.pending c.args.code.now w before (g.S.Sink.faults c.all_turns.new.out) old
    (g.S.Sink.taken c.all_turns.new.out) c.all_turns.new.vm r) c.in_ok-ending.was (c.all_turns.ensures.goes w steps at))
