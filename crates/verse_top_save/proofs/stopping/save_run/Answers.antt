-- The trace, and then what is saved or what stands behind it.
use Rattle.std.proofs.Common.{◌≡◌, true, false, inr, refl, subst, ◌∙◌}
use Rattle.verse_value.specs.declared.runs.Ending.{Ending}
use Rattle.verse_top_texts.specs.Streams.{nothing}
use Rattle.verse_top_exec.specs.declared.stops.Stop.TheVariants as stop
use Rattle.verse_top_exec.specs.Asking.{options_of}
use Rattle.verse_top_exec.specs.Courses.{course_of}
use Rattle.verse_top_exec.specs.Executions.{Runs}
use Rattle.verse_top_exec.specs.Leaving.{Either, Leaves}
use Rattle.verse_top_exec.specs.Turns.{Ended, Goes}
use Rattle.verse_top_exec.proofs.Leaving.{at_error, leaves_as, leaves_nothing, stopped_as}
use Rattle.verse_top_save.specs.Saving.{SavesRun, SavesRunSoFar, ended, is_until, without_heap}
use Rattle.verse_top_save.proofs.Stops.{until_is, until_isnt}
use Rattle.verse_top_save.proofs.stopping.save_run.Goals as goal

pub returns-in_err-vm-clause-leaves : goal.returns-in_err-vm-clause-leaves
returns-in_err-vm-clause-leaves g c =
    let o = options_of c.args.asked in
    let saves = SavesRun c.args.code.now o in
    let so_far = SavesRunSoFar c.args.code.now o in
    let faults = g.S.Sink.faults c.args.out.now in
    let taken = g.S.Sink.taken c.args.out.now in
    at_error c.from_residual.result (Leaves saves so_far faults faults taken taken) stop.Memory c.from_residual.ensures.1
    (leaves_nothing saves so_far faults faults taken taken nothing refl)

pub all_turns-requires-clause-begun : goal.all_turns-requires-clause-begun
all_turns-requires-clause-begun g c = (course_of (without_heap (options_of c.args.asked)), refl, c.in_ok-vm.ensures)

pub returns-in_err-ending-clause-leaves : goal.returns-in_err-ending-clause-leaves
returns-in_err-ending-clause-leaves g c =
    let o = options_of c.args.asked in
    let w = course_of (without_heap o) in
    let code = c.args.code.now in
    let so_far = SavesRunSoFar code o in
    let before = g.S.Sink.faults c.args.out.now in
    let now = g.S.Sink.faults c.all_turns.new.out in
    let old = g.S.Sink.taken c.args.out.now in
    let new = g.S.Sink.taken c.all_turns.new.out in
    let goes = subst (λ r. Goes g.H.Heap.state g.W.Waits.pending code w before now old new c.all_turns.new.vm r)
    c.in_err-ending.was (c.all_turns.ensures.goes w refl c.in_ok-vm.ensures) in
    at_error c.from_residual-in_err-ending.result (Leaves (SavesRun code o) so_far before now old new) c.in_err-ending.field-0.0
    c.from_residual-in_err-ending.ensures.1
    (stopped_as so_far so_far so_far (Either (SavesRun code o) so_far) before now old new c.in_err-ending.field-0.0 (λ t p. p)
    (λ t p. inr p) goes)

pub save_stopped-requires-clause-ended : goal.save_stopped-requires-clause-ended
save_stopped-requires-clause-ended g c =
    let o = options_of c.args.asked in
    let w = course_of (without_heap o) in
    let state = g.H.Heap.state in
    let pending = g.W.Waits.pending in
    let code = c.args.code.now in
    let vm = c.all_turns.new.vm in
    let old = g.S.Sink.taken c.args.out.now in
    let mid = g.S.Sink.taken c.all_turns.new.out in
    let stops : is_until c.in_ok-ending.ending ≡ true = cc (c.has_stopped.ensures, c.if-has_stopped.true) in
    let over : Ended state pending code w c.in_ok-ending.ending old mid vm =
    subst (λ r. Goes state pending code w (g.S.Sink.faults c.args.out.now) (g.S.Sink.faults c.all_turns.new.out) old
    mid vm r) c.in_ok-ending.was (c.all_turns.ensures.goes w refl c.in_ok-vm.ensures) in (
      o,
      old,
      subst (λ (e : Ending). Ended state pending code w e old mid vm) (until_is c.in_ok-ending.ending stops) over,
    )

pub returns-then-has_stopped-clause-leaves : goal.returns-then-has_stopped-clause-leaves
returns-then-has_stopped-clause-leaves g c =
    let o = options_of c.args.asked in
    let w = course_of (without_heap o) in
    let state = g.H.Heap.state in
    let pending = g.W.Waits.pending in
    let code = c.args.code.now in
    let vm = c.all_turns.new.vm in
    let before = g.S.Sink.faults c.args.out.now in
    let old = g.S.Sink.taken c.args.out.now in
    let mid = g.S.Sink.taken c.all_turns.new.out in
    let stops : is_until c.in_ok-ending.ending ≡ true = cc (c.has_stopped.ensures, c.if-has_stopped.true) in
    let over : Ended state pending code w c.in_ok-ending.ending old mid vm =
    subst (λ r. Goes state pending code w before (g.S.Sink.faults c.all_turns.new.out) old mid vm r)
    c.in_ok-ending.was (c.all_turns.ensures.goes w refl c.in_ok-vm.ensures) in
    c.save_stopped.ensures.leaves o before old c.all_turns.ensures.later
    (subst (λ (e : Ending). Ended state pending code w e old mid vm) (until_is c.in_ok-ending.ending stops) over)

pub finish-requires-clause-ended : goal.finish-requires-clause-ended
finish-requires-clause-ended g c =
    let o = options_of c.args.asked in
    let w = course_of (without_heap o) in
    let old = g.S.Sink.taken c.args.out.now in (
      course_of (without_heap o),
      old,
      subst (λ r. Goes g.H.Heap.state g.W.Waits.pending c.args.code.now w (g.S.Sink.faults c.args.out.now)
          (g.S.Sink.faults c.all_turns.new.out) old (g.S.Sink.taken c.all_turns.new.out) c.all_turns.new.vm r) c.in_ok-ending.was
          (c.all_turns.ensures.goes w refl c.in_ok-vm.ensures),
    )

pub returns-else-has_stopped-clause-leaves : goal.returns-else-has_stopped-clause-leaves
returns-else-has_stopped-clause-leaves g c =
    let o = options_of c.args.asked in
    let w = course_of (without_heap o) in
    let state = g.H.Heap.state in
    let pending = g.W.Waits.pending in
    let code = c.args.code.now in
    let vm = c.all_turns.new.vm in
    let before = g.S.Sink.faults c.args.out.now in
    let old = g.S.Sink.taken c.args.out.now in
    let mid = g.S.Sink.taken c.all_turns.new.out in
    let goes_on : is_until c.in_ok-ending.ending ≡ false = cc (c.has_stopped.ensures, c.if-has_stopped.false) in
    let over : Ended state pending code w c.in_ok-ending.ending old mid vm =
    subst (λ r. Goes state pending code w before (g.S.Sink.faults c.all_turns.new.out) old mid vm r) c.in_ok-ending.was
    (c.all_turns.ensures.goes w refl c.in_ok-vm.ensures) in
    leaves_as (Runs code (without_heap o)) (SavesRun code o) (SavesRunSoFar code o) (SavesRunSoFar code o) before _ old _ c.finish.result
    (λ s t p. ended s t (λ e. until_isnt c.in_ok-ending.ending goes_on (over.ending ∙ e)) p) (λ t p. p)
    (c.finish.ensures.leaves w before old refl c.all_turns.ensures.later over)
