-- Each call writes the lines of its turn, and a run is over before there are more calls than these.
use Rattle.std.proofs.Common.{◌≡◌, ◌+◌, Option, Some, None, Err, ap, subst, ◌∙◌, rules}
use Rattle.verse_value.specs.declared.runs.Ending.{Ending}
use Rattle.vm_run.specs.Turning.{TurnedTo}
use Rattle.verse_top_exec.specs.Turns.{Goes, stop_of}
use Rattle.verse_top_exec.proofs.Leaving.{at_error}
use Rattle.verse_top_exec.proofs.TurnLemmas.{belongs_first, ended_at, never_reached, reached_first, reached_next, stops_by}
use Rattle.verse_top_exec.proofs.turns.all_turns.Goals as goal

pub turns-init : goal.turns-init
turns-init g c =
    let begun = c.requires.begun in (
      belongs_first g.H.Heap.state g.W.Waits.pending c.args.code.now begun.0 c.args.vm.now begun.2,
      (λ w e at. reached_first g.H.Heap.state g.W.Waits.pending c.args.code.now w c.args.vm.now (g.S.Sink.taken c.args.out.now) at),
      search rules,
    )

pub turns-preserved : goal.turns-preserved
turns-preserved g c =
    let none : c.in_ok-ending.field-0 ≡ None = search rules in (
      c.turn_to.ensures.belongs,
      (λ w e at.
          let r = c.turns.invariant.1 w e at in
          let t = c.in_ok-ending.ensures.turned w.origin w.steps w.until c.turns._turn r.past r.at in
          reached_next g.H.Heap.state g.W.Waits.pending c.args.code.now w c.turns._turn (g.S.Sink.taken c.args.out.now)
          (g.S.Sink.taken c.turns.out) (g.S.Sink.taken c.turn_to.new.out) c.turns.vm c.turn_to.new.self r
          (subst (λ (x : Option Ending). TurnedTo g.H.Heap.state g.W.Waits.pending c.args.code.now w.origin w.steps w.until c.turns._turn
          r.past x (g.S.Sink.taken c.turns.out) (g.S.Sink.taken c.turn_to.new.out) c.turn_to.new.self) none t)),
      search rules,
    )

pub returns-in-Some-clause-goes : goal.returns-in-Some-clause-goes
returns-in-Some-clause-goes g c w e at =
    let r = c.turns.invariant.1 w e at in
    let some : c.in_ok-ending.field-0 ≡ Some c.in-Some.ending = c.in-Some.is in
    let t = c.in_ok-ending.ensures.turned w.origin w.steps w.until c.turns._turn r.past r.at in
    ended_at g.H.Heap.state g.W.Waits.pending c.args.code.now w c.turns._turn (g.S.Sink.taken c.args.out.now) (g.S.Sink.taken c.turns.out)
    (g.S.Sink.taken c.turn_to.new.out) c.turns.vm c.turn_to.new.self r c.in-Some.ending
    (subst (λ (x : Option Ending). TurnedTo g.H.Heap.state g.W.Waits.pending c.args.code.now w.origin w.steps w.until c.turns._turn r.past x
    (g.S.Sink.taken c.turns.out) (g.S.Sink.taken c.turn_to.new.out) c.turn_to.new.self) some t) c.in_ok-ending.ensures.kept

pub returns-in_err-ending-clause-goes : goal.returns-in_err-ending-clause-goes
returns-in_err-ending-clause-goes g c w e at =
    let r = c.turns.invariant.1 w e at in
    let fault = c.in_err-ending.field-0.0 in
    at_error c.from_residual.result (Goes g.H.Heap.state g.W.Waits.pending c.args.code.now w (g.S.Sink.faults c.args.out.now)
    (g.S.Sink.faults c.turn_to.new.out) (g.S.Sink.taken c.args.out.now) (g.S.Sink.taken c.turn_to.new.out) c.turn_to.new.self)
    (stop_of fault) c.from_residual.ensures.1
    (stops_by g.H.Heap.state g.W.Waits.pending c.args.code.now w c.turns._turn (g.S.Sink.taken c.args.out.now) (g.S.Sink.taken c.turns.out)
    (g.S.Sink.taken c.turn_to.new.out) c.turns.vm c.turn_to.new.self r (g.S.Sink.faults c.args.out.now) (g.S.Sink.faults c.turns.out)
    (g.S.Sink.faults c.turn_to.new.out) fault c.turns.invariant.2
    (λ f. c.turn_to.ensures.memory (c.in_err-ending.was ∙ ap Err f)) (λ f. c.turn_to.ensures.failed (c.in_err-ending.was ∙ ap Err f))
    (λ f. c.turn_to.ensures.part w.origin w.steps w.until c.turns._turn r.past r.at (c.in_err-ending.was ∙ ap Err f)))

pub unreachable-requires : goal.unreachable-requires
unreachable-requires g c =
    let begun = c.requires.begun in
    let all : c.turns._turn ≡ begun.0.steps + 2 = search rules in
    never_reached g.H.Heap.state g.W.Waits.pending c.args.code.now begun.0 c.runs_hold.ensures c.turns._turn (g.S.Sink.taken c.args.out.now)
    (g.S.Sink.taken c.turns.out) c.turns.vm c.requires.valid all (c.turns.invariant.1 begun.0 begun.1 begun.2)
