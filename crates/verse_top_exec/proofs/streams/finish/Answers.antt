-- What the machine shows of the run that has ended.
use Rattle.std.proofs.Common.{◌≡◌, IfErr, OnOk, sym, subst, ◌∙◌, ap}
use Rattle.verse_outside.specs.Held.{with_more}
use Rattle.verse_code_machine.specs.Belonging.{StoreBelongs}
use Rattle.verse_top_exec.specs.declared.streams.Last.{Last}
use Rattle.verse_top_exec.specs.Cells.{FirstLines}
use Rattle.verse_top_exec.specs.Courses.{run_on}
use Rattle.verse_top_exec.specs.Endings.{FrontOf, last_run, rest_text}
use Rattle.verse_top_exec.specs.Leaving.{Stopped}
use Rattle.verse_top_exec.proofs.InsideRuns.{cells_belong, live_is}
use Rattle.verse_top_exec.proofs.TurnLemmas.{counts_of}
use Rattle.verse_top_exec.proofs.StreamLemmas.{Tells, leaves_rest}
use Rattle.verse_top_exec.proofs.streams.finish.Goals as goal

pub write_rest-requires : goal.write_rest-requires
write_rest-requires g c =
    let code = c.args.code.now in
    let w = c.requires.ended.0 in
    let ended = c.requires.ended.2 in
    record {
      belongs = subst (λ cells. StoreBelongs code.classes cells)
          (ended.shown.store ∙ ap (λ h. (g.H.Heap.state h).cells) (sym c.into_parts-heap.ensures.heap))
          (cells_belong code w (c.runs_hold.ensures code w.origin w.steps w.until c.requires.valid ended.at.bound.can));
    }

pub returns-clause-leaves : goal.returns-clause-leaves
returns-clause-leaves g c w before old lines low ended =
    let state = g.H.Heap.state in
    let pending = g.W.Waits.pending in
    let code = c.args.code.now in
    let last : Last = record {
      ending = c.args.ending;
      now = c.now-now.result;
      steps = c.steps-steps.result;
      live = c.live-live.result;
    } in
    let cells = (state c.into_parts-heap.result.0).cells in
    let tells : Tells (run_on code w) last cells = record {
      ending = ended.ending;
      moment = c.now-now.ensures ∙ sym ended.shown.moment;
      steps = c.steps-steps.ensures ∙ sym ended.shown.steps;
      live = live_is code w c.live-live.result
          (c.runs_hold.ensures code w.origin w.steps w.until c.requires.valid ended.at.bound.can)
          (counts_of state pending c.args.vm (run_on code w).live c.live-live.result c.live-live.ensures ended.shown.live);
      store = ap (λ h. (state h).cells) c.into_parts-heap.ensures.heap ∙ sym ended.shown.store;
    } in
    let at = g.S.Sink.faults c.args.out.now in
    let now = g.S.Sink.faults c.write_rest.new.out in
    let mid = g.S.Sink.taken c.args.out.now in
    let new = g.S.Sink.taken c.write_rest.new.out in
    let whole = subst (λ asked. OnOk c.write_rest.result (new ≡ with_more mid (rest_text asked cells code.files (last_run last))))
    (sym lines) c.write_rest.ensures.whole in
    let stopped = subst (λ asked. IfErr c.write_rest.result
    (Stopped (FirstLines asked cells) (FrontOf asked cells code.files (last_run last)) at now mid new)) (sym lines)
    c.write_rest.ensures.stopped in
    leaves_rest code w last cells tells before at now old mid new low ended.taken c.write_rest.result c.write_rest.ensures.status
    whole stopped
