-- The machine that is over tells what its run ends with, and keeps all of its lines.
use Rattle.std.proofs.Common.{◌≡◌, ℕ, List, [], length, map, sym, ap, ◌∙◌}
use Rattle.std.proofs.lemmas.List.{length-map}
use Rattle.vm_running.specs.Views.{line_of}
use Rattle.vm_run.specs.Origins.{from_inputs}
use Rattle.verse_top_exec.specs.Asking.{options_of}
use Rattle.verse_top_exec.specs.Courses.{course_of}
use Rattle.verse_top_exec.specs.Executions.{run_with}
use Rattle.verse_top_exec.proofs.Shortly.{EndedSo, counts}
use Rattle.verse_top_exec.proofs.InsideRuns.{live_is}
use Rattle.verse_top_exec.proofs.TurnLemmas.{belongs_first, counts_of}
use Rattle.verse_top_exec.proofs.counting.count.Goals as goal

pub run-requires-clause-belongs : goal.run-requires-clause-belongs
run-requires-clause-belongs g c =
    belongs_first g.H.Heap.state g.W.Waits.pending c.args.code.now (course_of (options_of c.args.asked)) c.in_ok-vm.vm c.in_ok-vm.ensures

pub returns : goal.returns
returns g c =
    let state = g.H.Heap.state in
    let pending = g.W.Waits.pending in
    let o = options_of c.args.asked in
    let code = c.args.code.now in
    let vm = c.run.new.self in
    let ran = c.in_ok-ending.ensures.ran (from_inputs o.inputs) o.steps o.until 0 [] c.in_ok-vm.ensures in
    let kept : c.kept_lines.result ≡ length vm.run.trace.kept =
    c.kept_lines.ensures ∙ ap (λ t. length t.kept) c.into_parts-heap.ensures.trace in
    let lines : length (run_with code o).trace ≡ length vm.run.trace.kept =
    ap length ran.over.trace ∙ length-map vm.run.trace.kept line_of in
    let so : EndedSo code o c.in_ok-ending.ending c.now-now.result c.steps-steps.result c.live-live.result c.kept_lines.result = record {
      ending = ran.answer;
      moment = c.now-now.ensures ∙ sym ran.over.moment;
      spent = c.steps-steps.ensures ∙ sym ran.over.steps;
      left = live_is code (course_of o) c.live-live.result
          (c.runs_hold.ensures code (from_inputs o.inputs) o.steps o.until c.requires.valid c.in_ok-vm.ensures.bound.can)
          (counts_of state pending vm (run_with code o).live c.live-live.result c.live-live.ensures ran.over.live);
      count = kept ∙ sym lines;
    } in
    counts code o c.in_ok-ending.ending c.now-now.result c.steps-steps.result c.live-live.result c.kept_lines.result c.in_ok-line.line.items
    so c.in_ok-line.ensures c.counted.result c.counted.ensures.status c.counted.ensures.text
