-- The code runs with the inputs that the words list.
use Rattle.std.proofs.Common.{◌≡◌, ◌≤◌, List, ℤ, length, map, refl, sym, subst, ◌∙◌}
use Rattle.verse_tree.specs.ItemView.{item_of}
use Rattle.verse_top_args.specs.Requests.{options_with}
use Rattle.verse_top_args.proofs.CommandLemmas.{inputs_once}
use Rattle.verse_top_texts.specs.Streams.{nothing}
use Rattle.verse_top_exec.specs.declared.stops.Stop.TheVariants as stop
use Rattle.verse_top_exec.specs.Leaving.{Leaves}
use Rattle.verse_top_exec.proofs.Leaving.{at_error, leaves_nothing}
use Rattle.verse_top.specs.Answers.{Means}
use Rattle.verse_top.specs.Meaning.{MeansSoFar}
use Rattle.verse_top.proofs.ExecuteLaws.{few_inputs}
use Rattle.verse_top.proofs.ProgramLaws.{leaves_means}
use Rattle.verse_top.proofs.programs.run.Goals as goal

pub returns-in_err-inputs-clause-leaves : goal.returns-in_err-inputs-clause-leaves
returns-in_err-inputs-clause-leaves g c ns lists =
    let is = map item_of c.args.program.tree.items in
    let whole = Means is (options_with c.args.running ns) c.args.program.tree.files in
    let so_far = MeansSoFar is (options_with c.args.running ns) in
    let faults = g.S.Sink.faults c.args.out.now in
    let taken = g.S.Sink.taken c.args.out.now in
    at_error c.from_residual.result (Leaves whole so_far faults faults taken taken) stop.Memory c.from_residual.ensures.1
    (leaves_nothing whole so_far faults faults taken taken nothing refl)

pub returns-in_err-code-clause-leaves : goal.returns-in_err-code-clause-leaves
returns-in_err-code-clause-leaves g c ns lists =
    let is = map item_of c.args.program.tree.items in
    let whole = Means is (options_with c.args.running ns) c.args.program.tree.files in
    let so_far = MeansSoFar is (options_with c.args.running ns) in
    let faults = g.S.Sink.faults c.args.out.now in
    let taken = g.S.Sink.taken c.args.out.now in
    at_error c.from_residual-in_err-code.result (Leaves whole so_far faults faults taken taken) stop.Memory
    c.from_residual-in_err-code.ensures.1
    (leaves_nothing whole so_far faults faults taken taken nothing refl)

pub run_code-requires-clause-within : goal.run_code-requires-clause-within
run_code-requires-clause-within g c = record {
  inputs = subst (λ (ns : List ℤ). length ns ≤ 1000) (sym c.as_slice.ensures.value) (few_inputs c.in_ok-inputs.ensures);
  steps = c.requires.within.steps;
  until = c.requires.within.until;
}

pub returns-clause-leaves : goal.returns-clause-leaves
returns-clause-leaves g c ns lists =
    let is = map item_of c.args.program.tree.items in
    let count = c.args.program.tree.files in
    let before = g.S.Sink.faults c.args.out.now in
    let now = g.S.Sink.faults c.run_code.new.out in
    let old = g.S.Sink.taken c.args.out.now in
    let new = g.S.Sink.taken c.run_code.new.out in
    let same : c.as_slice.result.now ≡ ns = c.as_slice.ensures.value ∙ inputs_once c.in_ok-inputs.ensures lists in
    subst (λ (xs : List ℤ). Leaves (Means is (options_with c.args.running xs) count) (MeansSoFar is (options_with c.args.running xs))
    before now old new c.run_code.result) same
    (leaves_means before now old new c.run_code.result is count c.in_ok-code.code (options_with c.args.running c.as_slice.result.now)
    c.in_ok-code.ensures.code c.in_ok-code.ensures.does c.run_code.ensures.leaves)
