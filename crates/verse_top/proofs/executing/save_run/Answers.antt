-- The inputs that the words list.
use Rattle.std.proofs.Common.{◌≡◌, List, ℤ, refl, subst, ◌∙◌}
use Rattle.verse_top_args.specs.Requests.{options_with}
use Rattle.verse_top_args.proofs.CommandLemmas.{inputs_once}
use Rattle.verse_top_exec.specs.declared.stops.Stop.TheVariants as stop
use Rattle.verse_top_exec.specs.Executions.{nothing}
use Rattle.verse_top_exec.specs.Leaving.{Leaves}
use Rattle.verse_top_exec.proofs.Leaving.{at_error, leaves_nothing}
use Rattle.verse_top_save.specs.Saving.{Saves, SavesSoFar}
use Rattle.verse_top.proofs.executing.save_run.Goals as goal

pub returns-in_err-inputs-clause-leaves : goal.returns-in_err-inputs-clause-leaves
returns-in_err-inputs-clause-leaves g c ns lists =
    let o = options_with c.args.running ns in
    let whole = Saves c.args.bytes.now o in
    let so_far = SavesSoFar c.args.bytes.now o in
    let faults = g.S.Sink.faults c.args.out.now in
    let taken = g.S.Sink.taken c.args.out.now in
    at_error c.from_residual.result (Leaves whole so_far faults faults taken taken) stop.Memory c.from_residual.ensures.1
    (leaves_nothing whole so_far faults faults taken taken nothing refl)

pub returns-clause-leaves : goal.returns-clause-leaves
returns-clause-leaves g c ns lists =
    let same : c.as_slice.result.now ≡ ns = c.as_slice.ensures.value ∙ inputs_once c.in_ok-inputs.ensures lists in
    subst (λ (xs : List ℤ). Leaves (Saves c.args.bytes.now (options_with c.args.running xs))
    (SavesSoFar c.args.bytes.now (options_with c.args.running xs)) (g.S.Sink.faults c.args.out.now) (g.S.Sink.faults c.save_image.new.out)
    (g.S.Sink.taken c.args.out.now) (g.S.Sink.taken c.save_image.new.out) c.save_image.result)
    same c.save_image.ensures.leaves
