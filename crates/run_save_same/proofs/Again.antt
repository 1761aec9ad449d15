-- A run goes on from what is kept of it.
use Rattle.std.proofs.Common.{◌+◌, subst, ap, ◌∙◌}
use Rattle.verse_code_machine.specs.Goings.{RunEndsFrom}
use Rattle.verse_code_machine_saved.specs.Horizons.{run_from}
use Rattle.verse_code_machine_saved.specs.Resuming.{behind, RunResumed, StepsKept}
use Rattle.run_save_shots.specs.Kept.{Kept}
use Rattle.run_save_shots.specs.Spelling.{state, trees}
use Rattle.run_save_kept.specs.Laws.{SavedStatesFit}
use Rattle.run_save_resumes.specs.Laws.{FitsIsResumable, FittingRunEnds}
use Rattle.run_save_same.specs.Again.{SpelledStateIsApart, KeptStepsAreTheRuns, SavedRunGoesOn, SavedRunIsTheRun}

pub spelled_state_is_apart : SpelledStateIsApart
spelled_state_is_apart x s tss y = ap state y.is

pub kept_steps_are_the_runs : StepsKept → KeptStepsAreTheRuns
kept_steps_are_the_runs law c ns steps u s tss x e y = ap (λ (k : Kept). k.left + k.spent) y.is ∙ law c ns steps u s tss e

pub saved_run_goes_on : StepsKept → SavedStatesFit → FitsIsResumable → FittingRunEnds → SavedRunGoesOn
saved_run_goes_on kept fit can ends c ns steps u v s tss x valid bytes inputs few short e y =
    let a = fit c ns steps u s tss x valid bytes inputs few short e y in
    let n = kept_steps_are_the_runs kept c ns steps u s tss x e y in
    record { steps_are = n; resumable = can c x a; ends = subst (λ n. RunEndsFrom c n v (state x) (trees c x)) n (ends c x v valid a) }

pub saved_run_is_the_run : RunResumed → SavedRunIsTheRun
saved_run_is_the_run law c ns steps u v s tss x valid le e y same =
    let a = law c ns steps u v s tss (trees c x) valid le e same in
    (a.0, ap (λ t. behind s.memory.trace (run_from c steps v t (trees c x))) (spelled_state_is_apart x s tss y) ∙ a.1)
