-- What is kept of a run can be kept again.
use Rattle.std.proofs.Common.{◌≤◌, ℕ, suc, subst, arith}
use Rattle.verse_code.specs.declared.codes.Code.{Code}
use Rattle.verse_code.specs.Validity.{Valid}
use Rattle.verse_base.specs.declared.limits.TheConstants.{MOST_NOW}
use Rattle.run_save_moves.specs.Fine.{TextsAreBytes}
use Rattle.run_save_fits.specs.Laws.{StageSavable, RunIsSavable, SavableGoesOn}
use Rattle.run_save_premises.specs.Inputs.{FewInputsFit}
use Rattle.run_save_twice.specs.Again.{ShownCanBeSaved}
use Rattle.vm_run.specs.Origins.{Origin, from_inputs, from_state, stage_after, CanBeRun}
use Rattle.vm_run.specs.Saving.{CanBeKept}
use Rattle.vm_resume.specs.Keeping.{KeptAgain}

within : {u v w : ℕ} → u ≤ v → v ≤ w → u ≤ w
within e f = omega (arith, e, f)

same : {n : ℕ} → n ≤ n
same = omega arith

module _ (c : Code) (valid : Valid c) (texts : TextsAreBytes c) (inputs : FewInputsFit) (savable : RunIsSavable) (goes_on : SavableGoesOn)
  where
    stops_savable : (origin : Origin) (steps until : ℕ) → CanBeRun c origin steps → CanBeKept c origin steps until → until ≤ MOST_NOW →
        StageSavable c steps until (stage_after c origin steps until (suc steps))
    stops_savable (from_inputs ns) steps until can kept short = savable c ns steps until (suc steps) valid texts (inputs ns can) short
    stops_savable (from_state s tss) steps until can kept short =
        goes_on c steps until until (suc (suc steps)) s tss valid texts same short kept.savable

pub kept_again : (c : Code) → Valid c → TextsAreBytes c → FewInputsFit → RunIsSavable → SavableGoesOn → ShownCanBeSaved → KeptAgain c
kept_again c valid texts inputs savable goes_on shown origin steps until later x can kept le short y =
    let s = stops_savable c valid texts inputs savable goes_on origin steps until can kept (within le short) in
    shown c steps until later y.state y.trees x valid le (subst (StageSavable c steps until) y.stopped s) y.shown
