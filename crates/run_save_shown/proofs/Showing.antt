-- What is kept of a run that stopped spells its state, since no two tasks have one number.
use Rattle.std.proofs.Common.{suc, subst}
use Rattle.run_save_kept.specs.Laws.{SavedStatesFit, ResumedStatesFit}
use Rattle.run_save_apart.specs.Laws.{StageIsApart, RunIsApart, ApartGoesOn}
use Rattle.run_save_shown.specs.Shown.{StoppedRunIsShown, ResumedRunIsShown}

pub stopped_shown : RunIsApart → SavedStatesFit → StoppedRunIsShown
stopped_shown run_apart fit c ns steps until s tss x valid bytes inputs few short e spells =
    let a = spells (subst StageIsApart e (run_apart c ns steps until (suc steps) valid bytes)) in
    record { spells = a; fits = fit c ns steps until s tss x valid bytes inputs few short e a }

pub resumed_shown : ApartGoesOn → ResumedStatesFit → ResumedRunIsShown
resumed_shown goes_on fit c steps until later k s r tss uss x valid bytes few le short can belongs e spells =
    let a = spells (subst StageIsApart e (goes_on c steps later k s tss valid bytes can.savable.rooted can.apart)) in
    record { spells = a; fits = fit c steps until later k s r tss uss x valid bytes few le short can.savable can.orderly e belongs a }
