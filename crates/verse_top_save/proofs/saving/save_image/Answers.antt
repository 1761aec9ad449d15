-- What decoding the bytes gives, and what is left then.
use Rattle.std.proofs.Common.{◌≡◌, Err, List, ℕ, sym, subst, refl}
use Rattle.verse_image.specs.Reading.{Tells, image_at}
use Rattle.verse_top_exec.specs.Asking.{options_of}
use Rattle.verse_top_exec.specs.Executions.{IsFault, IsNothing, nothing, runs}
use Rattle.verse_top_exec.proofs.Leaving.{leaves_as, leaves_nothing}
use Rattle.verse_top_save.specs.Saving.{Saves, SavesRun, SavesRunSoFar, SavesSoFar, ran}
use Rattle.verse_top_save.proofs.Answered.{saves_fault}
use Rattle.verse_top_save.proofs.saving.save_image.Goals as goal

pub returns-in-Ok-clause-leaves : goal.returns-in-Ok-clause-leaves
returns-in-Ok-clause-leaves g c =
    let o = options_of c.args.asked in
    let bytes = c.args.bytes.now in
    let code = c.in-Ok.code in
    let found = c.in-Ok.ensures.found in
    leaves_as (SavesRun code o) (Saves bytes o) (SavesRunSoFar code o) (SavesSoFar bytes o) _ _ _ _ c.save_code.result
    (λ s t p. ran found.0 code s t found.1 p) (λ t p. runs found.0 code t found.1 p) c.save_code.ensures.leaves

pub returns-in-Err-Bad-clause-leaves : goal.returns-in-Err-Bad-clause-leaves
returns-in-Err-Bad-clause-leaves g c =
    let o = options_of c.args.asked in
    let bytes = c.args.bytes.now in
    let told = subst (λ e. Tells bytes (Err e) (image_at bytes)) c.in-Err-Bad.field-0-is c.in-Err-Bad.ensures.exact in
    leaves_as (IsFault c.in-Err-Bad.rule c.in-Err-Bad.at) (Saves bytes o) IsNothing (SavesSoFar bytes o) _ _ _ _ c.no_image.result
    (λ s t p. saves_fault bytes o c.in-Err-Bad.rule c.in-Err-Bad.at told.0 s t told.1 told.2 p)
    (λ t p. subst (SavesSoFar bytes o) (sym p) nothing) c.no_image.ensures.leaves

pub returns-in-Err-Memory-clause-leaves : goal.returns-in-Err-Memory-clause-leaves
returns-in-Err-Memory-clause-leaves g c =
    let o = options_of c.args.asked in
    leaves_nothing (Saves c.args.bytes.now o) (SavesSoFar c.args.bytes.now o) (g.S.Sink.faults c.args.out.now)
    (g.S.Sink.faults c.args.out.now) (g.S.Sink.taken c.args.out.now) (g.S.Sink.taken c.args.out.now) nothing refl
