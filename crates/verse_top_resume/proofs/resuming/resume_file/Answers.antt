-- What restoring the file gives, and what is left then.
use Rattle.std.proofs.Common.{◌≡◌, Err, List, ℕ, sym, subst, refl, arith}
use Rattle.run_save_shots.specs.View.{shot_of}
use Rattle.run_save_format.specs.Faults.{Tells}
use Rattle.run_save_format.specs.Whole.{file_at}
use Rattle.verse_top_exec.specs.Courses.{Comes, ComesSoFar}
use Rattle.verse_top_exec.specs.Executions.{IsNothing}
use Rattle.verse_top_exec.proofs.Leaving.{leaves_as, leaves_nothing}
use Rattle.verse_top_resume.specs.Resuming.{IsFault, Resumes, ResumesSoFar, course_from, goes_on, nothing, went_on}
use Rattle.verse_top_resume.proofs.Once.{resumes_fault}
use Rattle.verse_top_resume.proofs.resuming.resume_file.Goals as goal

pub returns-in-Err-Memory-clause-leaves : goal.returns-in-Err-Memory-clause-leaves
returns-in-Err-Memory-clause-leaves g c =
    let file = c.args.file.now in
    leaves_nothing (Resumes file c.args.until c.args.lines) (ResumesSoFar file c.args.until c.args.lines) (g.S.Sink.faults c.args.out.now)
    (g.S.Sink.faults c.args.out.now) (g.S.Sink.taken c.args.out.now) (g.S.Sink.taken c.args.out.now) nothing refl

pub returns-in-Err-Bad-clause-leaves : goal.returns-in-Err-Bad-clause-leaves
returns-in-Err-Bad-clause-leaves g c =
    let file = c.args.file.now in
    let told = subst (λ e. Tells file (Err e) (file_at file)) c.in-Err-Bad.field-0-is c.in-Err-Bad.ensures in
    leaves_as (IsFault c.in-Err-Bad.rule c.in-Err-Bad.at) (Resumes file c.args.until c.args.lines) IsNothing
    (ResumesSoFar file c.args.until c.args.lines) _ _ _ _ c.no_state.result
    (λ s t p. resumes_fault file c.args.until c.args.lines c.in-Err-Bad.rule c.in-Err-Bad.at told.0 s t told.1 told.2 p)
    (λ t p. subst (ResumesSoFar file c.args.until c.args.lines) (sym p) nothing) c.no_state.ensures.leaves

pub returns-in-Ok-clause-leaves : goal.returns-in-Ok-clause-leaves
returns-in-Ok-clause-leaves g c =
    let file = c.args.file.now in
    let code = c.in-Ok.code in
    let x = shot_of c.in-Ok.shot in
    let w = course_from code x c.args.until c.args.lines in
    leaves_as (Comes code w) (Resumes file c.args.until c.args.lines) (ComesSoFar code w)
    (ResumesSoFar file c.args.until c.args.lines) _ _ _ _
    c.go_on.result (λ s t p. went_on code x s t c.in-Ok.ensures p) (λ t p. goes_on code x t c.in-Ok.ensures p) c.go_on.ensures.leaves

pub go_on-requires-clause-valid : goal.go_on-requires-clause-valid
go_on-requires-clause-valid g c =
    (c.read_run_fits.ensures c.args.file.now c.in-Ok.code (shot_of c.in-Ok.shot) (λ i. omega (arith, c.type_inv.file i)) c.in-Ok.ensures).0

pub go_on-requires-clause-fits : goal.go_on-requires-clause-fits
go_on-requires-clause-fits g c =
    (c.read_run_fits.ensures c.args.file.now c.in-Ok.code (shot_of c.in-Ok.shot) (λ i. omega (arith, c.type_inv.file i)) c.in-Ok.ensures).1
