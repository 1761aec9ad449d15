-- The file is loaded, or it is told that it was not.
use Rattle.std.proofs.Common.{◌≡◌, ◌⊎◌, ℕ, List, [], ◌∷◌, Err, inl, string_bytes, subst, sym, ap, ◌∙◌, refl, rules}
use Rattle.verse_outside.specs.Causes.{Rose}
use Rattle.verse_outside.specs.Held.{Lacks, Loads}
use Rattle.verse_outside.specs.declared.files.LoadFault.TheVariants as fault
use Rattle.verse_top_args.specs.Words.{files_of}
use Rattle.verse_top_exec.specs.declared.stops.Stop.TheVariants as stop
use Rattle.verse_top_exec.specs.Leaving.{Leaves}
use Rattle.verse_top_exec.proofs.Leaving.{at_error, leaves_as, leaves_nothing}
use Rattle.verse_top.specs.Answers.{Answers, Begins, nothing, read_line}
use Rattle.verse_top.specs.Ends.{Replies}
use Rattle.verse_top.specs.Loading.{IsRead}
use Rattle.verse_top.proofs.AnswerLaws.{asks_for_files, asks_for_one}
use Rattle.verse_top.proofs.ExecuteLaws.{first_file, leaves_unread, some_file}
use Rattle.verse_top.proofs.executing.over_file.Goals as goal

pub returns-in-Ok-clause-leaves : goal.returns-in-Ok-clause-leaves
returns-in-Ok-clause-leaves g c d asks =
    let held = g.F.Files.holds c.args.files.now in
    let one = asks_for_one c.args.request d c.requires.file asks in
    let named : files_of d ≡ one.0 ∷ [] = one.1 in
    let are = c.files.ensures ∙ sym (asks_for_files c.args.request d asks) ∙ named in
    let name : c.as_str-name.result.now ≡ one.0 = c.as_str-name.ensures.value ∙
    first_file string_bytes c.files.result.now one.0 c.index-files-0.result are c.index-files-0.is in
    let loads : IsRead held one.0 c.in-Ok.bytes.items =
    subst (λ (n : List ℕ). Loads held n 18446744073709551615 c.in-Ok.bytes.items) name c.in-Ok.ensures.bytes in
    let read : IsRead held one.0 c.as_slice.result.now =
    subst (λ (b : List ℕ). IsRead held one.0 b) (sym c.as_slice.ensures.value) loads in
    leaves_as (Answers held d) (Replies d held (g.F.Files.faults c.args.files.now) (g.F.Files.faults c.load.new.self)) (Begins held d)
    (Begins held d) (g.S.Sink.faults c.args.out.now) (g.S.Sink.faults c.over_bytes.new.out) (g.S.Sink.taken c.args.out.now)
    (g.S.Sink.taken c.over_bytes.new.out) c.over_bytes.result (λ s t p. inl p) (λ t p. p)
    (c.over_bytes.ensures.leaves held d one.0 asks named read)

pub returns-in_err-answer-in-Err-Failed-clause-leaves : goal.returns-in_err-answer-in-Err-Failed-clause-leaves
returns-in_err-answer-in-Err-Failed-clause-leaves g c d asks =
    let held = g.F.Files.holds c.args.files.now in
    let replies = Replies d held (g.F.Files.faults c.args.files.now) (g.F.Files.faults c.load.new.self) in
    let faults = g.S.Sink.faults c.args.out.now in
    let taken = g.S.Sink.taken c.args.out.now in
    at_error c.from_residual.result (Leaves replies (Begins held d) faults faults taken taken) stop.Memory c.from_residual.ensures.1
    (leaves_nothing replies (Begins held d) faults faults taken taken (nothing d) refl)

pub returns-in_ok-answer-in-Err-Failed-clause-leaves : goal.returns-in_ok-answer-in-Err-Failed-clause-leaves
returns-in_ok-answer-in-Err-Failed-clause-leaves g c d asks =
    let held = g.F.Files.holds c.args.files.now in
    let before = g.F.Files.faults c.args.files.now in
    let now = g.F.Files.faults c.load.new.self in
    let one = asks_for_one c.args.request d c.requires.file asks in
    let named : files_of d ≡ one.0 ∷ [] = one.1 in
    let are = c.files.ensures ∙ sym (asks_for_files c.args.request d asks) ∙ named in
    let name : c.as_str-name.result.now ≡ one.0 = c.as_str-name.ensures.value ∙
    first_file string_bytes c.files.result.now one.0 c.index-files-0.result are c.index-files-0.is in
    let is : c.load.result ≡ Err fault.Failed = search rules in
    let cause : Rose before now ⊎ Lacks held one.0 =
    subst (λ (n : List ℕ). Rose before now ⊎ Lacks held n) name (c.load.ensures.failed is) in
    let answer = c.in_ok-answer-in-Err-Failed.answer in
    let told = c.in_ok-answer-in-Err-Failed.ensures in
    leaves_unread held before now (g.S.Sink.faults c.args.out.now) (g.S.Sink.faults c.write_answer.new.out) (g.S.Sink.taken c.args.out.now)
    (g.S.Sink.taken c.write_answer.new.out) c.write_answer.result
    d one.0 named cause answer.status answer.text.items told.0 (told.1 ∙ ap read_line name) c.write_answer.ensures.leaves

pub returns-in-Err-Memory-clause-leaves : goal.returns-in-Err-Memory-clause-leaves
returns-in-Err-Memory-clause-leaves g c d asks =
    let held = g.F.Files.holds c.args.files.now in
    let faults = g.S.Sink.faults c.args.out.now in
    let taken = g.S.Sink.taken c.args.out.now in
    leaves_nothing (Replies d held (g.F.Files.faults c.args.files.now) (g.F.Files.faults c.load.new.self))
    (Begins held d) faults faults taken taken (nothing d) refl
