-- What comes of the files of the command, and what is done with the program in them.
use Rattle.std.proofs.Common.{◌≡◌, List, ℕ, inl, map, string_bytes, refl, sym, subst, ◌∙◌}
use Rattle.verse_top_args.specs.Words.{AreFiles, files_of}
use Rattle.verse_top_exec.specs.declared.stops.Stop.TheVariants as stop
use Rattle.verse_top_exec.specs.Leaving.{Leaves}
use Rattle.verse_top_exec.proofs.Leaving.{at_error, leaves_as, leaves_nothing}
use Rattle.verse_top.specs.Answers.{Answers, Begins, nothing}
use Rattle.verse_top.specs.Ends.{Replies}
use Rattle.verse_top.specs.Fronted.{Fronts}
use Rattle.verse_top.specs.Loading.{AreLoaded}
use Rattle.verse_top.specs.declared.fronts.Fronted.{Fronted}
use Rattle.verse_top.specs.declared.fronts.Fronted.TheVariants as f
use Rattle.verse_top.proofs.AnswerLaws.{asks_for_files, asks_for_program, program_named}
use Rattle.verse_top.proofs.ExecuteLaws.{leaves_answer}
use Rattle.verse_top.proofs.call.over_program.Goals as goal

pub front-requires : goal.front-requires
front-requires g c = subst AreFiles (sym c.files.ensures) (program_named c.args.request c.requires.program c.requires.files)

pub returns-in_err-program-clause-leaves : goal.returns-in_err-program-clause-leaves
returns-in_err-program-clause-leaves g c d asks =
    let replies = Replies d (g.F.Files.holds c.args.files.now) (g.F.Files.faults c.args.files.now) (g.F.Files.faults c.front.new.files) in
    let begins = Begins (g.F.Files.holds c.args.files.now) d in
    let faults = g.S.Sink.faults c.args.out.now in
    let taken = g.S.Sink.taken c.args.out.now in
    at_error c.from_residual.result (Leaves replies begins faults faults taken taken) stop.Memory c.from_residual.ensures.1
    (leaves_nothing replies begins faults faults taken taken (nothing d) refl)

pub returns-in-Accepted-clause-leaves : goal.returns-in-Accepted-clause-leaves
returns-in-Accepted-clause-leaves g c d asks =
    let held = g.F.Files.holds c.args.files.now in
    let files_before = g.F.Files.faults c.args.files.now in
    let files_now = g.F.Files.faults c.front.new.files in
    let names = map string_bytes c.files.result.now in
    let comes : Fronts held files_before files_now names (f.Accepted c.in-Accepted.program) =
    subst (λ (x : Fronted). Fronts held files_before files_now names x) c.in-Accepted.is c.in_ok-program.ensures.comes in
    let same : names ≡ files_of d = c.files.ensures ∙ sym (asks_for_files c.args.request d asks) in
    let loaded : AreLoaded held (files_of d) comes.0 = subst (λ (ns : List (List ℕ)). AreLoaded held ns comes.0) same comes.1.0 in
    leaves_as (Answers held d) (Replies d held files_before files_now) (Begins held d) (Begins held d)
    (g.S.Sink.faults c.args.out.now) (g.S.Sink.faults c.proceed.new.out) (g.S.Sink.taken c.args.out.now)
    (g.S.Sink.taken c.proceed.new.out) c.proceed.result (λ s t p. inl p) (λ t p. p)
    (c.proceed.ensures.leaves held d comes.0 asks loaded comes.1.1)

pub returns-in-Refused-clause-leaves : goal.returns-in-Refused-clause-leaves
returns-in-Refused-clause-leaves g c d asks =
    let held = g.F.Files.holds c.args.files.now in
    let files_before = g.F.Files.faults c.args.files.now in
    let files_now = g.F.Files.faults c.front.new.files in
    let names = map string_bytes c.files.result.now in
    let answer = c.in-Refused.answer in
    let comes : Fronts held files_before files_now names (f.Refused answer) =
    subst (λ (x : Fronted). Fronts held files_before files_now names x) c.in-Refused.is c.in_ok-program.ensures.comes in
    let same : files_of d ≡ names = asks_for_files c.args.request d asks ∙ sym c.files.ensures in
    leaves_answer d held files_before files_now (g.S.Sink.faults c.args.out.now) (g.S.Sink.faults c.write_answer.new.out)
    (g.S.Sink.taken c.args.out.now) (g.S.Sink.taken c.write_answer.new.out) c.write_answer.result answer.status answer.text.items
    (comes d (asks_for_program c.args.request d c.requires.program asks) same) c.write_answer.ensures.leaves
