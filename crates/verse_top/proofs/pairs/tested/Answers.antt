-- Both files are read, or it is told which was not.
use Rattle.std.proofs.Common.{◌≡◌, ◌⊎◌, ℕ, List, Err, inl, inr, map, string_bytes, refl, subst, ap, ◌∙◌, rules}
use Rattle.verse_outside.specs.Causes.{Rose}
use Rattle.verse_outside.specs.Held.{Holding, Lacks, Loads}
use Rattle.verse_outside.specs.declared.files.LoadFault.TheVariants as fault
use Rattle.verse_top_texts.specs.declared.answers.Answer.{Answer}
use Rattle.verse_top_exec.proofs.Takes.{rose_from}
use Rattle.verse_top_verify.specs.Verifying.{Verifies}
use Rattle.verse_top.specs.Answers.{read_line}
use Rattle.verse_top.specs.Ends.{Replies}
use Rattle.verse_top.specs.Loading.{IsRead}
use Rattle.verse_top.proofs.AnswerLaws.{ok_then}
use Rattle.verse_top.proofs.PairLaws.{first_of, read_as, replies_first, replies_second, replies_verified, second_of}
use Rattle.verse_top.proofs.pairs.tested.Goals as goal

pub returns-in-Err-Failed-clause-replies : goal.returns-in-Err-Failed-clause-replies
returns-in-Err-Failed-clause-replies g c d asks =
    let held = g.F.Files.holds c.args.files.now in
    let before = g.F.Files.faults c.args.files.now in
    let now = g.F.Files.faults c.load.new.self in
    let names = map string_bytes c.args.names.now in
    let name : c.as_str-image.result.now ≡ asks.image = c.as_str-image.ensures.value ∙
    first_of string_bytes c.args.names.now asks.image asks.notes c.index-names-0.result asks.two c.index-names-0.is in
    let is : c.load.result ≡ Err fault.Failed = search rules in
    let cause : Rose before now ⊎ Lacks held asks.image =
    subst (λ (n : List ℕ). Rose before now ⊎ Lacks held n) name (c.load.ensures.failed is) in
    ok_then c.not_read.result (λ (a : Answer). (a.status ≡ 6) × (a.text.items ≡ read_line c.as_str-image.result.now))
    (λ (a : Answer). Replies d held before now a.status a.text.items)
    (λ a told. replies_first held d names asks before now a.status a.text.items cause told.0 (told.1 ∙ ap read_line name))
    c.not_read.ensures

pub returns-in-Err-Failed-load-clause-replies : goal.returns-in-Err-Failed-load-clause-replies
returns-in-Err-Failed-load-clause-replies g c d asks =
    let held = g.F.Files.holds c.args.files.now in
    let then_held = g.F.Files.holds c.load.new.self in
    let before = g.F.Files.faults c.args.files.now in
    let mid = g.F.Files.faults c.load.new.self in
    let now = g.F.Files.faults c.load-2.new.self in
    let names = map string_bytes c.args.names.now in
    let first : c.as_str-image.result.now ≡ asks.image = c.as_str-image.ensures.value ∙
    first_of string_bytes c.args.names.now asks.image asks.notes c.index-names-0.result asks.two c.index-names-0.is in
    let second : c.as_str-notes.result.now ≡ asks.notes = c.as_str-notes.ensures.value ∙
    second_of string_bytes c.args.names.now asks.image asks.notes c.index-names-1.result asks.two c.index-names-1.is in
    let read : IsRead held asks.image c.in-Ok.bytes.items =
    subst (λ (n : List ℕ). Loads held n 18446744073709551615 c.in-Ok.bytes.items) first c.in-Ok.ensures.bytes in
    let is : c.load-2.result ≡ Err fault.Failed = search rules in
    let found : Rose mid now ⊎ Lacks then_held asks.notes =
    subst (λ (n : List ℕ). Rose mid now ⊎ Lacks then_held n) second (c.load-2.ensures.failed is) in
    let cause : Rose before now ⊎ Lacks held asks.notes = elim found [
      | inl rose ↦ inl (rose_from before mid now c.load.ensures.later rose)
      | inr lacks ↦ inr (subst (λ (h : Holding). Lacks h asks.notes) c.load.ensures.same lacks)
    ] in
    ok_then c.not_read-in-Err-Failed-load.result
    (λ (a : Answer). (a.status ≡ 6) × (a.text.items ≡ read_line c.as_str-notes.result.now))
    (λ (a : Answer). Replies d held before now a.status a.text.items)
    (λ a told. replies_second held d names asks before now a.status a.text.items c.in-Ok.bytes.items read cause told.0
    (told.1 ∙ ap read_line second))
    c.not_read-in-Err-Failed-load.ensures

pub returns-in-Ok-load-clause-replies : goal.returns-in-Ok-load-clause-replies
returns-in-Ok-load-clause-replies g c d asks =
    let held = g.F.Files.holds c.args.files.now in
    let before = g.F.Files.faults c.args.files.now in
    let now = g.F.Files.faults c.load-2.new.self in
    let names = map string_bytes c.args.names.now in
    let bytes = c.as_slice.result.now in
    let more = c.as_slice-in-Ok-load.result.now in
    let first : c.as_str-image.result.now ≡ asks.image = c.as_str-image.ensures.value ∙
    first_of string_bytes c.args.names.now asks.image asks.notes c.index-names-0.result asks.two c.index-names-0.is in
    let second : c.as_str-notes.result.now ≡ asks.notes = c.as_str-notes.ensures.value ∙
    second_of string_bytes c.args.names.now asks.image asks.notes c.index-names-1.result asks.two c.index-names-1.is in
    let one : IsRead held asks.image bytes = read_as held held c.as_str-image.result.now asks.image c.in-Ok.bytes.items bytes refl first
    c.as_slice.ensures.value c.in-Ok.ensures.bytes in
    let other : IsRead held asks.notes more = read_as (g.F.Files.holds c.load.new.self) held c.as_str-notes.result.now asks.notes
    c.in-Ok-load.more.items more c.load.ensures.same second c.as_slice-in-Ok-load.ensures.value c.in-Ok-load.ensures.bytes in
    ok_then c.verify_image.result (λ (a : Answer). Verifies bytes more a.status a.text.items)
    (λ (a : Answer). Replies d held before now a.status a.text.items)
    (λ a v. replies_verified held d names asks before now a.status a.text.items bytes more one other v) c.verify_image.ensures
