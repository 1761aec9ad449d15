-- The files are loaded and judged, or one was not read.
use Rattle.std.proofs.Common.{◌≡◌, ◌<◌, ◌⊎◌, ℕ, List, [], inl, length, map, string_bytes, slice_index_or, sym, subst, ◌∙◌, ap, arith}
use Rattle.std.proofs.lemmas.List.{length-map}
use Rattle.verse_outside.specs.Causes.{Rose}
use Rattle.verse_top.specs.Loaded.{Comes}
use Rattle.verse_top.specs.Loading.{AreLoaded, IsAbsent}
use Rattle.verse_top.specs.declared.loading.Loading.{Loading}
use Rattle.verse_top.specs.declared.loading.Loading.TheVariants as l
use Rattle.verse_top.proofs.AnswerLaws.{answers_large}
use Rattle.verse_top.proofs.FrontLaws.{fronts_judged, replies_unread}
use Rattle.verse_top.proofs.LoadLaws.{loaded_count}
use Rattle.verse_top.proofs.LoadSteps.{among_at, name_at}
use Rattle.verse_top.proofs.fronts.front.Goals as goal

pub judge-requires-clause-some : goal.judge-requires-clause-some
judge-requires-clause-some g c =
    let names = map string_bytes c.args.names.now in
    let held = g.F.Files.holds c.args.files.now in
    let loaded : AreLoaded held names (map (λ f. f.items) c.in-All.loaded.items) =
    subst (λ (x : Loading). Comes held (g.F.Files.faults c.args.files.now) (g.F.Files.faults c.load_all.new.files) names x) c.in-All.is
    c.in_ok-loaded.ensures.comes in
    let some = (loaded_count held names (map (λ f. f.items) c.in-All.loaded.items) c.requires loaded).0 in
    let count = length-map c.in-All.loaded.items (λ f. f.items) in
    let same = ap length c.as_slice.ensures.value in
    omega arith

pub judge-requires-clause-few : goal.judge-requires-clause-few
judge-requires-clause-few g c =
    let names = map string_bytes c.args.names.now in
    let held = g.F.Files.holds c.args.files.now in
    let loaded : AreLoaded held names (map (λ f. f.items) c.in-All.loaded.items) =
    subst (λ (x : Loading). Comes held (g.F.Files.faults c.args.files.now) (g.F.Files.faults c.load_all.new.files) names x) c.in-All.is
    c.in_ok-loaded.ensures.comes in
    let few = (loaded_count held names (map (λ f. f.items) c.in-All.loaded.items) c.requires loaded).1 in
    let count = length-map c.in-All.loaded.items (λ f. f.items) in
    let same = ap length c.as_slice.ensures.value in
    omega arith

pub returns-in-All-clause-comes : goal.returns-in-All-clause-comes
returns-in-All-clause-comes g c =
    let names = map string_bytes c.args.names.now in
    let held = g.F.Files.holds c.args.files.now in
    let before = g.F.Files.faults c.args.files.now in
    let now = g.F.Files.faults c.load_all.new.files in
    let loaded : AreLoaded held names (map (λ f. f.items) c.in-All.loaded.items) =
    subst (λ (x : Loading). Comes held before now names x) c.in-All.is c.in_ok-loaded.ensures.comes in
    let there : AreLoaded held names (map (λ f. f.items) c.as_slice.result.now) =
    subst (λ fs. AreLoaded held names (map (λ f. f.items) fs)) (sym c.as_slice.ensures.value) loaded in
    fronts_judged held before now names (map (λ f. f.items) c.as_slice.result.now) c.judge.result there c.judge.ensures

pub returns-in_ok-answer-in-TooLarge-clause-comes : goal.returns-in_ok-answer-in-TooLarge-clause-comes
returns-in_ok-answer-in-TooLarge-clause-comes g c d program e =
    let names = map string_bytes c.args.names.now in
    let held = g.F.Files.holds c.args.files.now in
    let comes : Comes held (g.F.Files.faults c.args.files.now) (g.F.Files.faults c.load_all.new.files) names
    (l.TooLarge c.in-TooLarge.file) = subst (λ (x : Loading).
    Comes held (g.F.Files.faults c.args.files.now) (g.F.Files.faults c.load_all.new.files) names x) c.in-TooLarge.is
    c.in_ok-loaded.ensures.comes in
    let answer = c.in_ok-answer-in-TooLarge.answer in
    let told = c.in_ok-answer-in-TooLarge.ensures in
    inl (answers_large held d names c.in-TooLarge.file answer.status answer.text.items program e told.0 told.1 comes)

pub returns-in_ok-answer-in-Failed-clause-comes : goal.returns-in_ok-answer-in-Failed-clause-comes
returns-in_ok-answer-in-Failed-clause-comes g c d program e =
    let names = map string_bytes c.args.names.now in
    let held = g.F.Files.holds c.args.files.now in
    let before = g.F.Files.faults c.args.files.now in
    let now = g.F.Files.faults c.load_all.new.files in
    let comes : Comes held before now names (l.Failed c.in-Failed.file) =
    subst (λ (x : Loading). Comes held before now names x) c.in-Failed.is c.in_ok-loaded.ensures.comes in
    let low : c.in-Failed.file < length c.args.names.now =
    subst (λ (n : ℕ). c.in-Failed.file < n) (length-map c.args.names.now string_bytes) comes.0 in
    let name : slice_index_or names c.in-Failed.file [] ≡ c.as_str.result.now =
    name_at string_bytes c.args.names.now c.in-Failed.file c.index-names-file.result low c.index-names-file.is ∙
    sym c.as_str.ensures.value in
    let cause : Rose before now ⊎ IsAbsent held names c.as_str.result.now =
    subst (λ (n : List ℕ). Rose before now ⊎ IsAbsent held names n) name comes.1 in
    let answer = c.in_ok-answer-in-Failed.answer in
    let told = c.in_ok-answer-in-Failed.ensures in
    replies_unread d held before now names c.as_str.result.now answer.status answer.text.items program e
    (among_at names c.in-Failed.file c.as_str.result.now comes.0 name) cause told.0 told.1
