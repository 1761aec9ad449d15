-- One file, and no steps and no inputs.
use Rattle.std.proofs.Common.{◌<◌, ◌≤◌, IsTrue, length, map, string_bytes, refl, sym, subst, rules, ℕ}
use Rattle.std.proofs.lemmas.List.{length-map}
use Rattle.verse_top_args.proofs.CommandLemmas.{is_resume, no_resume, no_resume_with, not_one_resumed}
use Rattle.verse_top_args.specs.Settings.{given_of}
use Rattle.verse_top_args.proofs.FileLemmas.{more_than_one}
use Rattle.verse_top_args.proofs.commands.resume.Goals as goal

pub returns-then-not-is_single-clause-asks : goal.returns-then-not-is_single-clause-asks
returns-then-not-is_single-clause-asks c =
    not_one_resumed (map string_bytes c.args.files.now) (map string_bytes c.args.options.now) c.requires.are c.requires.behind
    (subst (λ (n : ℕ). 1 < n) (sym (length-map c.args.files.now string_bytes))
    (more_than_one (length c.args.files.now) c.is_single.result c.is_single.ensures (search rules)))

pub returns-in_err-given-clause-asks : goal.returns-in_err-given-clause-asks
returns-in_err-given-clause-asks c =
    rw c.from_residual.ensures
    (no_resume (map string_bytes c.args.files.now) (map string_bytes c.args.options.now) c.requires.are c.requires.behind
    c.in_err-given.ensures)

pub returns-then-not-goes_on-clause-asks : goal.returns-then-not-goes_on-clause-asks
returns-then-not-goes_on-clause-asks c =
    no_resume_with (map string_bytes c.args.files.now) (map string_bytes c.args.options.now) c.requires.are c.requires.behind
    (given_of c.in_ok-given.given) c.in_ok-given.ensures
    (λ none. (let there : IsTrue c.goes_on.result = c.goes_on.ensures.1 none in cc (there, c.if-not-goes_on.true)))

pub returns-clause-asks : goal.returns-clause-asks
returns-clause-asks c =
    let few : length c.args.files.now ≤ 1 = c.is_single.ensures.0 (search rules) in
    let on : IsTrue c.goes_on.result = search rules in
    let none = c.goes_on.ensures.0 on in
    is_resume (map string_bytes c.args.files.now) (map string_bytes c.args.options.now) c.requires.are
    (subst (λ (n : ℕ). n ≤ 1) (sym (length-map c.args.files.now string_bytes)) few) (given_of c.in_ok-given.given)
    c.in_ok-given.ensures none.0 none.1
    (record { files = c.args.files; until = c.unwrap_or.result; heap = c.in_ok-given.given.heap }) refl c.unwrap_or.ensures refl
