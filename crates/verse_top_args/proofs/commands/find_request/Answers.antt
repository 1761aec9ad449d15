-- The words behind the command's name, parted into files and options.
use Rattle.std.proofs.Common.{◌≡◌, ◌≢◌, codes, ◌∷◌, ◌++◌, IsTrue, map, string_bytes, ap, subst, ◌∙◌, ◌≤◌}
use Rattle.std.proofs.lemmas.List.{map-append, length-map}
use Rattle.verse_top_args.proofs.CommandLemmas.{Parted, files_are}
use Rattle.verse_top_args.proofs.commands.find_request.Goals as goal

pub returns-then-not-is_program-clause-asks : goal.returns-then-not-is_program-clause-asks
returns-then-not-is_program-clause-asks c = λ d s. (
    let words : map string_bytes c.args.words.now ≡ string_bytes c.in_ok-command.command.now ∷ map string_bytes c.in_ok-command.behind.now =
    ap (map string_bytes) c.in_ok-command.ensures.cases.0 in
    let behind : map string_bytes c.in_ok-command.behind.now ≡ map string_bytes c.split_files.result.0.now ++
    map string_bytes c.split_files.result.1.now =
    ap (map string_bytes) c.split_files.ensures.parts ∙ map-append string_bytes c.split_files.result.0.now c.split_files.result.1.now in
    let parted : Parted (map string_bytes c.args.words.now) (string_bytes c.in_ok-command.command.now)
    (map string_bytes c.split_files.result.0.now) (map string_bytes c.split_files.result.1.now) =
    record { is = cc (words, behind); each = c.split_files.ensures.files; behind = c.split_files.ensures.behind } in
    let other : string_bytes c.in_ok-command.command.now ≢ codes "load" = λ e. (let there : IsTrue c.is.result =
    c.is.ensures.1 (c.as_str-command.ensures.value ∙ e) in cc (there, c.if-is.false)) in
    let are = files_are (string_bytes c.in_ok-command.command.now) s parted other in
    let fit : IsTrue c.is_program.result = c.is_program.ensures.1 (
      subst (λ n. 1 ≤ n) (length-map c.split_files.result.0.now string_bytes) are.some,
      subst (λ n. n ≤ 16) (length-map c.split_files.result.0.now string_bytes) are.few,
    ) in
    cc (fit, c.if-not-is_program.true))
