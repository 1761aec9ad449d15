-- One file, and the options behind it.
use Rattle.std.proofs.Common.{◌≤◌, ◌<◌, length, map, string_bytes, sym, subst, rules, ℕ}
use Rattle.std.proofs.lemmas.List.{length-map}
use Rattle.verse_top_args.proofs.CommandLemmas.{no_exec, not_one, is_exec}
use Rattle.verse_top_args.proofs.FileLemmas.{more_than_one}
use Rattle.verse_top_args.proofs.commands.exec.Goals as goal

pub returns-then-not-is_single-clause-asks : goal.returns-then-not-is_single-clause-asks
returns-then-not-is_single-clause-asks c =
    not_one (map string_bytes c.args.files.now) (map string_bytes c.args.options.now) c.requires.are c.requires.behind
    (subst (λ (n : ℕ). 1 < n) (sym (length-map c.args.files.now string_bytes))
    (more_than_one (length c.args.files.now) c.is_single.result c.is_single.ensures (search rules)))

pub returns-in_err-with_options-clause-asks : goal.returns-in_err-with_options-clause-asks
returns-in_err-with_options-clause-asks c =
    rw c.from_residual.ensures
    (no_exec (map string_bytes c.args.files.now) (map string_bytes c.args.options.now) c.requires.are c.requires.behind
    c.in_err-with_options.ensures.gives)

pub returns-clause-asks : goal.returns-clause-asks
returns-clause-asks c =
    let few : length c.args.files.now ≤ 1 = c.is_single.ensures.0 (search rules) in
    is_exec (map string_bytes c.args.files.now) (map string_bytes c.args.options.now) c.requires.are
    (subst (λ (n : ℕ). n ≤ 1) (sym (length-map c.args.files.now string_bytes)) few) c.in_ok-with_options.field-0
    c.in_ok-with_options.ensures.gives
    c.in_ok-with_options.ensures.files
