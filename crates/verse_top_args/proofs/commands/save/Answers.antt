-- One file, and options of a run without the lines of the heap.
use Rattle.std.proofs.Common.{◌<◌, ◌≤◌, length, map, string_bytes, sym, subst, rules, ℕ}
use Rattle.std.proofs.lemmas.List.{length-map}
use Rattle.verse_top_args.proofs.CommandLemmas.{is_save, no_save, no_save_with_heap, not_one_saved}
use Rattle.verse_top_args.proofs.FileLemmas.{more_than_one}
use Rattle.verse_top_args.proofs.commands.save.Goals as goal

pub returns-then-not-is_single-clause-asks : goal.returns-then-not-is_single-clause-asks
returns-then-not-is_single-clause-asks c =
    not_one_saved (map string_bytes c.args.files.now) (map string_bytes c.args.options.now) c.requires.are c.requires.behind
    (subst (λ (n : ℕ). 1 < n) (sym (length-map c.args.files.now string_bytes))
    (more_than_one (length c.args.files.now) c.is_single.result c.is_single.ensures (search rules)))

pub returns-in_err-running-clause-asks : goal.returns-in_err-running-clause-asks
returns-in_err-running-clause-asks c =
    rw c.from_residual.ensures
    (no_save (map string_bytes c.args.files.now) (map string_bytes c.args.options.now) c.requires.are c.requires.behind
    c.in_err-running.ensures.gives)

pub returns-then-running-clause-asks : goal.returns-then-running-clause-asks
returns-then-running-clause-asks c =
    no_save_with_heap (map string_bytes c.args.files.now) (map string_bytes c.args.options.now) c.requires.are c.requires.behind
    c.in_ok-running.running c.in_ok-running.ensures.gives c.if-running.true

pub returns-clause-asks : goal.returns-clause-asks
returns-clause-asks c =
    let few : length c.args.files.now ≤ 1 = c.is_single.ensures.0 (search rules) in
    is_save (map string_bytes c.args.files.now) (map string_bytes c.args.options.now) c.requires.are
    (subst (λ (n : ℕ). n ≤ 1) (sym (length-map c.args.files.now string_bytes)) few) c.in_ok-running.running
    c.in_ok-running.ensures.gives c.if-running.false
    c.in_ok-running.ensures.files
