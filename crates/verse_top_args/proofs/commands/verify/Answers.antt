-- Two files, with nothing behind them.
use Rattle.std.proofs.Common.{IsTrue, map, string_bytes}
use Rattle.verse_top_args.proofs.CommandLemmas.{is_verify, no_verify, two_words, words_two}
use Rattle.verse_top_args.proofs.commands.verify.Goals as goal

pub returns-then-are_two-clause-asks : goal.returns-then-are_two-clause-asks
returns-then-are_two-clause-asks c =
    is_verify (map string_bytes c.args.files.now) (map string_bytes c.args.options.now) c.requires.are
    (two_words string_bytes c.args.files.now c.args.options.now (c.are_two.ensures.0 c.if-are_two.true))

pub returns-else-are_two-clause-asks : goal.returns-else-are_two-clause-asks
returns-else-are_two-clause-asks c =
    no_verify (map string_bytes c.args.files.now) (map string_bytes c.args.options.now) c.requires.are c.requires.behind
    (λ two. (let there : IsTrue c.are_two.result =
    c.are_two.ensures.1 (words_two string_bytes c.args.files.now c.args.options.now two) in
    cc (there, c.if-are_two.false)))
