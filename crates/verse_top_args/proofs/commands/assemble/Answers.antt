-- One file, with nothing behind it.
use Rattle.std.proofs.Common.{IsTrue, map, string_bytes}
use Rattle.verse_top_args.specs.Words.{assemble, says_assemble}
use Rattle.verse_top_args.proofs.CommandLemmas.{alone_words, is_alone, no_assemble, words_alone}
use Rattle.verse_top_args.proofs.commands.assemble.Goals as goal

pub returns-then-is_alone-clause-asks : goal.returns-then-is_alone-clause-asks
returns-then-is_alone-clause-asks c =
    is_alone assemble _ (λ file is. says_assemble is) (map string_bytes c.args.files.now) (map string_bytes c.args.options.now)
    c.requires.are (alone_words string_bytes c.args.files.now c.args.options.now (c.is_alone.ensures.0 c.if-is_alone.true))

pub returns-else-is_alone-clause-asks : goal.returns-else-is_alone-clause-asks
returns-else-is_alone-clause-asks c =
    no_assemble (map string_bytes c.args.files.now) (map string_bytes c.args.options.now) c.requires.are c.requires.behind
    (λ one. (let there : IsTrue c.is_alone.result =
    c.is_alone.ensures.1 (words_alone string_bytes c.args.files.now c.args.options.now one) in
    cc (there, c.if-is_alone.false)))
