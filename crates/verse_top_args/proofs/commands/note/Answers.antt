-- Nothing stands behind the files of notes.
use Rattle.std.proofs.Common.{◌≡◌, ◌≢◌, [], length, map, string_bytes, rules}
use Rattle.verse_top_args.proofs.CommandLemmas.{is_note, no_note}
use Rattle.verse_top_args.proofs.FileLemmas.{no_words, some_words}
use Rattle.verse_top_args.proofs.commands.note.Goals as goal

pub returns-then-is_empty-clause-asks : goal.returns-then-is_empty-clause-asks
returns-then-is_empty-clause-asks c =
    let empty : length c.args.options.now ≡ 0 = search rules in
    let none : map string_bytes c.args.options.now ≡ [] = no_words string_bytes c.args.options.now empty in
    is_note (map string_bytes c.args.files.now) (map string_bytes c.args.options.now) c.requires.are c.requires.behind none

pub returns-else-is_empty-clause-asks : goal.returns-else-is_empty-clause-asks
returns-else-is_empty-clause-asks c =
    let some : length c.args.options.now ≢ 0 = search rules in
    let more : map string_bytes c.args.options.now ≢ [] = some_words string_bytes c.args.options.now some in
    no_note (map string_bytes c.args.files.now) (map string_bytes c.args.options.now) c.requires.are c.requires.behind more
