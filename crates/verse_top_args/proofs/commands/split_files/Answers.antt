-- So many words name files, and the next one does not.
use Rattle.std.proofs.Common.{◌<◌, length, string_bytes, subst, arith}
use Rattle.verse_top_args.specs.Words.{IsFile}
use Rattle.verse_top_args.proofs.FileLemmas.{one_more}
use Rattle.verse_top_args.proofs.commands.split_files.Goals as goal

pub files-preserved : goal.files-preserved
files-preserved c =
    let words = c.args.words.now in
    let low : c.files.count < length words = c.files-test.true in
    let named : IsFile (string_bytes c.index-words-count.result) =
    subst IsFile (c.as_str.ensures.value) (c.is_file.ensures.0 c.if-is_file.true) in (
      omega arith,
      one_more string_bytes words c.files.count c.index-words-count.result low c.files.invariant.1
          (subst (λ w. IsFile (string_bytes w)) c.index-words-count.is named),
    )
