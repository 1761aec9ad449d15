-- What a writer answers once the rest is written.
use Rattle.verse_layout.specs.declared.toks.Tok.{Tok}
use Rattle.verse_layout.specs.declared.writers.Writer.{Writer}
use Rattle.verse_layout.specs.Loads.{open_counts}
use Rattle.verse_layout.specs.Written.{tok, sep, no_sep}
use Rattle.verse_layout.specs.Answers.{Answer, with_front, spaced, bounded}
use Rattle.verse_layout.specs.Frames.{Walk, write}

abbrev pub rest_of : Writer → Walk → Answer
rest_of w x = with_front w.output.toks.items
    (bounded (open_counts w.output.load.inner w.output.load.outer.items)
    (spaced w.can_separate w.waiting x.written) x.stop)

abbrev pub after_tok : Tok → Walk → Walk
after_tok k x = write (tok k) x

abbrev pub after_sep : Tok → Walk → Walk
after_sep s x = write (sep s) x

abbrev pub after_no_sep : Walk → Walk
after_no_sep x = write no_sep x
